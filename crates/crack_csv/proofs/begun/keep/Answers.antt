use Rattle.std.proofs.Common.{◌≤◌, ◌∷◌, [], length, sym, ◌∙◌, arith}
use Rattle.std.proofs.lemmas.List.{take-append-le, take_all}
use Rattle.crack_csv.proofs.begun.keep.Goals as goal

pub returns-else-len-lt-FIELD_BYTES : goal.returns-else-len-lt-FIELD_BYTES
returns-else-len-lt-FIELD_BYTES c =
    let full : 22 ≤ length c.args.field.now.items = let count = c.len.ensures.value in let test = c.if-len-lt-FIELD_BYTES.false in omega (arith, count, test) in
    let few : length c.args.field.now.items ≤ 22 = let count = c.len.ensures.value in let fits = c.len.ensures.fits in omega (arith, count, fits) in
    sym (take-append-le 22 c.args.field.now.items (c.args.byte ∷ []) full ∙ take_all 22 c.args.field.now.items few)
