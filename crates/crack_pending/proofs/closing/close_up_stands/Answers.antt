use Rattle.std.proofs.Common.{◌≡◌, true, false, length, vec_len, replicate, arith}
use Rattle.std.proofs.lemmas.List.{length-replicate, get_or-replicate}
use Rattle.crack_pending.proofs.Kept.{full-from}
use Rattle.crack_pending.proofs.closing.close_up_stands.Goals as goal

pub returns-clause-full : goal.returns-clause-full
returns-clause-full c =
    let all = c.fill.ensures.items (λ y e. e) in
    let long : vec_len c.truncate.new.self ≡ c.args.rows = omega (arith, c.truncate.ensures.len, c.requires) in
    let stands = rw long at all in
    let size : length (replicate c.args.rows true) ≡ c.args.rows = length-replicate c.args.rows true in
    let full = full-from (replicate c.args.rows true) (λ n within. get_or-replicate c.args.rows n true false (omega (arith, within, size))) in
    rw stands (rw size at full)
