use Rattle.std.specs.Prelude.{◌≡◌, ◌+◌, ◌≤◌, ℕ, pos, List, ◌∷◌, [], ◌++◌, length, take}
use Rattle.std.proofs.Common.{get_or, arith, ap, sym, ◌∙◌, append_assoc, w64, to_z, of_z}
use Rattle.std.proofs.lemmas.Int.{ints}
use Rattle.std.proofs.lemmas.List.{take_all}
use Rattle.crack_row.specs.declared.Row.{Row}
use Rattle.crack_core.specs.Inside.{of_part}
use Rattle.crack_core.proofs.ListLaws.{stand-more, of_part-more, long-so-far, rest-behind}
use Rattle.crack_core.proofs.listing.list_rows.Goals as goal

-- a row that no list has
abbrev nothing : Row
nothing = record { serial = record { 0 = 0 }; key = record { 0 = 0 }; payload = record { 0 = pos 0 } }

pub rows-preserved : goal.rows-preserved
rows-preserved c before is stand =
    let rows = c.args.rows.now in
    let so_far = before ++ of_part c.args.part (take c.rows.i rows) in
    let row = get_or rows c.rows.i nothing in
    let long : length so_far ≡ c.args.from + c.rows.i = long-so-far before c.args.part rows c.rows.i c.args.from is (omega arith) in
    let grown : before ++ of_part c.args.part (take (c.rows.i + 1) rows) ≡ so_far ++ (c.args.part, row) ∷ [] =
    ap (λ (more : List (ℕ × Row)). before ++ more) (of_part-more c.args.part rows c.rows.i nothing c.rows-test.true) ∙ sym (append_assoc before (of_part c.args.part (take c.rows.i rows)) ((c.args.part, row) ∷ [])) in
    let written : to_z w64 (of_z w64 c.number-in-rows.result) ≡ row.payload.0 = omega (arith, ints, c.number-in-rows.ensures) in
    let serials : length c.rows.serials ≡ length c.rows.parts = omega arith in
    let keys : length c.rows.keys ≡ length c.rows.parts = omega arith in
    let payloads : length c.rows.payloads ≡ length c.rows.parts = omega arith in
    rw (grown, c.number.ensures, written)
    (stand-more so_far (c.args.part, row) c.rows.parts c.rows.serials c.rows.keys c.rows.payloads (c.args.from + c.rows.i) long c.if-at-parts.false serials keys payloads (c.rows.invariant before is stand))

pub returns-then-at-parts : goal.returns-then-at-parts
returns-then-at-parts c before is stand =
    let rows = c.args.rows.now in
    let so_far = before ++ of_part c.args.part (take c.rows.i rows) in
    let long : length so_far ≡ c.args.from + c.rows.i = long-so-far before c.args.part rows c.rows.i c.args.from is (omega arith) in
    let full : length c.rows.parts ≤ length so_far = omega (arith, long, c.if-at-parts.true) in
    rest-behind before c.args.part rows c.rows.i c.rows.parts c.rows.serials c.rows.keys c.rows.payloads full (c.rows.invariant before is stand)

pub returns : goal.returns
returns c before is stand =
    let all : take c.rows.i c.args.rows.now ≡ c.args.rows.now = take_all c.rows.i c.args.rows.now c.rows-test.false in
    rw all at (c.rows.invariant before is stand)
