use Rattle.std.proofs.Common.{◌≡◌, map, arith, ◌∙◌}
use Rattle.std.specs.Int.{w128}
use Rattle.std.proofs.lemmas.Int.{ints, to_z-of_z, fits_signed_from_abs}
use Rattle.crack_arena.specs.Arena.{times}
use Rattle.crack_arena.specs.Rows.{unknown}
use Rattle.crack_column.specs.Keeps.{remembered_key}
use Rattle.crack_column.specs.Labels.{tags_of}
use Rattle.crack_column.proofs.LabelLaws.{total-tags_of}
use Rattle.crack_column.proofs.Passes.{all_read, sum_all}
use Rattle.crack_column.proofs.tag.sum.Goals as goal

pub returns-then-unread-eq0-clause-value : goal.returns-then-unread-eq0-clause-value
returns-then-unread-eq0-clause-value c =
    let cells = c.args.arena.now.cells in
    let ts = tags_of c.args.labels.now c.args.payloads.now in
    let none : times unknown (map remembered_key ts) ≡ 0 = omega (arith, c.requires.unread, c.if-unread-eq0.true) in
    to_z-of_z w128 c.sum_remembered.result (fits_signed_from_abs w128 c.sum_remembered.result (omega (arith, ints, c.sum_remembered.ensures.least, c.sum_remembered.ensures.most, c.requires.few, c.requires.beside))) ∙ c.sum_remembered.ensures.value ∙ total-tags_of c.args.labels.now c.args.payloads.now c.requires.beside ∙ sum_all cells ts (all_read cells ts none c.requires.known)

pub returns-then-unread-eq0-clause-small : goal.returns-then-unread-eq0-clause-small
returns-then-unread-eq0-clause-small c =
    let fits = to_z-of_z w128 c.sum_remembered.result (fits_signed_from_abs w128 c.sum_remembered.result (omega (arith, ints, c.sum_remembered.ensures.least, c.sum_remembered.ensures.most, c.requires.few, c.requires.beside))) in
    rw fits (omega (arith, ints, c.sum_remembered.ensures.least, c.requires.few), omega (arith, ints, c.sum_remembered.ensures.most, c.requires.few, c.requires.beside))

pub returns-else-unread-eq0-clause-small : goal.returns-else-unread-eq0-clause-small
returns-else-unread-eq0-clause-small c =
    let fits = to_z-of_z w128 c.sum_read.result (fits_signed_from_abs w128 c.sum_read.result (omega (arith, ints, c.sum_read.ensures.least, c.sum_read.ensures.most, c.requires.few, c.requires.beside))) in
    rw fits (omega (arith, ints, c.sum_read.ensures.least, c.requires.few), omega (arith, ints, c.sum_read.ensures.most, c.requires.few, c.requires.beside))
