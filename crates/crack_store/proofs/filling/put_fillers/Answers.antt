use Rattle.std.proofs.Common.{◌≡◌, get_or, sym, ap, ◌∙◌, inr}
use Rattle.std.proofs.lemmas.List.{get_or_default}
use Rattle.crack_arena.specs.Arena.{no_handle}
use Rattle.crack_arena.specs.Memories.{memory_at}
use Rattle.crack_column.specs.Column.{Column}
use Rattle.crack_store.proofs.FillLemmas.{one-is-left, IsFilling-next, IsStocked-ends}
use Rattle.crack_store.proofs.filling.put_fillers.Goals as goal

pub returns-in_default : goal.returns-in_default
returns-in_default c =
    absurd (one-is-left c.args.arena.now.cells c.args.fillers c.args.place c.args.count c.args.column.now c.args.rows.now c.fillers.i c.fillers.at c.fillers.column c.fillers.rows c.fillers.invariant c.fillers-test.true c.in_default.ensures.finds)

pub fillers-preserved : goal.fillers-preserved
fillers-preserved c =
    let cells = c.args.arena.now.cells in
    let done = rw c.seek_in.ensures.same at c.take-handle.ensures in
    let h = c.take-handle.result in
    let stands : get_or c.fillers.rows.handles c.in-Some.found no_handle ≡ h = sym (done.value.is ∙ get_or_default c.fillers.rows.handles c.in-Some.found h no_handle done.value.within) in
    let known : c.of-known.result ≡ memory_at cells h = rw c.row_at.ensures c.of-known.ensures in
    let after = c.swap_in_remembered.ensures.after in
    IsFilling-next cells c.args.fillers c.args.place c.args.count c.args.column.now c.args.rows.now c.fillers.i c.fillers.at c.fillers.column c.fillers.rows c.fillers.invariant c.fillers-test.true c.in-Some.found c.in-Some.ensures.finds c.swap_in_remembered.new.self c.take-handle.new.self h c.requires.fits c.requires.within done.handles stands (ap (λ (x : Column). x.handles) after) (c.swap_in_remembered.ensures.remembered cells c.fillers.invariant.remembers (inr known)) (done.remembered cells c.fillers.invariant.keys) (ap (λ (x : Column). x.room) after) done.room done.covered

pub returns : goal.returns
returns c =
    IsStocked-ends c.args.arena.now.cells c.args.fillers c.args.place c.args.count c.args.column.now c.args.rows.now c.fillers.i c.fillers.at c.fillers.column c.fillers.rows c.fillers.invariant c.fillers-test.false
