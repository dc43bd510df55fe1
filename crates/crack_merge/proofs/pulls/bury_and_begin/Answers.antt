use Rattle.std.proofs.Common.{arith}
use Rattle.std.proofs.lemmas.List.{length-map}
use Rattle.crack_arena.specs.Rows.{key_at}
use Rattle.crack_merge.specs.Merges.{fills, takes_last}
use Rattle.crack_merge.proofs.Pulling.{keys_in-buried}
use Rattle.crack_merge.proofs.pulls.bury_and_begin.Goals as goal

pub bury_and_lift-requires-clause-there : goal.bury_and_lift-requires-clause-there
bury_and_lift-requires-clause-there c =
    let store = c.args.carrying.now.store in
    rw c.seek_in.ensures.same (omega (arith, c.in-Some.ensures.finds.within, length-map store.pending_in (key_at store.cells)))

pub returns-in-Some : goal.returns-in-Some
returns-in-Some c =
    let keys = keys_in-buried c.args.carrying.now c.recall_invariant.ensures c.requires.doomed in
    rw (c.bury_and_lift.ensures.after, c.seek_in.ensures.same) (fills c.in-Some.place (rw keys c.in-Some.ensures.finds))

pub returns-in-None : goal.returns-in-None
returns-in-None c =
    let keys = keys_in-buried c.args.carrying.now c.recall_invariant.ensures c.requires.doomed in
    rw (c.bury_and_lift_last.ensures.after, c.pending_in-behind.ensures, c.seek_in.ensures.same) (takes_last (rw keys c.in-None.ensures.finds))
