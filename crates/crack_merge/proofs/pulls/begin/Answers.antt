use Rattle.crack_merge.specs.Merges.{fills, takes_last}
use Rattle.crack_merge.proofs.pulls.begin.Goals as goal

pub returns-in-Some : goal.returns-in-Some
returns-in-Some c = rw c.lift.ensures.after (fills c.in-Some.place c.in-Some.ensures)

pub returns-in-None : goal.returns-in-None
returns-in-None c = rw (c.lift_last.ensures.after, c.pending_in-behind.ensures) (takes_last c.in-None.ensures)
