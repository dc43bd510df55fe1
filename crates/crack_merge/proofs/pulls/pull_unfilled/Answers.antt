use Rattle.crack_merge.proofs.PulledInBulk.{PullsAll-in_bulk}
use Rattle.crack_merge.proofs.pulls.pull_unfilled.Goals as goal

pub returns-then-pull_in_bulk : goal.returns-then-pull_in_bulk
returns-then-pull_in_bulk c =
    rw (c.pull_in_bulk.ensures.pulled c.if-pull_in_bulk.true) (PullsAll-in_bulk c.args.range c.args.fillers c.args.store c.args.seen c.recall_invariant.ensures c.requires.within c.requires.none c.requires.left)

pub pull_each-requires-clause-none : goal.pull_each-requires-clause-none
pull_each-requires-clause-none c = rw (c.pull_in_bulk.ensures.same c.if-pull_in_bulk.false) c.requires.none

pub returns : goal.returns
returns c = rw (c.pull_in_bulk.ensures.same c.if-pull_in_bulk.false) at c.pull_each.ensures
