use Rattle.std.proofs.Common.{◌≡◌, [], ◌∙◌, arith}
use Rattle.crack_row.specs.declared.command.Policy.TheVariants.{Complete}
use Rattle.crack_state.proofs.AdvanceLaws.{keys_still}
use Rattle.crack_merge.specs.Loops.{TakesOut}
use Rattle.crack_merge.proofs.RangeLaws.{LacksFirst-empty, LacksFirst-missed, outside_of-keys}
use Rattle.crack_merge.proofs.PullLaws.{TakesInside-PullsOut}
use Rattle.crack_merge.proofs.complete.merge_deletions.Goals as goal

-- no pending insertion was taken, since there are no fillers, and no pending deletion is left, since all have keys of the store
taken : (c : goal.After-recall_invariant-2) → TakesOut Complete c.args.store c.pull_range-emptied.result × (c.pull_range-emptied.result.pending_out ≡ [])
taken c =
    let s = c.args.store in
    let t = c.pull_range-emptied.result in
    let pulled = c.pull_range-emptied.ensures in
    let r = c.keys-keys.result in
    let now = TakesInside-PullsOut Complete r c.default.result s pulled.from pulled.seen t c.recall_invariant.ensures pulled.pulls in
    let left = LacksFirst-missed s.cells r s.pending_out t.pending_out pulled.from now.lacks (rw (keys_still s.cells t.cells t.pending_out now.advances.reads now.intact.owned.doomed_reads) at pulled.none) in
    let none = outside_of-keys r s.cells s.pending_out (rw c.keys-keys.ensures c.recall_invariant.ensures.within) c.recall_invariant.ensures.owned.doomed_reads in (
      record { advances = now.advances; pending_in = LacksFirst-empty s.cells c.default.result s.pending_in t.pending_in pulled.seen (omega arith) now.first.lacks },
      left ∙ none,
    )

pub returns-clause-takes : goal.returns-clause-takes
returns-clause-takes c = (taken c).0

pub returns-clause-all : goal.returns-clause-all
returns-clause-all c = (taken c).1
