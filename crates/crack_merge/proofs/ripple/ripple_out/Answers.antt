use Rattle.std.proofs.Common.{arith}
use Rattle.std.proofs.lemmas.List.{length-map}
use Rattle.crack_arena.specs.Rows.{key_at}
use Rattle.crack_merge.specs.Merges.{begins}
use Rattle.crack_merge.proofs.EdgeLaws.{IsRangeOf}
use Rattle.crack_merge.proofs.Merging.{TakenOut, TakenOut-pulled, TakenOut-made, not_outside, fillers_some}
use Rattle.crack_merge.proofs.ripple.ripple_out.Goals as goal
use Rattle.crack_merge.proofs.ripple.ripple_out.Goals.{After-recall_invariant, After-pull_range, After-pull_range-2}

of : (c : After-recall_invariant) → IsRangeOf c.args.store c.args.range
of c = record { some = c.requires.some; low = c.requires.low; high = c.requires.high; cracked = c.requires.cracked }

pub returns-in_default-clause-near : goal.returns-in_default-clause-near
returns-in_default-clause-near c =
    (TakenOut-pulled c.args.store c.args.store c.args.range (of (goal.at.returns-in_default-clause-near c).After-recall_invariant) c.recall_invariant.ensures (record { from = 0; seen = 0; pulls = begins 0 (omega arith) (λ k from up_to. absurd (omega (arith, up_to))); none = c.in_default.ensures })).near

pub pull_range-requires-clause-none : goal.pull_range-requires-clause-none
pull_range-requires-clause-none c = λ k from up_to.
    c.in_default-next_in.ensures k from (omega (arith, up_to, c.pending_in-behind.ensures, length-map c.args.store.pending_in (key_at c.args.store.cells)))

-- no filler is there
unfilled : (c : After-pull_range) → IsRangeOf c.args.store c.args.range → TakenOut c.args.store c.pull_range.result c.args.range
unfilled c of = TakenOut-pulled c.args.store c.pull_range.result c.args.range of c.recall_invariant.ensures (rw c.keys_beyond-fillers.ensures at c.pull_range.ensures)

pub returns-in_default-next_in-clause-near : goal.returns-in_default-next_in-clause-near
returns-in_default-next_in-clause-near c = (unfilled (goal.at.returns-in_default-next_in-clause-near c).After-pull_range (of (goal.at.returns-in_default-next_in-clause-near c).After-recall_invariant)).near

pub returns-in_default-next_in-clause-tallies : goal.returns-in_default-next_in-clause-tallies
returns-in_default-next_in-clause-tallies c = (unfilled (goal.at.returns-in_default-next_in-clause-tallies c).After-pull_range (of (goal.at.returns-in_default-next_in-clause-tallies c).After-recall_invariant)).tallies

pub returns-in_default-next_in-clause-moves : goal.returns-in_default-next_in-clause-moves
returns-in_default-next_in-clause-moves c = (unfilled (goal.at.returns-in_default-next_in-clause-moves c).After-pull_range (of (goal.at.returns-in_default-next_in-clause-moves c).After-recall_invariant)).moves

pub returns-in_default-next_in-clause-untouched : goal.returns-in_default-next_in-clause-untouched
returns-in_default-next_in-clause-untouched c = λ outside. absurd (not_outside c.args.store c.args.range c.args.store.pending_out 0 c.in-Some.field-0 c.in-Some.ensures outside)

pub returns-in-Err-clause-spare : goal.returns-in-Err-clause-spare
returns-in-Err-clause-spare c = λ none.
    absurd (omega (arith, none, fillers_some c.args.store c.args.range c.in-Some.field-0 c.in-Some-next_in.first c.in-Some.ensures (rw c.keys_beyond-fillers.ensures at c.in-Some-next_in.ensures)))

-- room was made for the fillers
filled : (c : After-pull_range-2) → IsRangeOf c.args.store c.args.range → TakenOut c.args.store c.pull_range-2.result c.args.range
filled c of = TakenOut-made c.args.store c.make_room.new.self c.pull_range-2.result c.args.range of c.recall_invariant.ensures c.make_room.ensures.same (rw c.keys_beyond-fillers.ensures at c.pull_range-2.ensures)

pub returns-clause-near : goal.returns-clause-near
returns-clause-near c = (filled (goal.at.returns-clause-near c).After-pull_range-2 (of (goal.at.returns-clause-near c).After-recall_invariant)).near

pub returns-clause-tallies : goal.returns-clause-tallies
returns-clause-tallies c = (filled (goal.at.returns-clause-tallies c).After-pull_range-2 (of (goal.at.returns-clause-tallies c).After-recall_invariant)).tallies

pub returns-clause-moves : goal.returns-clause-moves
returns-clause-moves c = (filled (goal.at.returns-clause-moves c).After-pull_range-2 (of (goal.at.returns-clause-moves c).After-recall_invariant)).moves

pub returns-clause-untouched : goal.returns-clause-untouched
returns-clause-untouched c = λ outside. absurd (not_outside c.args.store c.args.range c.args.store.pending_out 0 c.in-Some.field-0 c.in-Some.ensures outside)
