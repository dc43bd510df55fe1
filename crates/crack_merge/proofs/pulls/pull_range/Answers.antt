use Rattle.std.proofs.Common.{◌<◌, inl, inr, arith}
use Rattle.std.proofs.lemmas.List.{length-map}
use Rattle.crack_arena.specs.Rows.{key_at, keys_at}
use Rattle.crack_state.specs.Filled.{IsFilled}
use Rattle.crack_merge.specs.Merges.{begins}
use Rattle.crack_merge.proofs.AfterFillers.{found-later, PullsAll-filled, room-filled}
use Rattle.crack_merge.proofs.pulls.pull_range.Goals as goal
use Rattle.crack_merge.proofs.pulls.pull_range.Goals.{Else-not-fill_in_bulk}

pub returns-in_default : goal.returns-in_default
returns-in_default c = record { from = 0; seen = c.args.seen; pulls = begins c.args.seen c.requires.within c.requires.none; none = c.in_default.ensures }

pub fill_in_bulk-requires-clause-behind : goal.fill_in_bulk-requires-clause-behind
fill_in_bulk-requires-clause-behind c =
    let found = c.in-Some-next_in.ensures.holds in
    c.requires.behind (omega (arith, found.0, found.1))

pub fill_in_bulk-requires-clause-first : goal.fill_in_bulk-requires-clause-first
fill_in_bulk-requires-clause-first c =
    let store = c.args.store in
    found-later c.args.fillers (keys_at store.cells store.pending_in) c.args.seen 0 c.in-Some-next_in.first c.requires.none (λ k f l. absurd (omega (arith, f, l))) c.in-Some-next_in.ensures

pub pull_each-requires-clause-none : goal.pull_each-requires-clause-none
pull_each-requires-clause-none c = rw (c.fill_in_bulk.ensures.same c.if-not-fill_in_bulk.true) c.requires.none

pub returns-then-not-fill_in_bulk : goal.returns-then-not-fill_in_bulk
returns-then-not-fill_in_bulk c = rw (c.fill_in_bulk.ensures.same c.if-not-fill_in_bulk.true) at c.pull_each.ensures

-- the first pulls were by fillers
filled : (c : Else-not-fill_in_bulk) → IsFilled c.args.range c.args.fillers c.args.store c.fill_in_bulk.new.self
filled c = c.fill_in_bulk.ensures.filled c.if-not-fill_in_bulk.false

pub pull_rest-requires-clause-room : goal.pull_rest-requires-clause-room
pull_rest-requires-clause-room c =
    let store = c.args.store in
    let first = c.in-Some-next_in.ensures in
    let behind = c.requires.behind (omega (arith, first.holds.0, first.holds.1)) in
    let room : 0 < store.column_room = elim c.requires.room [
      | inl none ↦ absurd (omega (arith, none, first.after, first.within, length-map store.pending_in (key_at store.cells)))
      | inr some ↦ some
    ] in
    rw (room-filled c.args.range c.args.fillers store c.fill_in_bulk.new.self c.recall_invariant.ensures behind (filled (goal.at.pull_rest-requires-clause-room c).Else-not-fill_in_bulk)) room

pub returns : goal.returns
returns c =
    let store = c.args.store in
    let first = c.in-Some-next_in.ensures in
    let behind = c.requires.behind (omega (arith, first.holds.0, first.holds.1)) in
    PullsAll-filled c.args.range c.args.fillers store c.fill_in_bulk.new.self c.recall_invariant.ensures behind (filled (goal.at.returns c).Else-not-fill_in_bulk) c.args.seen c.requires.within c.requires.none c.pull_rest.result c.pull_rest.ensures
