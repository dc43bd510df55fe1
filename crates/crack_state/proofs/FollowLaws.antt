-- What steps leave unchanged, and what they count.
use Rattle.std.proofs.Common.{◌≡◌, ℕ, ◌+◌, ◌*◌, ◌<◌, ◌≤◌, List, [], ◌∷◌, length, refl, ap, ◌∙◌, arith, length-set}
use Rattle.std.specs.Prelude.{nat_lt}
use Rattle.std.proofs.lemmas.List.Edits.{length-remove}
use Rattle.std.proofs.lemmas.List.Sums.{count_by-le-length}
use Rattle.crack_row.specs.declared.command.Policy.{Policy}
use Rattle.crack_row.specs.declared.command.Policy.TheVariants.{Complete, Gradual, Ripple, Auto}
use Rattle.crack_index.specs.declared.mark.Mark.{Mark}
use Rattle.crack_index.specs.Marks.{next_mark, bounds_of}
use Rattle.crack_state.specs.declared.MergeReport.{MergeReport}
use Rattle.crack_state.specs.State.{State, Carried, IsIntact}
use Rattle.crack_state.specs.Steps.{more, hand_key, piece_end, lifted, pushed_on, appended, SameButRoom, bounds_above}
use Rattle.crack_state.specs.Merge.{Follows, Counts, IsExact, Tallies, MayEvict}
use Rattle.crack_state.proofs.Counters.{Rises, Rises-none, Rises-one, raised_counter}
use Rattle.crack_state.proofs.PieceLaws.{bounds_of-raise_next, length-bounds}
use Rattle.crack_state.proofs.StepLaws.{bounds_above-pushed_on}

pub Follows-refl : (s : State) → Follows s s
Follows-refl s = record { keys = refl; live = refl; bounds = refl; cells = refl; freed = refl }

pub Follows-trans : (s t u : State) → Follows s t → Follows t u → Follows s u
Follows-trans s t u a b = record {
  keys = b.keys ∙ a.keys;
  live = b.live ∙ a.live;
  bounds = b.bounds ∙ a.bounds;
  cells = b.cells ∙ a.cells;
  freed = b.freed ∙ a.freed;
}

-- a step that leaves cells and pending deletions
pub Follows-kept : (s t : State) → t.keys ≡ s.keys → t.cells ≡ s.cells → t.pending_out ≡ s.pending_out → bounds_of t.marks ≡ bounds_of s.marks → Follows s t
Follows-kept s t keys cells doomed bounds =
    record { keys = keys; live = rw (cells, doomed) refl; bounds = bounds; cells = ap length cells; freed = rw (cells, doomed) refl }

pub Follows-room : (s t : State) → SameButRoom s t → Follows s t
Follows-room s t room = rw room.same (record { keys = refl; live = refl; bounds = refl; cells = refl; freed = refl })

pub Follows-lifted : (i : ℕ) (s : State) → Follows s (lifted i s).store
Follows-lifted i s = record { keys = refl; live = refl; bounds = refl; cells = refl; freed = refl }

pub Follows-pushed_on : (c : Carried) → Follows c.store (pushed_on c).store
Follows-pushed_on c = record { keys = refl; live = refl; bounds = bounds_of-raise_next (next_mark (hand_key c) c.store.marks) c.store.marks; cells = refl; freed = refl }

pub Follows-appended : (c : Carried) → Follows c.store (appended c)
Follows-appended c = record { keys = refl; live = refl; bounds = bounds_of-raise_next (next_mark (hand_key c) c.store.marks) c.store.marks; cells = refl; freed = refl }

-- a store that follows another has as many marks
pub length_marks-Follows : (s t : State) → Follows s t → length t.marks ≡ length s.marks
length_marks-Follows s t follows = length-bounds t.marks s.marks follows.bounds

MayEvict-trans : (policy : Policy) (s t u : State) → (IsExact u.tally → IsExact t.tally) → MayEvict policy s t → MayEvict policy t u → MayEvict policy s u
MayEvict-trans Complete s t u before a b = b ∙ a
MayEvict-trans Gradual s t u before a b = b ∙ a
MayEvict-trans Ripple s t u before a b = λ exact. omega (arith, a (before exact), b exact)
MayEvict-trans Auto s t u before a b = b ∙ a

-- if nothing was evicted, no policy is broken
pub MayEvict-none : (policy : Policy) (s t : State) → s.tally.insertions ≤ t.tally.insertions → t.tally.evicted ≡ s.tally.evicted → MayEvict policy s t
MayEvict-none Complete s t rises same = same
MayEvict-none Gradual s t rises same = same
MayEvict-none Ripple s t rises same = λ _. omega (arith, rises, same)
MayEvict-none Auto s t rises same = same

-- no counter is at its greatest number, if none is later
pub IsExact-before : (policy : Policy) (s t : State) → Tallies policy s t → IsExact t.tally → IsExact s.tally
IsExact-before policy s t tallies exact = record {
  insertions = omega (arith, tallies.rises.insertions, exact.insertions);
  deletions = omega (arith, tallies.rises.deletions, exact.deletions);
  evicted = omega (arith, tallies.rises.evicted, exact.evicted);
  moved = omega (arith, tallies.rises.moved, exact.moved);
  pulled = omega (arith, tallies.rises.pulled, exact.pulled);
}

Counts-trans : (s t u : State) (q : ℕ) → Counts s t q → Counts t u q → Counts s u q
Counts-trans s t u q a b = record {
  insertions = omega (arith, a.insertions, b.insertions);
  deletions = omega (arith, a.deletions, b.deletions);
  moved = omega (arith, a.moved, b.moved);
  pulled = omega (arith, a.pulled, b.pulled);
}

pub Tallies-trans : (policy : Policy) (s t u : State) → length t.marks ≡ length s.marks → Tallies policy s t → Tallies policy t u → Tallies policy s u
Tallies-trans policy s t u same a b = record {
  rises = record {
    insertions = omega (arith, a.rises.insertions, b.rises.insertions);
    deletions = omega (arith, a.rises.deletions, b.rises.deletions);
    evicted = omega (arith, a.rises.evicted, b.rises.evicted);
    moved = omega (arith, a.rises.moved, b.rises.moved);
    pulled = omega (arith, a.rises.pulled, b.rises.pulled);
  };
  counts = λ exact. Counts-trans s t u (length s.marks + 1) (a.counts (IsExact-before policy t u b exact)) (rw same at (b.counts exact));
  evicts = MayEvict-trans policy s t u (IsExact-before policy t u b) a.evicts b.evicts;
}

-- what a step counts that puts in and takes out this many rows, and evicts none
pub Tallies-step : (policy : Policy) (s t : State) (put out : ℕ) → Rises put s.tally.insertions t.tally.insertions → Rises out s.tally.deletions t.tally.deletions → t.tally.evicted ≡ s.tally.evicted → s.tally.moved ≤ t.tally.moved → t.tally.moved ≤ s.tally.moved + put * (length s.marks + 1) → s.tally.pulled ≤ t.tally.pulled → t.tally.pulled ≤ s.tally.pulled + out * (length s.marks + 1) → length t.pending_in + put ≡ length s.pending_in → length t.pending_out + out ≡ length s.pending_out → Tallies policy s t
Tallies-step policy s t put out in_rose out_rose evicted moved_rises moved pulled_rises pulled fewer_in fewer_out = record {
  rises = record { insertions = in_rose.rises; deletions = out_rose.rises; evicted = omega (arith, evicted); moved = moved_rises; pulled = pulled_rises };
  counts = λ exact. record {
    insertions = omega (arith, in_rose.exact exact.insertions, fewer_in, evicted);
    deletions = omega (arith, out_rose.exact exact.deletions, fewer_out);
    moved = by_each t.tally.moved s.tally.moved s.tally.insertions t.tally.insertions put (length s.marks + 1) (in_rose.exact exact.insertions) moved;
    pulled = by_each t.tally.pulled s.tally.pulled s.tally.deletions t.tally.deletions out (length s.marks + 1) (out_rose.exact exact.deletions) pulled;
  };
  evicts = MayEvict-none policy s t in_rose.rises evicted;
}
  where
    by_each : (after before old new k q : ℕ) → new ≡ old + k → after ≤ before + k * q → after + old * q ≤ before + new * q
    by_each after before old new k q is few = rw is (grind arith)

pub Tallies-room : (policy : Policy) (s t : State) → SameButRoom s t → Tallies policy s t
Tallies-room policy s t room = rw room.same (Tallies-step policy s (record s { column_room = t.column_room; in_room = t.in_room }) 0 0 (Rises-none s.tally.insertions s.tally.insertions refl) (Rises-none s.tally.deletions s.tally.deletions refl) refl (omega arith) (omega arith) (omega arith) (omega arith) (omega arith) (omega arith))

-- the invariant of the pushes of a carry, from a hand that was lifted on: each brings the hand nearer to the column's end
pub record Pushes (b c : Carried) : Type 0 where
  pub same : c.store ≡ record b.store { column = c.store.column; marks = c.store.marks; tally = record b.store.tally { moved = c.store.tally.moved } }
  pub bounds : bounds_of c.store.marks ≡ bounds_of b.store.marks
  pub long : length c.store.column ≡ length b.store.column
  pub moved_rises : b.store.tally.moved ≤ c.store.tally.moved
  pub moved : c.store.tally.moved + bounds_above (hand_key c) c.store.marks ≤ b.store.tally.moved + bounds_above (hand_key b) b.store.marks

-- fewer bounds are above a key than there are pieces
pub bounds_above-few : (key : ℕ) (marks : List Mark) → bounds_above key marks ≤ length marks
bounds_above-few key marks = count_by-le-length (λ (m : Mark). nat_lt key m.bound.0) marks

pub Pushes-refl : (c : Carried) → Pushes c c
Pushes-refl c = record { same = refl; bounds = refl; long = refl; moved_rises = omega arith; moved = omega arith }

pub Pushes-pushed_on : (b c : Carried) → piece_end c.store (hand_key c) < length c.store.column → IsIntact c.store (c.hand ∷ []) → Pushes b c → Pushes b (pushed_on c)
Pushes-pushed_on b c ends intact pushes =
    let nearer = bounds_above-pushed_on c ends intact in
    let counter = raised_counter c.store.tally.moved in
    let next = (pushed_on c).store in
    record {
      same = ap (λ (x : State). let y : State = record x { column = next.column; marks = next.marks; tally = record x.tally { moved = next.tally.moved } } in y) pushes.same;
      bounds = (Follows-pushed_on c).bounds ∙ pushes.bounds;
      long = length-set c.store.column (piece_end c.store (hand_key c)) c.hand ∙ pushes.long;
      moved_rises = omega (arith, pushes.moved_rises, counter.rises intact.counted.moved);
      moved = omega (arith, pushes.moved, nearer, counter.most);
    }

pub Follows-Pushes : (b c : Carried) → Pushes b c → Follows b.store c.store
Follows-Pushes b c pushes =
    Follows-kept b.store c.store (ap (λ (x : State). x.keys) pushes.same) (ap (λ (x : State). x.cells) pushes.same) (ap (λ (x : State). x.pending_out) pushes.same) pushes.bounds

-- a whole carry: lifted, pushed on, and then put after the column, or buried, which takes out a row
pub Tallies-carried : (policy : Policy) (s t : State) (i out : ℕ) (c : Carried) → i < length s.pending_in → IsIntact s [] → Pushes (lifted i s) c → t.tally ≡ record c.store.tally { deletions = t.tally.deletions } → t.pending_in ≡ c.store.pending_in → Rises out c.store.tally.deletions t.tally.deletions → length t.pending_out + out ≡ length c.store.pending_out → Tallies policy s t
Tallies-carried policy s t i out c inside intact pushes ends ends_in rises ends_out =
    let tally : t.tally ≡ record s.tally { insertions = more s.tally.insertions; deletions = t.tally.deletions; moved = c.store.tally.moved } = ends ∙ ap (λ (x : State). let y : MergeReport = record x.tally { deletions = t.tally.deletions } in y) pushes.same in
    let moved = ap (λ (x : MergeReport). x.moved) tally in
    let pulled = ap (λ (x : MergeReport). x.pulled) tally in
    let deletions = ap (λ (x : State). x.tally.deletions) pushes.same in
    Tallies-step policy s t 1 out
    (Rises-one s.tally.insertions t.tally.insertions s.tally.insertions (ap (λ (x : MergeReport). x.insertions) tally) refl intact.counted.insertions)
    (record { rises = omega (arith, rises.rises, deletions); exact = λ less. omega (arith, rises.exact less, deletions) })
    (ap (λ (x : MergeReport). x.evicted) tally)
    (omega (arith, moved, pushes.moved_rises))
    (omega (arith, moved, pushes.moved, bounds_above-few (hand_key (lifted i s)) s.marks))
    (omega (arith, pulled))
    (omega (arith, pulled))
    (omega (arith, ap length ends_in, ap (λ (x : State). length x.pending_in) pushes.same, length-remove s.pending_in i inside))
    (omega (arith, ends_out, ap (λ (x : State). length x.pending_out) pushes.same))
