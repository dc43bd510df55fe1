-- The invariant of each carry and each pull of a merge, and so of any list of them.
use Rattle.std.proofs.Common.{◌≡◌, ℕ, ◌+◌, ◌<◌, ◌≤◌, List, [], ◌∷◌, length, get_or, None, refl, sym, ap, ◌∙◌, inl, inr, arith, ◌-◌, length-set}
use Rattle.std.specs.Prelude.{nat_le}
use Rattle.std.specs.List.{All, remove}
use Rattle.std.proofs.lemmas.Bool.{cases_eq, true≢false}
use Rattle.std.proofs.lemmas.List.Edits.{length-remove}
use Rattle.std.proofs.lemmas.List.Sums.{count_by-le-length}
use Rattle.crack_row.proofs.Lists.{map_agree}
use Rattle.crack_row.specs.Ranges.{Range}
use Rattle.crack_row.specs.declared.Row.{Row}
use Rattle.crack_row.specs.declared.command.Policy.{Policy}
use Rattle.crack_arena.specs.Arena.{Cell, Handle, read, place_in}
use Rattle.crack_arena.specs.Rows.{key_of_row, key_at, keys_at}
use Rattle.crack_index.specs.declared.mark.Mark.{Mark}
use Rattle.crack_index.specs.Marks.{bounds_of}
use Rattle.crack_state.specs.declared.MergeReport.{MergeReport}
use Rattle.crack_state.specs.State.{State, Carried, Reads, IsIntact}
use Rattle.crack_state.specs.Steps.{hand_key, piece_start, IsDoomed, lifted, lifted_last, appended, pulled_back, exchanged, buried, SameButRoom}
use Rattle.crack_state.proofs.PieceLaws.{bounds_up_to}
use Rattle.crack_state.specs.Merge.{Follows, Tallies, SomeOf, StillReads, outside_of}
use Rattle.crack_state.specs.Inside.{Advances}
use Rattle.crack_state.proofs.OwnedLaws.{hand_apart}
use Rattle.crack_state.proofs.CellLaws.{AgreeOff-set, read-off}
use Rattle.crack_state.proofs.Counters.{Rises, Rises-none, Rises-one, raised_counter}
use Rattle.crack_state.proofs.OutsideLaws.{SomeOf-refl, SomeOf-trans, SomeOf-remove, outside_of-reads}
use Rattle.crack_state.proofs.PullLaws.{Follows-lifted_last, Follows-pulled_back, bounds_up_to-pulled_back}
use Rattle.crack_state.proofs.BuryLaws.{doomed_stands, read-set_none, Follows-buried}
use Rattle.crack_state.proofs.FollowLaws.{Pushes, Follows-trans, Follows-kept, Follows-room, Follows-lifted, Follows-appended, length_marks-Follows, Tallies-trans, Tallies-room, Tallies-step, Tallies-carried}

pub StillReads-refl : (cells : List (Cell Row)) → StillReads cells cells
StillReads-refl cells = λ h reads. refl

pub StillReads-trans : (a b c : List (Cell Row)) → StillReads a b → StillReads b c → StillReads a c
StillReads-trans a b c first second = λ h reads. let e = second h reads in e ∙ first h (rw e at reads)

-- handles that still read are outside as before
pub outside_of-still : (cells after : List (Cell Row)) (r : Range) (hs : List Handle) → StillReads cells after → All (Reads after) hs → outside_of after r hs ≡ outside_of cells r hs
outside_of-still cells after r hs still reads = outside_of-reads cells after r hs (λ k d h. still (get_or hs k d) (reads k d h))

-- only the hand's cell is read no more
pub StillReads-buried : (c : Carried) → IsIntact c.store (c.hand ∷ []) → StillReads c.store.cells (buried c).cells
StillReads-buried c intact = λ h reads.
    let s = c.store in
    let cell : Cell Row = record { generation = c.hand.generation + 1; value = None } in
    elim (cases_eq h.slot c.hand.slot) [
      | inl e ↦ let none : read (buried c).cells h ≡ None = read-set_none s.cells c.hand.slot (c.hand.generation + 1) h (hand_apart s.cells s.free s.column s.pending_in s.pending_out c.hand intact.owned).within e in absurd (true≢false (sym (rw none at reads)))
      | inr ne ↦ read-off c.hand.slot s.cells (buried c).cells h (AgreeOff-set s.cells c.hand.slot cell) ne
    ]

pub Advances-room : (policy : Policy) (s t : State) → SameButRoom s t → Advances policy s t
Advances-room policy s t room = record {
  follows = Follows-room s t room;
  tallies = Tallies-room policy s t room;
  reads = rw (ap (λ (x : State). x.cells) room.same) (StillReads-refl s.cells);
  pending_out = rw (ap (λ (x : State). x.pending_out) room.same) (SomeOf-refl s.pending_out);
}

pub Advances-refl : (policy : Policy) (s : State) → Advances policy s s
Advances-refl policy s = Advances-room policy s s (record { same = refl })

pub Advances-trans : (policy : Policy) (s t u : State) → Advances policy s t → Advances policy t u → Advances policy s u
Advances-trans policy s t u a b = record {
  follows = Follows-trans s t u a.follows b.follows;
  tallies = Tallies-trans policy s t u (length_marks-Follows s t a.follows) a.tallies b.tallies;
  reads = StillReads-trans s.cells t.cells u.cells a.reads b.reads;
  pending_out = SomeOf-trans u.pending_out t.pending_out s.pending_out b.pending_out a.pending_out;
}

-- the i-th pending insertion was carried into the column, or up to a doomed row, which was buried
pub record CarriedIn (s t : State) (i : ℕ) : Type 0 where
  pub advances : (policy : Policy) → Advances policy s t
  pub pending_in : t.pending_in ≡ remove s.pending_in i
  pub few : length s.pending_out ≤ length t.pending_out + 1

-- what was moved, and then put after the column or buried: cells and pending deletions change at the end alone
advances_by : (policy : Policy) (s u t : State) → u.keys ≡ s.keys → u.cells ≡ s.cells → u.pending_out ≡ s.pending_out → bounds_of u.marks ≡ bounds_of s.marks → Follows u t → StillReads u.cells t.cells → SomeOf t.pending_out u.pending_out → Tallies policy s t → Advances policy s t
advances_by policy s u t keys cells doomed bounds follows reads some tallies = record {
  follows = Follows-trans s u t (Follows-kept s u keys cells doomed bounds) follows;
  tallies = tallies;
  reads = StillReads-trans s.cells u.cells t.cells (rw cells (StillReads-refl s.cells)) reads;
  pending_out = rw doomed at some;
}

carried_in : (s t : State) (i out : ℕ) (c : Carried) → i < length s.pending_in → IsIntact s [] → Pushes (lifted i s) c → t.tally ≡ record c.store.tally { deletions = t.tally.deletions } → t.pending_in ≡ c.store.pending_in → Follows c.store t → StillReads c.store.cells t.cells → SomeOf t.pending_out c.store.pending_out → Rises out c.store.tally.deletions t.tally.deletions → length t.pending_out + out ≡ length c.store.pending_out → out ≤ 1 → CarriedIn s t i
carried_in s t i out c inside intact pushes ends ends_in follows reads some rises ends_out one =
    let doomed = ap (λ (x : State). x.pending_out) pushes.same in
    record {
      advances = λ policy. advances_by policy s c.store t (ap (λ (x : State). x.keys) pushes.same) (ap (λ (x : State). x.cells) pushes.same) doomed pushes.bounds follows reads some (Tallies-carried policy s t i out c inside intact pushes ends ends_in rises ends_out);
      pending_in = ends_in ∙ ap (λ (x : State). x.pending_in) pushes.same;
      few = omega (arith, ends_out, one, ap length doomed);
    }

pub CarriedIn-appended : (s : State) (i : ℕ) (c : Carried) → i < length s.pending_in → IsIntact s [] → Pushes (lifted i s) c → CarriedIn s (appended c) i
CarriedIn-appended s i c inside intact pushes =
    carried_in s (appended c) i 0 c inside intact pushes refl refl (Follows-appended c) (StillReads-refl c.store.cells) (SomeOf-refl c.store.pending_out) (Rises-none c.store.tally.deletions c.store.tally.deletions refl) (omega arith) (omega arith)

pub CarriedIn-buried : (s : State) (i : ℕ) (c : Carried) → i < length s.pending_in → IsIntact s [] → Pushes (lifted i s) c → IsDoomed c → IsIntact c.store (c.hand ∷ []) → CarriedIn s (buried c) i
CarriedIn-buried s i c inside intact pushes doomed now =
    let taken = c.store.tally.deletions in
    let place = place_in c.store.pending_out c.hand.slot in
    carried_in s (buried c) i 1 c inside intact pushes refl refl (Follows-buried c doomed now) (StillReads-buried c now) (SomeOf-remove c.store.pending_out place) (Rises-one taken (buried c).tally.deletions taken refl refl now.counted.deletions) (omega (arith, length-remove c.store.pending_out place (doomed_stands c doomed now).within)) (omega arith)

-- a pending insertion was lifted
pub Advances-lifted : (policy : Policy) (i : ℕ) (s : State) → i < length s.pending_in → IsIntact s [] → Advances policy s (lifted i s).store
Advances-lifted policy i s inside intact = record {
  follows = Follows-lifted i s;
  tallies = Tallies-step policy s (lifted i s).store 1 0
      (Rises-one s.tally.insertions (lifted i s).store.tally.insertions s.tally.insertions refl refl intact.counted.insertions)
      (Rises-none s.tally.deletions s.tally.deletions refl)
      refl
      (omega arith)
      (omega arith)
      (omega arith)
      (omega arith)
      (omega (arith, length-remove s.pending_in i inside))
      (omega arith);
  reads = StillReads-refl s.cells;
  pending_out = SomeOf-refl s.pending_out;
}

-- the column's last row was lifted
pub Advances-lifted_last : (policy : Policy) (s : State) → Advances policy s (lifted_last s).store
Advances-lifted_last policy s = record {
  follows = Follows-lifted_last s;
  tallies = Tallies-step policy s (lifted_last s).store 0 0
      (Rises-none s.tally.insertions s.tally.insertions refl)
      (Rises-none s.tally.deletions s.tally.deletions refl)
      refl
      (omega arith)
      (omega arith)
      (omega arith)
      (omega arith)
      (omega arith)
      (omega arith);
  reads = StillReads-refl s.cells;
  pending_out = SomeOf-refl s.pending_out;
}

-- the invariant of the steps of a pull, from the hand with which it begins: each brings the hand nearer to the column's front
pub record Draws (s : State) (c : Carried) : Type 0 where
  pub same : c.store ≡ record s { column = c.store.column; marks = c.store.marks; tally = record s.tally { pulled = c.store.tally.pulled } }
  pub bounds : bounds_of c.store.marks ≡ bounds_of s.marks
  pub long : length c.store.column ≡ length s.column
  pub pulled_rises : s.tally.pulled ≤ c.store.tally.pulled
  pub pulled : c.store.tally.pulled + bounds_up_to (hand_key c) c.store.marks ≤ s.tally.pulled + length s.marks

pub Draws-refl : (c : Carried) → Draws c.store c
Draws-refl c =
    let few : bounds_up_to (hand_key c) c.store.marks ≤ length c.store.marks = count_by-le-length (λ (m : Mark). nat_le m.bound.0 (hand_key c)) c.store.marks in
    record { same = refl; bounds = refl; long = refl; pulled_rises = omega arith; pulled = omega (arith, few) }

pub Draws-pulled_back : (s : State) (c : Carried) → 0 < piece_start c.store (hand_key c) → IsIntact c.store (c.hand ∷ []) → Draws s c → Draws s (pulled_back c)
Draws-pulled_back s c some intact draws =
    let nearer = bounds_up_to-pulled_back c some intact in
    let counter = raised_counter c.store.tally.pulled in
    let next = (pulled_back c).store in
    record {
      same = ap (λ (x : State). let y : State = record x { column = next.column; marks = next.marks; tally = record x.tally { pulled = next.tally.pulled } } in y) draws.same;
      bounds = (Follows-pulled_back c).bounds ∙ draws.bounds;
      long = length-set c.store.column (piece_start c.store (hand_key c) - 1) c.hand ∙ draws.long;
      pulled_rises = omega (arith, draws.pulled_rises, counter.rises intact.counted.pulled);
      pulled = omega (arith, draws.pulled, nearer, counter.most);
    }

-- a pull, right before it buries
pub record Drawn (s : State) (e : Carried) : Type 0 where
  pub same : e.store ≡ record s { column = e.store.column; marks = e.store.marks; tally = record s.tally { pulled = e.store.tally.pulled } }
  pub bounds : bounds_of e.store.marks ≡ bounds_of s.marks
  pub long : length e.store.column ≡ length s.column
  pub pulled_rises : s.tally.pulled ≤ e.store.tally.pulled
  pub pulled : e.store.tally.pulled ≤ s.tally.pulled + (length s.marks + 1)

-- the doomed row came into hand
pub Drawn-reached : (s : State) (c : Carried) → Draws s c → Drawn s c
Drawn-reached s c draws = record { same = draws.same; bounds = draws.bounds; long = draws.long; pulled_rises = draws.pulled_rises; pulled = omega (arith, draws.pulled) }

-- the hand took its place
pub Drawn-exchanged : (s : State) (c : Carried) (place : ℕ) → IsIntact c.store (c.hand ∷ []) → Draws s c → Drawn s (exchanged place c)
Drawn-exchanged s c place intact draws =
    let counter = raised_counter c.store.tally.pulled in
    let next = (exchanged place c).store in
    record {
      same = ap (λ (x : State). let y : State = record x { column = next.column; tally = record x.tally { pulled = next.tally.pulled } } in y) draws.same;
      bounds = draws.bounds;
      long = length-set c.store.column place c.hand ∙ draws.long;
      pulled_rises = omega (arith, draws.pulled_rises, counter.rises intact.counted.pulled);
      pulled = omega (arith, draws.pulled, counter.most);
    }

-- a pending deletion was taken out of the column, and no other
pub record TakenOut (s t : State) (slot : ℕ) : Type 0 where
  pub advances : (policy : Policy) → Advances policy s t
  pub pending_in : t.pending_in ≡ s.pending_in
  pub pending_out : t.pending_out ≡ remove s.pending_out (place_in s.pending_out slot)

tallies_drawn : (policy : Policy) (s : State) (e : Carried) → Drawn s e → place_in s.pending_out e.hand.slot < length s.pending_out → IsIntact e.store (e.hand ∷ []) → Tallies policy s (buried e)
tallies_drawn policy s e drawn within intact =
    let tally = ap (λ (x : State). x.tally) drawn.same in
    let moved = ap (λ (x : MergeReport). x.moved) tally in
    Tallies-step policy s (buried e) 0 1
    (Rises-none s.tally.insertions e.store.tally.insertions (ap (λ (x : MergeReport). x.insertions) tally))
    (Rises-one s.tally.deletions (buried e).tally.deletions e.store.tally.deletions refl (ap (λ (x : MergeReport). x.deletions) tally) intact.counted.deletions)
    (ap (λ (x : MergeReport). x.evicted) tally)
    (omega (arith, moved))
    (omega (arith, moved))
    drawn.pulled_rises
    (omega (arith, drawn.pulled))
    (omega (arith, ap (λ (x : State). length x.pending_in) drawn.same))
    (omega (arith, ap (λ (x : State). length (remove x.pending_out (place_in x.pending_out e.hand.slot))) drawn.same, length-remove s.pending_out (place_in s.pending_out e.hand.slot) within))

pub TakenOut-buried : (s : State) (e : Carried) → Drawn s e → place_in s.pending_out e.hand.slot < length s.pending_out → IsDoomed e → IsIntact e.store (e.hand ∷ []) → TakenOut s (buried e) e.hand.slot
TakenOut-buried s e drawn within doomed intact =
    let out = ap (λ (x : State). x.pending_out) drawn.same in
    record {
      advances = λ policy. advances_by policy s e.store (buried e) (ap (λ (x : State). x.keys) drawn.same) (ap (λ (x : State). x.cells) drawn.same) out drawn.bounds (Follows-buried e doomed intact) (StillReads-buried e intact) (SomeOf-remove e.store.pending_out (place_in e.store.pending_out e.hand.slot)) (tallies_drawn policy s e drawn within intact);
      pending_in = ap (λ (x : State). x.pending_in) drawn.same;
      pending_out = ap (λ hs. remove hs (place_in hs e.hand.slot)) out;
    }

-- handles that still read have the keys that they had
pub keys_still : (cells after : List (Cell Row)) (hs : List Handle) → StillReads cells after → All (Reads after) hs → keys_at after hs ≡ keys_at cells hs
keys_still cells after hs still reads = map_agree (key_at after) (key_at cells) hs (λ k d h. ap key_of_row (still (get_or hs k d) (reads k d h)))
