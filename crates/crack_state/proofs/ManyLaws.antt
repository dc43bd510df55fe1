-- One carry and then many in bulk have the same result as all of them in bulk.
use Rattle.std.proofs.Common.{◌≡◌, ℕ, ◌+◌, cond, min, suc, List, [], ◌∷◌, ◌++◌, length, Option, refl, sym, ap, ◌∙◌, inl, inr, arith}
use Rattle.std.specs.List.{All}
use Rattle.std.proofs.Math.Nat.{min-eq_left, min-eq_right}
use Rattle.std.proofs.lemmas.Bool.{cases_lt, cases_Bool}
use Rattle.std.proofs.lemmas.List.{append-nil}
use Rattle.std.proofs.lemmas.List.Elements.{All-weaker}
use Rattle.crack_arena.specs.Arena.{Handle}
use Rattle.crack_arena.specs.Rows.{key_at}
use Rattle.crack_index.specs.declared.mark.Mark.{Mark}
use Rattle.crack_state.specs.State.{State, IsIntact, greatest}
use Rattle.crack_state.specs.Steps.{more, lifted}
use Rattle.crack_state.specs.Pieces.{column_of, marks_of}
use Rattle.crack_state.specs.Queues.{CarryState, comes, turns, stopped}
use Rattle.crack_state.proofs.OneByOne.{reached, outcome, one_at_a_time, outcomes}
use Rattle.crack_state.specs.Carried.{pieces_of, is_doomed, ends_with, ended_so, ended_by, insertions_by}
use Rattle.crack_state.proofs.AgreeLaws.{Each, OfComing, Agrees, Each-cut, one_at_a_time-agree, outcomes-agree}
use Rattle.crack_state.proofs.CutLaws.{cut-joined, IsCut-intact}
use Rattle.crack_state.proofs.LeadLaws.{StaysAs, ends_with-same, carried_at}

-- the store with this room
abbrev pub with_room : ℕ → ℕ → State → State
with_room a b s = record s { column_room = a; in_room = b }

-- the rows that an outcome evicts
abbrev pub evicted_of : State → CarryState Handle → List Handle
evicted_of s (comes x) = []
evicted_of s (turns moved) = []
evicted_of s (stopped moved y) = cond (is_doomed s y) [] (y ∷ [])

-- a store whose pieces these events reach, one after the other, with these pending insertions remaining
abbrev pub bulk_from : Option ℕ → List (CarryState Handle) → List Handle → State → State
bulk_from ceiling es left s =
    let key = key_at s.cells in
    let stops = ends_with ceiling s in
    let pieces = one_at_a_time key stops es (pieces_of s) in
    ended_by (outcomes key stops es (pieces_of s)) (record s {
      column = column_of pieces;
      marks = marks_of 0 pieces;
      pending_in = left;
      tally = insertions_by (length es) s.tally;
    })

-- a counter that is raised by one, and then by this many
more_and : (n k : ℕ) → min (more n + k) greatest ≡ min (n + suc k) greatest
more_and n k = elim (cases_lt n greatest) [
  | inl l ↦
      let one : more n ≡ n + 1 = min-eq_left (omega (arith, l)) in
      ap (λ m. min m greatest) (omega (arith, one))
  | inr l ↦
      let full : more n ≡ greatest = min-eq_right (omega (arith, l)) in
      min-eq_right (omega (arith, full)) ∙ sym (min-eq_right (omega (arith, l)))
]

-- room changes nothing else
ended_so-room : (e : CarryState Handle) (s : State) (a b : ℕ) → ended_so e (with_room a b s) ≡ with_room a b (ended_so e s)
ended_so-room (comes x) s a b = refl
ended_so-room (turns moved) s a b = refl
ended_so-room (stopped moved y) s a b = elim (cases_Bool (is_doomed s y)) [
  | inl doomed ↦ rw doomed refl
  | inr lasting ↦ rw lasting refl
]

pub ended_by-room : (es : List (CarryState Handle)) (s : State) (a b : ℕ) → ended_by es (with_room a b s) ≡ with_room a b (ended_by es s)
ended_by-room [] s a b = refl
ended_by-room (e ∷ es) s a b = ap (ended_by es) (ended_so-room e s a b) ∙ ended_by-room es (ended_so e s) a b

-- what is pending after a carry
pub pending-carried : (ceiling : Option ℕ) (place : ℕ) (s : State) → (carried_at ceiling place s).pending_in ≡ (lifted place s).store.pending_in ++ evicted_of s (outcome (key_at s.cells) (ends_with ceiling s) (comes (lifted place s).hand) (pieces_of s))
pending-carried ceiling place s = of_ended (outcome (key_at s.cells) (ends_with ceiling s) (comes (lifted place s).hand) (pieces_of s))
  where
    of_ended : (e : CarryState Handle) → (ended_so e (lifted place s).store).pending_in ≡ (lifted place s).store.pending_in ++ evicted_of s e
    of_ended (comes x) = sym (append-nil (lifted place s).store.pending_in)
    of_ended (turns moved) = sym (append-nil (lifted place s).store.pending_in)
    of_ended (stopped moved y) = elim (cases_Bool (is_doomed s y)) [
      | inl doomed ↦ rw (doomed, append-nil (lifted place s).store.pending_in) refl
      | inr lasting ↦ rw lasting refl
    ]

-- an outcome has the same effect before the others and after them
ended_so-exchange : (e : CarryState Handle) (place : ℕ) (s : State) (column column' : List Handle) (marks marks' : List Mark) (left : List Handle) (k a b : ℕ) → (let v = record (ended_so e (lifted place s).store) { column = column; marks = marks; column_room = a; in_room = b } in record v { column = column'; marks = marks'; pending_in = left ++ evicted_of s e; tally = insertions_by k v.tally }) ≡ with_room a b (ended_so e (record s { column = column'; marks = marks'; pending_in = left; tally = insertions_by (suc k) s.tally }))
ended_so-exchange (comes x) place s column column' marks marks' left k a b = rw (append-nil left, more_and s.tally.insertions k) refl
ended_so-exchange (turns moved) place s column column' marks marks' left k a b = rw (append-nil left, more_and s.tally.insertions k) refl
ended_so-exchange (stopped moved y) place s column column' marks marks' left k a b = elim (cases_Bool (is_doomed s y)) [
  | inl doomed ↦ rw (doomed, append-nil left, more_and s.tally.insertions k) refl
  | inr lasting ↦ rw (lasting, more_and s.tally.insertions k) refl
]

module _ (ceiling : Option ℕ) (place : ℕ) (s : State) (a b : ℕ) where
  abbrev v : State
  v = with_room a b (carried_at ceiling place s)

  abbrev first : CarryState Handle
  first = comes (lifted place s).hand

  -- the store after the carries that follow the first one
  pub bulk_from-first : (es : List (CarryState Handle)) (left : List Handle) → All (StaysAs s v) v.column → All (OfComing (StaysAs s v)) es → bulk_from ceiling es (left ++ evicted_of s (outcome (key_at s.cells) (ends_with ceiling s) first (pieces_of s))) v ≡ with_room a b (bulk_from ceiling (first ∷ es) left s)
  bulk_from-first es left column coming =
      let key = key_at s.cells in
      let stops = ends_with ceiling s in
      let key' = key_at v.cells in
      let stops' = ends_with ceiling v in
      let e = outcome key stops first (pieces_of s) in
      let P = reached key stops first (pieces_of s) in
      let agree : (h : Handle) → StaysAs s v h → Agrees key' key stops' stops h = λ h same. record { keys = same.0; ends = ends_with-same ceiling s v h same } in
      let cut : pieces_of v ≡ P = cut-joined 0 P in
      let each : Each (Agrees key' key stops' stops) (pieces_of v) = Each-cut (Agrees key' key stops' stops) 0 v.marks v.column (All-weaker (StaysAs s v) (Agrees key' key stops' stops) agree v.column column) in
      let arriving : All (OfComing (Agrees key' key stops' stops)) es = All-weaker (OfComing (StaysAs s v)) (OfComing (Agrees key' key stops' stops)) (λ f one. of_coming f agree one) es coming in
      let pieces : one_at_a_time key' stops' es (pieces_of v) ≡ one_at_a_time key stops es P = one_at_a_time-agree key' key stops' stops es (pieces_of v) arriving each ∙ ap (one_at_a_time key stops es) cut in
      let ends : outcomes key' stops' es (pieces_of v) ≡ outcomes key stops es P = outcomes-agree key' key stops' stops es (pieces_of v) arriving each ∙ ap (outcomes key stops es) cut in
      let Q = one_at_a_time key stops es P in
      let same = ended_so-exchange e place s (column_of P) (column_of Q) (marks_of 0 P) (marks_of 0 Q) left (length es) a b in
      rw (pieces, ends) (ap (ended_by (outcomes key stops es P)) same ∙ ended_by-room (outcomes key stops es P) (ended_so e (record s { column = column_of Q; marks = marks_of 0 Q; pending_in = left; tally = insertions_by (suc (length es)) s.tally })) a b)
    where
      of_coming : (f : CarryState Handle) → ((h : Handle) → StaysAs s v h → Agrees (key_at v.cells) (key_at s.cells) (ends_with ceiling v) (ends_with ceiling s) h) → OfComing (StaysAs s v) f → OfComing (Agrees (key_at v.cells) (key_at s.cells) (ends_with ceiling v) (ends_with ceiling s)) f
      of_coming (comes x) agree one = agree x one
      of_coming (turns moved) agree one = tt
      of_coming (stopped moved y) agree one = tt

-- if no row comes in, nothing changes
pub bulk_from-none : (ceiling : Option ℕ) (s : State) → IsIntact s [] → bulk_from ceiling [] s.pending_in s ≡ s
bulk_from-none ceiling s intact =
    let cut = IsCut-intact s [] intact in
    let none : min (s.tally.insertions + 0) greatest ≡ s.tally.insertions = min-eq_left (omega (arith, intact.counted.insertions)) ∙ omega arith in
    rw (← cut.column, ← cut.marks, none) refl
