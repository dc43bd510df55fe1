-- What a carry preserves: the store is intact, and each remaining row has the same key and ends a carry if it did before.
use Rattle.std.proofs.Common.{◌≡◌, ℕ, ◌+◌, ◌-◌, ◌<◌, ◌≤◌, false, ltb, List, [], ◌∷◌, length, get_or, Option, None, refl, sym, ap, inl, inr, arith}
use Rattle.std.specs.List.{All}
use Rattle.std.proofs.lemmas.Bool.{cases_Bool, le-ltb}
use Rattle.std.proofs.lemmas.List.{append-nil}
use Rattle.crack_arena.specs.Arena.{Handle, no_handle, times, slots, place_in}
use Rattle.crack_arena.specs.Rows.{key_at}
use Rattle.crack_arena.proofs.Times.{times_map_at, times_other}
use Rattle.crack_index.specs.declared.mark.Mark.{Mark}
use Rattle.crack_state.specs.State.{State, Carried, IsIntact}
use Rattle.crack_state.specs.Steps.{lifted, pushed_on, buried}
use Rattle.crack_state.proofs.OwnedLaws.{times-places, times-taken, once-most, hand_apart, apart_from_times}
use Rattle.crack_state.proofs.CellLaws.{AgreeOff-set, key_at-off}
use Rattle.crack_state.proofs.BuryLaws.{IsIntact-buried, doomed_stands}
use Rattle.crack_state.proofs.PullLaws.{IsIntact-returned}
use Rattle.crack_state.proofs.StepLaws.{IsIntact-pushed_on, IsIntact-appended}
use Rattle.crack_state.specs.Pieces.{column_of, marks_of}
use Rattle.crack_state.specs.Queues.{CarryState, comes, turns, stopped}
use Rattle.crack_state.proofs.OneByOne.{reached, outcome}
use Rattle.crack_state.specs.Carried.{pieces_of, is_over, is_doomed, ends_with, ended_so}
use Rattle.crack_state.proofs.Carried.{Leads, buries, evicts, ends, goes_on}
use Rattle.crack_state.proofs.CarryLaws.{landed, Leads-reached}
use Rattle.crack_state.proofs.CutLaws.{IsCut-intact}

-- an intact store is left intact
pub IsIntact-Leads : (ceiling : Option ℕ) (c : Carried) (t : State) → IsIntact c.store (c.hand ∷ []) → Leads ceiling c t → IsIntact t []
IsIntact-Leads ceiling c t intact (buries d doomed) = IsIntact-buried d doomed intact
IsIntact-Leads ceiling c t intact (evicts d lasting over) = IsIntact-returned d (omega (arith, lasting)) intact
IsIntact-Leads ceiling c t intact (ends d lasting below at_end) = IsIntact-appended d at_end intact
IsIntact-Leads ceiling c t intact (goes_on d u lasting below before rest) = IsIntact-Leads ceiling (pushed_on d) u (IsIntact-pushed_on d before intact) rest

-- the row's key is the same in both stores, and it is doomed in both or in none
abbrev pub StaysAs : State → State → Handle → Type 0
StaysAs s t h = (key_at t.cells h ≡ key_at s.cells h) × (is_doomed t h ≡ is_doomed s h)

pub ends_with-same : (ceiling : Option ℕ) (s t : State) (h : Handle) → StaysAs s t h → ends_with ceiling t h ≡ ends_with ceiling s h
ends_with-same ceiling s t h same = rw (same.1, same.0) refl

StaysAs-buried : (c : Carried) (hs : List Handle) → IsIntact c.store (c.hand ∷ []) → 0 < times c.hand.slot (slots c.store.pending_out) → times c.hand.slot (slots hs) ≡ 0 → All (StaysAs c.store (buried c)) hs
StaysAs-buried c hs intact doomed off = λ k d within.
    let s = c.store in
    let h = get_or hs k d in
    let apart = apart_from_times hs c.hand.slot off k d within in
    let stands = doomed_stands c doomed intact in
    let counted = times-taken h.slot s.pending_out (place_in s.pending_out c.hand.slot) c.hand stands.within stands.is in
    let same : times h.slot (slots (buried c).pending_out) ≡ times h.slot (slots s.pending_out) = omega (arith, counted, times_other h.slot c.hand.slot (λ e. apart (sym e))) in
    (key_at-off c.hand.slot s.cells (buried c).cells h (AgreeOff-set s.cells c.hand.slot (record { generation = c.hand.generation + 1; value = None })) apart, ap (λ n. ltb 0 n) same)

-- each row that is in the column or is pending stays as it was
pub StaysAs-Leads : (ceiling : Option ℕ) (c : Carried) (t : State) → IsIntact c.store (c.hand ∷ []) → Leads ceiling c t → All (StaysAs c.store t) t.column × All (StaysAs c.store t) t.pending_in
StaysAs-Leads ceiling c t intact (buries d doomed) =
    let s = d.store in
    let apart = hand_apart s.cells s.free s.column s.pending_in s.pending_out d.hand intact.owned in
    (StaysAs-buried d s.column intact doomed apart.off_column, StaysAs-buried d s.pending_in intact doomed apart.off_pending)
StaysAs-Leads ceiling c t intact (evicts d lasting over) = (λ k e h. (refl, refl), λ k e h. (refl, refl))
StaysAs-Leads ceiling c t intact (ends d lasting below at_end) = (λ k e h. (refl, refl), λ k e h. (refl, refl))
StaysAs-Leads ceiling c t intact (goes_on d u lasting below before rest) = StaysAs-Leads ceiling (pushed_on d) u (IsIntact-pushed_on d before intact) rest

-- room is made before a carry, so that the store after it has this room
rooms_before : (s : State) (column : List Handle) (marks : List Mark) (e : CarryState Handle) (a b : ℕ) → (x : ℕ) × (y : ℕ) × (landed (record s { column_room = x; in_room = y }) column marks e ≡ record (ended_so e s) { column = column; marks = marks; column_room = a; in_room = b })
rooms_before s column marks (comes x) a b = (a, b, refl)
rooms_before s column marks (turns moved) a b =
    let one : (a + 1) - 1 ≡ a = omega arith in
    (a + 1, b, rw one refl)
rooms_before s column marks (stopped moved y) a b = elim (cases_Bool (is_doomed s y)) [
  | inl doomed ↦ (a, b, rw doomed refl)
  | inr lasting ↦
      let one : (b + 1) - 1 ≡ b = omega arith in
      (a, b + 1, rw (lasting, one) refl)
]

-- a pending insertion isn't doomed
pub pending-lasts : (s : State) (place : ℕ) → place < length s.pending_in → IsIntact s [] → is_doomed s (get_or s.pending_in place no_handle) ≡ false
pending-lasts s place within intact =
    let h = get_or s.pending_in place no_handle in
    let listed : 0 < times h.slot (slots s.pending_in) = times_map_at h.slot (λ (x : Handle). x.slot) s.pending_in place no_handle within refl in
    let all = times-places h.slot s.column s.pending_in s.free [] in
    let most = once-most s.cells s.free s.column s.pending_in s.pending_out [] h.slot intact.owned in
    let few : times h.slot (slots s.pending_out) ≤ times h.slot (slots s.column) = rw append-nil at (intact.owned.doomed_once h.slot) in
    le-ltb 0 (times h.slot (slots s.pending_out)) (omega (arith, listed, all, most, few))

-- the store after the carry of the pending insertion at a place, except its room
abbrev pub carried_at : Option ℕ → ℕ → State → State
carried_at ceiling place s =
    let c = lifted place s in
    let key = key_at s.cells in
    let stops = ends_with ceiling s in
    let pieces = reached key stops (comes c.hand) (pieces_of s) in
    record (ended_so (outcome key stops (comes c.hand) (pieces_of s)) c.store) { column = column_of pieces; marks = marks_of 0 pieces }

-- room is made, it is carried, and then there is this room
pub Leads-at : (ceiling : Option ℕ) (place : ℕ) (s : State) (a b : ℕ) → place < length s.pending_in → is_over ceiling (key_at s.cells (get_or s.pending_in place no_handle)) ≡ false → IsIntact s [] → (x : ℕ) × (y : ℕ) × Leads ceiling (lifted place (record s { column_room = x; in_room = y })) (record (carried_at ceiling place s) { column_room = a; in_room = b })
Leads-at ceiling place s a b within under intact =
    let h = get_or s.pending_in place no_handle in
    let key = key_at s.cells in
    let stops = ends_with ceiling s in
    let e = outcome key stops (comes h) (pieces_of s) in
    let pieces = reached key stops (comes h) (pieces_of s) in
    let made = rooms_before (lifted place s).store (column_of pieces) (marks_of 0 pieces) e a b in
    let u : State = record s { column_room = made.0; in_room = made.1 } in
    let cut = IsCut-intact s [] intact in
    let leads = Leads-reached ceiling (lifted place u) (pieces_of s) 0 cut.column cut.marks intact.counted.moved cut.divided (rw (pending-lasts s place within intact, under) refl) in
    (made.0, made.1, rw made.2 at leads)
