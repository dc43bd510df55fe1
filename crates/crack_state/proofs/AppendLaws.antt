-- If there is no bound, each pending insertion is appended: one after the other has the same result as all at once.
use Rattle.std.proofs.Common.{◌≡◌, ℕ, ◌+◌, ◌-◌, ◌<◌, ◌≤◌, List, [], ◌∷◌, length, get_or, min, suc, refl, sym, ap, ◌∙◌, inl, inr, arith}
use Rattle.std.proofs.Math.Nat.{min-eq_left, min-eq_right}
use Rattle.std.proofs.lemmas.Bool.{cases_lt}
use Rattle.std.proofs.lemmas.List.{append-nil, append_assoc}
use Rattle.crack_arena.specs.Arena.{Handle, no_handle, times, slots}
use Rattle.crack_arena.proofs.Times.{times_map_at}
use Rattle.crack_state.specs.State.{State, IsIntact, greatest}
use Rattle.crack_state.specs.Steps.{lifted, appended, all_appended, more}
use Rattle.crack_state.proofs.OwnedLaws.{times-places, once-most}
use Rattle.crack_state.proofs.StepLaws.{IsIntact-lifted, IsIntact-appended, IsIntact-room}

-- a counter that is raised by one, and then by this many
more_and : (n k : ℕ) → min (more n + k) greatest ≡ min (n + suc k) greatest
more_and n k = elim (cases_lt n greatest) [
  | inl l ↦
      let one : more n ≡ n + 1 = min-eq_left (omega (arith, l)) in
      ap (λ m. min m greatest) (omega (arith, one))
  | inr l ↦
      let full : more n ≡ greatest = min-eq_right (omega (arith, l)) in
      min-eq_right (omega (arith, full)) ∙ sym (min-eq_right (omega (arith, l)))
]

-- the first pending insertion is appended
abbrev pub first_appended : State → State
first_appended s = appended (lifted 0 s)

-- if there is no bound, those after it are appended as before
pub all-first : (s : State) (h : Handle) (hs : List Handle) → s.marks ≡ [] → s.pending_in ≡ h ∷ hs → all_appended (first_appended s) ≡ record (all_appended s) { column_room = s.column_room - 1 }
all-first s h hs none first =
    rw (none, first, append_assoc s.column (h ∷ []) hs, more_and s.tally.insertions (length hs)) refl

-- a hand that was lifted isn't doomed
pub lifted-lasting : (s : State) → 0 < length s.pending_in → IsIntact s [] → times (lifted 0 s).hand.slot (slots s.pending_out) ≡ 0
lifted-lasting s some intact =
    let h = get_or s.pending_in 0 no_handle in
    let listed : 0 < times h.slot (slots s.pending_in) = times_map_at h.slot (λ (x : Handle). x.slot) s.pending_in 0 no_handle some refl in
    let all = times-places h.slot s.column s.pending_in s.free [] in
    let most = once-most s.cells s.free s.column s.pending_in s.pending_out [] h.slot intact.owned in
    let doomed : times h.slot (slots s.pending_out) ≤ times h.slot (slots s.column) = rw append-nil at (intact.owned.doomed_once h.slot) in
    omega (arith, listed, all, most, doomed)

pub IsIntact-first : (s : State) → s.marks ≡ [] → 0 < length s.pending_in → IsIntact s [] → IsIntact (first_appended s) []
IsIntact-first s none some intact =
    IsIntact-appended (lifted 0 s) (rw none refl) (IsIntact-lifted 0 s some intact)

pub all-none : (s : State) → s.pending_in ≡ [] → IsIntact s [] → all_appended s ≡ s
all-none s none intact =
    let zero : s.tally.insertions + 0 ≡ s.tally.insertions = omega arith in
    let same : min (s.tally.insertions + 0) greatest ≡ s.tally.insertions = min-eq_left (omega (arith, intact.counted.insertions)) ∙ zero in
    rw (none, append-nil s.column, same) refl

pub IsIntact-all : (hs : List Handle) (s : State) → s.pending_in ≡ hs → s.marks ≡ [] → IsIntact s [] → IsIntact (all_appended s) []
IsIntact-all [] s empty none intact = rw (all-none s empty intact) intact
IsIntact-all (h ∷ hs) s first none intact =
    let next = IsIntact-first s none (omega (arith, ap length first)) intact in
    let marks : (first_appended s).marks ≡ [] = rw none refl in
    let rest = IsIntact-all hs (first_appended s) (rw first refl) marks next in
    IsIntact-room (record (all_appended s) { column_room = s.column_room - 1 }) (all_appended s) [] (record { same = refl }) (rw (all-first s h hs none first) at rest)
