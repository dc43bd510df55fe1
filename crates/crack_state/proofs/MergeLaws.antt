-- When a merge has done what its policy promises.
use Rattle.std.proofs.Common.{◌≡◌, ◌⊎◌, ℕ, ◌<◌, ◌≤◌, true, false, List, [], ◌∷◌, refl, ap, inl, inr, arith}
use Rattle.std.specs.List.{All, list_any}
use Rattle.std.proofs.lemmas.Bool.{cases_lt, lt-ltb, le-leb, true≢false, or_parts}
use Rattle.std.proofs.lemmas.List.Elements.{All-nil, All-cons}
use Rattle.crack_row.specs.Ranges.{Range, is_in}
use Rattle.crack_row.specs.declared.Row.{Row}
use Rattle.crack_row.specs.declared.command.Policy.TheVariants.{Complete}
use Rattle.crack_arena.specs.Arena.{Cell, Handle}
use Rattle.crack_arena.specs.Rows.{key_at}
use Rattle.crack_state.specs.State.{State, IsIntact}
use Rattle.crack_state.specs.Merge.{ReadsOutside, Stands, IsCracked, Follows, Merges, is_touched}
use Rattle.crack_state.proofs.FollowLaws.{Follows-refl}
use Rattle.crack_state.proofs.SettledLaws.{IsSettled-of}

-- what follows a store has its bounds
Stands-follows : (s t : State) (bound : ℕ) → Follows s t → Stands s bound → Stands t bound
Stands-follows s t bound follows stands = λ low high.
    rw follows.bounds (stands (omega (arith, ap (λ (x : Range). x.low) follows.keys)) (omega (arith, ap (λ (x : Range). x.high) follows.keys)))

-- what follows a store that was cracked by a range is cracked by it
pub IsCracked-follows : (s t : State) (r : Range) → Follows s t → IsCracked s r → IsCracked t r
IsCracked-follows s t r follows cracked = (Stands-follows s t r.low follows cracked.0, Stands-follows s t r.high follows cracked.1)

-- a key that isn't in the range is outside it
pub outside_of_not_in : (r : Range) (key : ℕ) → is_in r key ≡ false → (key < r.low) ⊎ (r.high ≤ key)
outside_of_not_in r key none = elim (cases_lt key r.low) [
  | inl l ↦ inl l
  | inr l ↦ elim (cases_lt key r.high) [
    | inl u ↦ absurd (true≢false (rw (le-leb r.low key l, lt-ltb key r.high u) at none))
    | inr u ↦ inr u
  ]
]

outside_all : (cells : List (Cell Row)) (r : Range) (hs : List Handle) → list_any (λ h. is_in r (key_at cells h)) hs ≡ false → All (ReadsOutside cells r) hs
outside_all cells r [] none = All-nil (ReadsOutside cells r)
outside_all cells r (h ∷ hs) none =
    let both = or_parts (is_in r (key_at cells h)) (list_any (λ g. is_in r (key_at cells g)) hs) none in
    All-cons (ReadsOutside cells r) h hs (outside_of_not_in r (key_at cells h) both.0) (outside_all cells r hs both.1)

-- if no pending row has its key in the range, each has it outside
pub outside-untouched : (s : State) (r : Range) → is_touched s r ≡ false → All (ReadsOutside s.cells r) s.pending_in × All (ReadsOutside s.cells r) s.pending_out
outside-untouched s r untouched =
    let both = or_parts (list_any (λ h. is_in r (key_at s.cells h)) s.pending_in) (list_any (λ h. is_in r (key_at s.cells h)) s.pending_out) untouched in
    (outside_all s.cells r s.pending_in both.0, outside_all s.cells r s.pending_out both.1)

-- complete: no pending row is in the range, and nothing was done
pub Merges-untouched : (s : State) (r : Range) → r.low ≤ r.high → s.keys.low ≤ r.low → r.high ≤ s.keys.high → IsCracked s r → is_touched s r ≡ false → IsIntact s [] → Merges Complete s s r
Merges-untouched s r order low high cracked untouched intact =
    let outside = outside-untouched s r untouched in
    record {
      follows = Follows-refl s;
      intact = intact;
      settled = IsSettled-of s r order low high cracked outside.0 outside.1 intact;
      leaves = (rw untouched refl, rw untouched refl);
    }

-- complete: a pending row is in the range, and all are merged
pub Merges-touched : (s t : State) (r : Range) → r.low ≤ r.high → s.keys.low ≤ r.low → r.high ≤ s.keys.high → IsCracked s r → is_touched s r ≡ true → Follows s t → t.pending_in ≡ [] → t.pending_out ≡ [] → IsIntact t [] → Merges Complete s t r
Merges-touched s t r order low high cracked touched follows no_in no_out intact =
    let low_now : t.keys.low ≤ r.low = omega (arith, ap (λ (x : Range). x.low) follows.keys) in
    let high_now : r.high ≤ t.keys.high = omega (arith, ap (λ (x : Range). x.high) follows.keys) in
    record {
      follows = follows;
      intact = intact;
      settled = IsSettled-of t r order low_now high_now (IsCracked-follows s t r follows cracked) (rw no_in (All-nil (ReadsOutside t.cells r))) (rw no_out (All-nil (ReadsOutside t.cells r))) intact;
      leaves = (rw touched no_in, rw touched no_out);
    }
