-- For which further ranges a store is settled.
use Rattle.std.proofs.Common.{◌≡◌, ℕ, ◌≤◌, List, [], get_or, inl, inr, false, Option, Some, None, refl, arith}
use Rattle.std.specs.Prelude.{is_some}
use Rattle.std.proofs.lemmas.Bool.{true≢false}
use Rattle.crack_row.specs.Ranges.{Range}
use Rattle.crack_arena.specs.Arena.{Handle}
use Rattle.crack_arena.specs.Rows.{keys_at}
use Rattle.crack_pending.specs.Pending.{Finds}
use Rattle.crack_pending.proofs.Searches.{list_any-missed}
use Rattle.crack_state.specs.State.{State, IsIntact}
use Rattle.crack_state.specs.Merge.{IsSettled, IsCracked, ReadsOutside, is_touched}
use Rattle.crack_state.proofs.MergeLaws.{outside-untouched}
use Rattle.crack_state.proofs.SettledLaws.{IsSettled-of}

-- for a part of its range by whose ends the column was cracked
pub settled-part : (s : State) (range part : Range) → IsIntact s [] → IsSettled s range → s.keys.low ≤ range.low → range.high ≤ s.keys.high → range.low ≤ part.low → part.low ≤ part.high → part.high ≤ range.high → IsCracked s part → IsSettled s part
settled-part s range part intact settled low high first order last cracked =
    let outside : (h : Handle) → ReadsOutside s.cells range h → ReadsOutside s.cells part h = λ h apart. elim apart [
      | inl below ↦ inl (omega (arith, below, first))
      | inr above ↦ inr (omega (arith, above, last))
    ] in
    IsSettled-of s part order (omega (arith, low, first)) (omega (arith, high, last)) cracked (λ k d h. outside (get_or s.pending_in k d) (settled.pending k d h)) (λ k d h. outside (get_or s.pending_out k d) (settled.doomed k d h)) intact

-- a search that found none
missed : (r : Range) (keys : List ℕ) (found : Option ℕ) → is_some found ≡ false → Finds r keys 0 found → Finds r keys 0 None
missed r keys None none finds = finds
missed r keys (Some place) none finds = absurd (true≢false none)

-- for a range of its keys in which no row is pending
pub settled-missed : (s : State) (r : Range) (found gone : Option ℕ) → IsIntact s [] → r.low ≤ r.high → s.keys.low ≤ r.low → r.high ≤ s.keys.high → IsCracked s r → is_some found ≡ false → Finds r (keys_at s.cells s.pending_in) 0 found → is_some gone ≡ false → Finds r (keys_at s.cells s.pending_out) 0 gone → IsSettled s r
settled-missed s r found gone intact order low high cracked none finds none_gone finds_gone =
    let placed = list_any-missed r s.cells s.pending_in (missed r (keys_at s.cells s.pending_in) found none finds) in
    let doomed = list_any-missed r s.cells s.pending_out (missed r (keys_at s.cells s.pending_out) gone none_gone finds_gone) in
    let untouched : is_touched s r ≡ false = rw (placed, doomed) refl in
    let outside = outside-untouched s r untouched in
    IsSettled-of s r order low high cracked outside.0 outside.1 intact
