-- An intact store after the pull of a pending deletion.
use Rattle.std.proofs.Common.{◌≡◌, ℕ, zero, suc, ◌+◌, ◌-◌, ◌<◌, ◌≤◌, min, List, [], ◌∷◌, ◌++◌, map, length, take, reverse, get_or, refl, sym, ap, subst, ◌∙◌, inl, inr, arith}
use Rattle.std.proofs.Math.Nat.{min-eq_left}
use Rattle.std.proofs.lemmas.Bool.{cases_lt}
use Rattle.std.proofs.lemmas.List.{append-nil, length-map, length-reverse, length-take-le, get_or-map, get_or-reverse, get_or_default, take_more, take_all, reverse-append, reverse-reverse}
use Rattle.crack_arena.specs.Arena.{Handle, StandsAt, no_handle, times, slots, place_in}
use Rattle.crack_arena.specs.Rows.{key_at}
use Rattle.crack_arena.proofs.Times.{times-nil, times-cons, times-append, times_head, times_map_at}
use Rattle.crack_index.specs.declared.mark.Mark.{Mark}
use Rattle.crack_index.specs.Marks.{lowered_at}
use Rattle.crack_state.specs.State.{State, Carried, IsIntact, live_rows, greatest}
use Rattle.crack_state.specs.Steps.{lifted_last, pulled_back, exchanged, buried}
use Rattle.crack_state.proofs.BuryLaws.{IsIntact-buried, live_rows-buried}
use Rattle.crack_state.proofs.CellLaws.{stands_there}
use Rattle.crack_state.proofs.DrawLaws.{IsDoomed-listed, column_some}
use Rattle.crack_state.proofs.OwnedLaws.{times-places, once-most}
use Rattle.crack_state.proofs.PullLaws.{IsIntact-pulled_back, IsIntact-exchanged}
use Rattle.crack_state.specs.Pieces.{column_of, marks_of, cut}
use Rattle.crack_state.specs.Carried.{pieces_of}
use Rattle.crack_state.specs.Pulled.{pulled, all_drawn, itself, pulled_from}
use Rattle.crack_state.proofs.CutLaws.{IsCut-intact}
use Rattle.crack_state.proofs.Draws.{Draws, reaches, exchanges, draws, drawn_with, fallen, upward, pulled_down, drawn_down}
use Rattle.crack_state.proofs.DrawDownLaws.{IsOnlyAt, AreBetween, leads-same, draws-down}
use Rattle.crack_state.proofs.PulledLaws.{pulled_down-is, marks_of-pulled}
use Rattle.crack_state.proofs.StepsDown.{AreFrom}

-- what the pull preserves

-- a row comes into hand by an exchange
exchanged-hand : (c : Carried) (place : ℕ) (h : Handle) → StandsAt c.store.column place h → (exchanged place c).hand ≡ h
exchanged-hand c place h stands = get_or_default c.store.column place c.hand h stands.within ∙ sym stands.is

pub IsIntact-Draws : (place : ℕ) (doomed : Handle) (c : Carried) (t : State) → StandsAt c.store.pending_out place doomed → IsIntact c.store (c.hand ∷ []) → Draws doomed c t → IsIntact t []
IsIntact-Draws place doomed c t listed now (reaches e is) = IsIntact-buried e (IsDoomed-listed e place doomed listed is) now
IsIntact-Draws place doomed c t listed now (exchanges e j other at from to) =
    IsIntact-buried (exchanged j e) (IsDoomed-listed (exchanged j e) place doomed listed (exchanged-hand e j doomed at)) (IsIntact-exchanged j e from to now)
IsIntact-Draws place doomed c t listed now (draws e j u other at before rest) =
    IsIntact-Draws place doomed (pulled_back e) u listed (IsIntact-pulled_back e (omega arith) now) rest

pub live_rows-Draws : (place : ℕ) (doomed : Handle) (c : Carried) (t : State) → StandsAt c.store.pending_out place doomed → IsIntact c.store (c.hand ∷ []) → Draws doomed c t → live_rows t ≡ live_rows c.store
live_rows-Draws place doomed c t listed now (reaches e is) = live_rows-buried e (IsDoomed-listed e place doomed listed is) now
live_rows-Draws place doomed c t listed now (exchanges e j other at from to) =
    live_rows-buried (exchanged j e) (IsDoomed-listed (exchanged j e) place doomed listed (exchanged-hand e j doomed at)) (IsIntact-exchanged j e from to now)
live_rows-Draws place doomed c t listed now (draws e j u other at before rest) =
    live_rows-Draws place doomed (pulled_back e) u listed (IsIntact-pulled_back e (omega arith) now) rest

-- Where the row is

twice : (hs : List Handle) (i k slot : ℕ) → i < k → k < length hs → (get_or hs i no_handle).slot ≡ slot → (get_or hs k no_handle).slot ≡ slot → 2 ≤ times slot (slots hs)
twice [] i k slot order within first second = absurd (omega (arith, within))
twice (h ∷ hs) i zero slot order within first second = absurd (omega (arith, order))
twice (h ∷ hs) zero (suc k) slot order within first second =
    let there = times_map_at slot (λ (x : Handle). x.slot) hs k no_handle (omega (arith, within)) second in
    let head : times slot (slots (h ∷ hs)) ≡ 1 + times slot (slots hs) = rw (← first) (times_head h.slot (slots hs)) in
    omega (arith, there, head)
twice (h ∷ hs) (suc i) (suc k) slot order within first second =
    omega (arith, twice hs i k slot (omega (arith, order)) (omega (arith, within)) first second, times-cons slot h.slot (slots hs))

IsOnlyAt-once : (d : Handle) (hs : List Handle) (i : ℕ) → i < length hs → get_or hs i no_handle ≡ d → times d.slot (slots hs) ≤ 1 → IsOnlyAt d hs i
IsOnlyAt-once d hs i within is once = record {
  within = within;
  is = is;
  only = λ k inside same. elim (cases_lt k i) [
    | inl less ↦ absurd (omega (arith, twice hs k i d.slot less within same (ap (λ (h : Handle). h.slot) is), once))
    | inr from ↦ elim (cases_lt i k) [
      | inl more ↦ absurd (omega (arith, twice hs i k d.slot more inside (ap (λ (h : Handle). h.slot) is) same, once))
      | inr to ↦ omega (arith, from, to)
    ]
  ];
}

-- a pending deletion is in the column, once
pub IsOnlyAt-doomed : (place : ℕ) (s : State) → place < length s.pending_out → IsIntact s [] → IsOnlyAt (get_or s.pending_out place no_handle) s.column (place_in s.column (get_or s.pending_out place no_handle).slot)
IsOnlyAt-doomed place s within intact =
    let d = get_or s.pending_out place no_handle in
    let owned = intact.owned in
    let listed : 0 < times d.slot (slots s.pending_out) = times_map_at d.slot (λ (x : Handle). x.slot) s.pending_out place no_handle within refl in
    let some : 0 < times d.slot (slots s.column) = omega (arith, listed, owned.doomed_once d.slot, times-append d.slot (slots s.column) [], times-nil d.slot) in
    let stands = stands_there s.cells s.column d (owned.doomed_reads place no_handle within) owned.column_reads some in
    let once : times d.slot (slots s.column) ≤ 1 = omega (arith, times-places d.slot s.column s.pending_in s.free [], once-most s.cells s.free s.column s.pending_in s.pending_out [] d.slot owned) in
    IsOnlyAt-once d s.column (place_in s.column d.slot) stands.within (sym (stands.is ∙ get_or_default s.column (place_in s.column d.slot) d no_handle stands.within)) once

-- The marks of an intact store, from the highest down

pub upward-reverse : (ms : List Mark) → upward (reverse ms) ≡ ms
upward-reverse ms = same (reverse ms) ∙ reverse-reverse ms
  where
    same : (ns : List Mark) → upward ns ≡ reverse ns
    same [] = refl
    same (n ∷ ns) = ap (λ xs. xs ++ n ∷ []) (same ns) ∙ sym (reverse-append (n ∷ []) ns)

AreBetween-intact : (s : State) → IsIntact s [] → AreBetween (key_at s.cells) (reverse s.marks) [] s.column
AreBetween-intact s intact =
    let key : Handle → ℕ = key_at s.cells in
    let far = length-reverse s.marks in
    let long : length (map key s.column) ≡ length s.column = length-map s.column key in
    record {
      divides = λ k e h.
          let j : ℕ = length s.marks - 1 - k in
          let one = intact.obeyed j e (omega (arith, h, far)) in
          rw (get_or-reverse s.marks k e (omega (arith, h, far))) (record {
            within = omega (arith, one.within, long);
            before = λ i less. rw (← (get_or-map key s.column i no_handle 0 (omega (arith, less, one.within, long)))) (one.below i less);
            behind = λ i from to. rw (← (get_or-map key s.column i no_handle 0 to)) (one.above i from (omega (arith, to, long)));
          });
      falls = λ i j e less h.
          let both = intact.rising (length s.marks - 1 - j) (length s.marks - 1 - i) e (omega (arith, less, h, far)) (omega (arith, less, h, far)) in
          rw (get_or-reverse s.marks i e (omega (arith, less, h, far)), get_or-reverse s.marks j e (omega (arith, h, far))) (omega (arith, both.bounds), both.positions);
      over = λ k e h. absurd (omega (arith, h));
    }

-- the column's last row is lifted, and this is the store after the pull of a pending deletion
pub Draws-at : (place : ℕ) (s : State) → place < length s.pending_out → IsIntact s [] → Draws (get_or s.pending_out place no_handle) (lifted_last s) (pulled_from (get_or s.pending_out place no_handle ∷ []) s)
Draws-at place s within intact =
    let d = get_or s.pending_out place no_handle in
    let key : Handle → ℕ = key_at s.cells in
    let i : ℕ = place_in s.column d.slot in
    let n : ℕ = length s.column - 1 in
    let rows : List Handle = take n s.column in
    let z : Handle = get_or s.column n no_handle in
    let b : State = record s { column_room = s.column_room + 1 } in
    let falling : List Mark = reverse s.marks in
    let P = pieces_of s in
    let some : 0 < length s.column = column_some s (omega (arith, within)) intact in
    let size : n + 1 ≡ length s.column = omega (arith, some) in
    let all : rows ++ z ∷ [] ≡ s.column = sym (take_more s.column n no_handle (omega (arith, some))) ∙ take_all (n + 1) s.column (omega (arith, size)) in
    let at = IsOnlyAt-doomed place s within intact in
    let up = upward-reverse s.marks in
    let led = draws-down b d falling rows [] [] z 0 i (subst (λ (hs : List Handle). AreBetween key falling [] hs) (sym all) (AreBetween-intact s intact)) (subst (λ (hs : List Handle). IsOnlyAt d hs i) (sym all) at) in
    let none : min (s.tally.pulled + 0) greatest ≡ s.tally.pulled = min-eq_left (omega (arith, intact.counted.pulled)) ∙ omega arith in
    let long : length rows + 1 ≡ length s.column = omega (arith, length-take-le n s.column (omega arith), size) in
    let begun : drawn_with b (rows ++ []) (map (lowered_at (length rows + 1)) (upward falling) ++ []) 0 z ≡ lifted_last s = rw (append-nil rows, append-nil (map (lowered_at (length rows + 1)) (upward falling)), up, long, none) refl in
    let cuts = IsCut-intact s [] intact in
    let are : AreFrom key 0 (upward falling) = rw up (record { pairs = intact.rising; behind = λ k e h. omega arith }) in
    let down = pulled_down-is key d falling s.column are in
    let column : pulled_down key d falling (rows ++ z ∷ []) ++ [] ≡ column_of (pulled key itself 0 (d ∷ []) P) =
    append-nil (pulled_down key d falling (rows ++ z ∷ [])) ∙ ap (pulled_down key d falling) all ∙ down.0 ∙ ap (λ ms. column_of (pulled key itself 0 (d ∷ []) (cut 0 ms s.column))) up in
    let inside : i < length (column_of P) = omega (arith, ap length cuts.column, at.within) in
    let same : key (get_or (column_of P) i no_handle) ≡ key d = ap (λ hs. key (get_or hs i no_handle)) (sym cuts.column) ∙ ap key at.is in
    let marks : map (fallen (key d)) (upward falling) ++ [] ≡ marks_of 0 (pulled key itself 0 (d ∷ []) P) =
    append-nil (map (fallen (key d)) (upward falling)) ∙ ap (map (fallen (key d))) (up ∙ cuts.marks) ∙ sym (marks_of-pulled key d 0 0 i P (omega arith) inside same cuts.divided) in
    let count : 0 + drawn_down key d falling (rows ++ z ∷ []) ≡ all_drawn key itself 0 (d ∷ []) P =
    let counted : drawn_down key d falling (rows ++ z ∷ []) ≡ all_drawn key itself 0 (d ∷ []) P = ap (drawn_down key d falling) all ∙ down.1 ∙ ap (λ ms. all_drawn key itself 0 (d ∷ []) (cut 0 ms s.column)) up in
    omega (arith, counted) in
    let column_to : List Handle = column_of (pulled key itself 0 (d ∷ []) P) in
    let marks_to : List Mark = marks_of 0 (pulled key itself 0 (d ∷ []) P) in
    let done = leads-same b d (lifted_last s) (pulled_down key d falling (rows ++ z ∷ []) ++ []) column_to (map (fallen (key d)) (upward falling) ++ []) marks_to (0 + drawn_down key d falling (rows ++ z ∷ [])) (all_drawn key itself 0 (d ∷ []) P) column marks count in
    done (subst (λ (c : Carried). Draws d c (buried (drawn_with b (pulled_down key d falling (rows ++ z ∷ []) ++ []) (map (fallen (key d)) (upward falling) ++ []) (0 + drawn_down key d falling (rows ++ z ∷ [])) d))) begun led)
