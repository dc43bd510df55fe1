-- The result of one pull, from the highest mark down, is its result piece by piece.
use Rattle.std.proofs.Common.{◌≡◌, ℕ, zero, ◌+◌, ◌-◌, ◌<◌, ◌≤◌, List, [], ◌∷◌, ◌++◌, map, length, take, drop, get_or, set, refl, sym, ap, ◌∙◌, inl, inr, arith}
use Rattle.std.specs.List.{All}
use Rattle.std.proofs.lemmas.Bool.{cases_lt, lt-ltb, le-ltb}
use Rattle.std.proofs.lemmas.List.{append_assoc, drop-drop, drop-take, take-take, take-append-drop, length-append, length-drop, length-set, length-take-le, get_or_append_left, get_or-append_right}
use Rattle.std.proofs.lemmas.List.Elements.{All-append}
use Rattle.crack_arena.specs.Arena.{Handle, no_handle}
use Rattle.crack_index.specs.declared.mark.Mark.{Mark}
use Rattle.crack_column.specs.Sifts.{one_if_some}
use Rattle.crack_column.specs.Drains.{place_of, turned_back, drained_once, without, one_unless_last}
use Rattle.crack_state.specs.Pieces.{Pieces, last, below, column_of, marks_of, cut}
use Rattle.crack_state.proofs.Divided.{AreDivided}
use Rattle.crack_state.specs.Pulled.{ends_above, pulled, all_drawn, itself}
use Rattle.crack_state.proofs.Draws.{fallen, upward, pulled_down, drawn_down}
use Rattle.crack_state.proofs.StepsDown.{AreFrom, AreFrom-tail, last_behind, snoc-front}

pub length-turned_back : (rows : List Handle) → length (turned_back rows) ≡ length rows
length-turned_back rows =
    let n : ℕ = length rows - 1 in
    omega (arith, length-append (drop n rows) (take n rows), length-drop n rows, length-take-le n rows (omega arith))

pub length-without : (h : Handle) (rows : List Handle) → length (without h rows) ≡ length rows - 1
length-without h rows =
    let there : List Handle = set rows (place_of h rows) (get_or rows (length rows - 1) no_handle) in
    let long : length there ≡ length rows = length-set rows (place_of h rows) (get_or rows (length rows - 1) no_handle) in
    length-take-le (length rows - 1) there (omega (arith, long))

module _ (key : Handle → ℕ) (d : Handle) where
  abbrev one : List Handle
  one = d ∷ []

  -- the pieces below the highest mark, and the one above it, where the row is below the mark
  pulled-under : (low place : ℕ) (ns : List Mark) (m : Mark) (rows : List Handle) → AreFrom key place (ns ++ m ∷ []) → key d < m.bound.0 → (column_of (pulled key itself low one (cut place (ns ++ m ∷ []) rows)) ≡ column_of (pulled key itself low one (cut place ns (take (m.position - place) rows))) ++ turned_back (drop (m.position - place) rows)) × (all_drawn key itself low one (cut place (ns ++ m ∷ []) rows) ≡ all_drawn key itself low one (cut place ns (take (m.position - place) rows)) + one_if_some (drop (m.position - place) rows))
  pulled-under low place [] m rows are under = (rw (lt-ltb (key d) m.bound.0 under) refl, rw (lt-ltb (key d) m.bound.0 under) (omega arith))
  pulled-under low place (n ∷ ns) m rows are under =
      let order = last_behind key n m ns are.pairs in
      let from : place ≤ n.position = are.behind zero n (omega arith) in
      let rest = pulled-under n.bound.0 n.position ns m (drop (n.position - place) rows) (AreFrom-tail key place n (ns ++ m ∷ []) are) under in
      let size : m.position - place ≡ (n.position - place) + (m.position - n.position) = omega (arith, from, order.positions) in
      let first : take (n.position - place) (take (m.position - place) rows) ≡ take (n.position - place) rows = take-take (n.position - place) (m.position - place) rows (omega (arith, order.positions)) in
      let next : drop (n.position - place) (take (m.position - place) rows) ≡ take (m.position - n.position) (drop (n.position - place) rows) = ap (λ k. drop (n.position - place) (take k rows)) size ∙ drop-take (n.position - place) (m.position - n.position) rows in
      let over : drop (m.position - n.position) (drop (n.position - place) rows) ≡ drop (m.position - place) rows = drop-drop (m.position - n.position) (n.position - place) rows ∙ ap (λ k. drop k rows) (sym size) in
      let here : List Handle = drained_once key itself low (ends_above key itself n.bound) d (take (n.position - place) rows) in
      let lower : List Handle = column_of (pulled key itself n.bound.0 one (cut n.position ns (take (m.position - n.position) (drop (n.position - place) rows)))) in
      (ap (λ hs. here ++ hs) rest.0 ∙ sym (append_assoc here lower (turned_back (drop (m.position - n.position) (drop (n.position - place) rows)))) ∙ rw (first, next, over) refl, rw (first, next, ← over) (omega (arith, rest.1)))

  take-both : (a b : ℕ) (rows : List Handle) → take a rows ++ take b (drop a rows) ≡ take (a + b) rows
  take-both a b rows =
      ap (λ hs. hs ++ take b (drop a rows)) (sym (take-take a (a + b) rows (omega arith))) ∙ ap (λ hs. take a (take (a + b) rows) ++ hs) (sym (drop-take a b rows)) ∙ take-append-drop a (take (a + b) rows)

  -- and where it is at or above it
  pulled-over : (low place : ℕ) (ns : List Mark) (m : Mark) (rows : List Handle) → AreFrom key place (ns ++ m ∷ []) → low ≤ key d → m.bound.0 ≤ key d → (column_of (pulled key itself low one (cut place (ns ++ m ∷ []) rows)) ≡ take (m.position - place) rows ++ without d (drop (m.position - place) rows)) × (all_drawn key itself low one (cut place (ns ++ m ∷ []) rows) ≡ one_unless_last d (drop (m.position - place) rows))
  pulled-over low place [] m rows are at_low at_m = (rw (le-ltb (key d) low at_low, le-ltb (key d) m.bound.0 at_m) refl, rw (le-ltb (key d) low at_low, le-ltb (key d) m.bound.0 at_m) (omega arith))
  pulled-over low place (n ∷ ns) m rows are at_low at_m =
      let order = last_behind key n m ns are.pairs in
      let from : place ≤ n.position = are.behind zero n (omega arith) in
      let at_n : n.bound.0 ≤ key d = omega (arith, order.bounds, at_m) in
      let rest = pulled-over n.bound.0 n.position ns m (drop (n.position - place) rows) (AreFrom-tail key place n (ns ++ m ∷ []) are) at_n at_m in
      let size : (n.position - place) + (m.position - n.position) ≡ m.position - place = omega (arith, from, order.positions) in
      let over : drop (m.position - n.position) (drop (n.position - place) rows) ≡ drop (m.position - place) rows = drop-drop (m.position - n.position) (n.position - place) rows ∙ ap (λ k. drop k rows) size in
      let both : take (n.position - place) rows ++ take (m.position - n.position) (drop (n.position - place) rows) ≡ take (m.position - place) rows = take-both (n.position - place) (m.position - n.position) rows ∙ ap (λ k. take k rows) size in (
        rw (le-ltb (key d) low at_low, le-ltb (key d) n.bound.0 at_n, rest.0, over) (sym (append_assoc (take (n.position - place) rows) (take (m.position - n.position) (drop (n.position - place) rows)) (without d (drop (m.position - place) rows))) ∙ ap (λ hs. hs ++ without d (drop (m.position - place) rows)) both),
        rw (le-ltb (key d) low at_low, le-ltb (key d) n.bound.0 at_n, rest.1, over) (omega arith),
      )

  -- from the highest mark down
  pub pulled_down-is : (ms : List Mark) (rows : List Handle) → AreFrom key 0 (upward ms) → (pulled_down key d ms rows ≡ column_of (pulled key itself 0 one (cut 0 (upward ms) rows))) × (drawn_down key d ms rows ≡ all_drawn key itself 0 one (cut 0 (upward ms) rows))
  pulled_down-is [] rows are = (rw (le-ltb (key d) 0 (omega arith)) refl, rw (le-ltb (key d) 0 (omega arith)) (omega arith))
  pulled_down-is (m ∷ ms) rows are =
      let same : m.position - 0 ≡ m.position = omega arith in
      elim (cases_lt (key d) m.bound.0) [
        | inl under ↦
            let rest = pulled_down-is ms (take m.position rows) (snoc-front key 0 (upward ms) m are) in
            let both = rw same at (pulled-under 0 0 (upward ms) m rows are under) in (
              rw (lt-ltb (key d) m.bound.0 under) (ap (λ hs. hs ++ turned_back (drop m.position rows)) rest.0 ∙ sym both.0),
              rw (lt-ltb (key d) m.bound.0 under) (ap (λ k. k + one_if_some (drop m.position rows)) rest.1 ∙ sym both.1),
            )
        | inr over ↦
            let both = rw same at (pulled-over 0 0 (upward ms) m rows are (omega arith) over) in
            (rw (le-ltb (key d) m.bound.0 over) (sym both.0), rw (le-ltb (key d) m.bound.0 over) (sym both.1))
      ]

  -- bounds above the row move down by one
  marks-above : (low place : ℕ) (pieces : Pieces Handle) → key d < low → 1 ≤ place → AreDivided key low pieces → marks_of (place - 1) (pulled key itself low one pieces) ≡ map (fallen (key d)) (marks_of place pieces)
  marks-above low place (last rows) under some divided = refl
  marks-above low place (below rows bound pieces) under some divided =
      let under_bound : key d < bound.0 = omega (arith, under, divided.1) in
      let size : (place - 1) + length (turned_back rows) ≡ (place + length rows) - 1 = omega (arith, length-turned_back rows, some) in
      rw (lt-ltb (key d) low under, size, marks-above bound.0 (place + length rows) pieces under_bound (omega (arith, some)) divided.2, lt-ltb (key d) bound.0 under_bound) refl

  All-column : (low : ℕ) (pieces : Pieces Handle) → AreDivided key low pieces → All (λ h. low ≤ key h) (column_of pieces)
  All-column low (last rows) divided = divided
  All-column low (below rows bound pieces) divided =
      All-append (λ h. low ≤ key h) rows (column_of pieces) (λ k e h. (divided.0 k e h).0) (λ k e h. omega (arith, divided.1, All-column bound.0 pieces divided.2 k e h))

  -- each bound is where its piece ends
  pub marks_of-pulled : (low place i : ℕ) (pieces : Pieces Handle) → low ≤ key d → i < length (column_of pieces) → key (get_or (column_of pieces) i no_handle) ≡ key d → AreDivided key low pieces → marks_of place (pulled key itself low one pieces) ≡ map (fallen (key d)) (marks_of place pieces)
  marks_of-pulled low place i (last rows) at_low within is divided = refl
  marks_of-pulled low place i (below rows bound pieces) at_low within is divided =
      let long = length-append rows (column_of pieces) in
      elim (cases_lt i (length rows)) [
        | inl l ↦
            let here = get_or_append_left rows (column_of pieces) no_handle i l in
            let under : key d < bound.0 = rw (← here, is) at ((divided.0 i no_handle l).1) in
            let less = length-without d rows in
            let size : place + length (without d rows) ≡ (place + length rows) - 1 = omega (arith, less, l) in
            rw (le-ltb (key d) low at_low, lt-ltb (key d) bound.0 under, size, marks-above bound.0 (place + length rows) pieces under (omega (arith, l)) divided.2) refl
        | inr l ↦
            let there = get_or-append_right rows (column_of pieces) (length rows) i no_handle refl l in
            let inside : i - length rows < length (column_of pieces) = omega (arith, l, within, long) in
            let same : key (get_or (column_of pieces) (i - length rows) no_handle) ≡ key d = ap key (sym there) ∙ is in
            let over : bound.0 ≤ key d = rw same at (All-column bound.0 pieces divided.2 (i - length rows) no_handle inside) in
            rw (le-ltb (key d) low at_low, le-ltb (key d) bound.0 over, marks_of-pulled bound.0 (place + length rows) (i - length rows) pieces over inside same divided.2) refl
      ]
