-- This many turns of a piece in which no row ends a carry are a rotation, and each bound moves up by as many carries as reach the piece above it.
use Rattle.std.proofs.Common.{◌≡◌, ℕ, ◌+◌, ◌*◌, ◌/◌, ◌%◌, ◌<◌, ◌≤◌, Bool, cond, zero, suc, List, [], ◌∷◌, ◌++◌, take, drop, length, refl, sym, ap, ◌∙◌, inl, inr, arith}
use Rattle.std.specs.List.{All}
use Rattle.std.proofs.lemmas.Bool.{cases_Bool, lt-ltb}
use Rattle.std.proofs.lemmas.List.{append-nil, append_assoc, take-append-drop, length-take-le, length_push}
use Rattle.std.proofs.lemmas.Nat.{div-add-mod', mod_below}
use Rattle.std.proofs.lemmas.List.Elements.{All-head, All-tail}
use Rattle.crack_index.specs.declared.mark.Mark.{Mark}
use Rattle.crack_state.specs.Pieces.{Pieces, last, below, marks_of}
use Rattle.crack_state.specs.Queues.{CarryState, comes, turns, stopped, is_below, left_after, passed, in_bulk}
use Rattle.crack_column.specs.Sifts.{turned_once, queued}
use Rattle.crack_state.proofs.PieceMarkLaws.{mark_at}

-- the first row went after the last, this many times
abbrev pub turned_by : {X : Type 0} → ℕ → List X → List X
turned_by zero rows = rows
turned_by (suc g) rows = turned_by g (turned_once rows)

module _ {X : Type 0} where
  turned_by-front : (xs ys : List X) → turned_by (length xs) (xs ++ ys) ≡ ys ++ xs
  turned_by-front [] ys = sym (append-nil ys)
  turned_by-front (x ∷ xs) ys =
      ap (turned_by (length xs)) (append_assoc xs ys (x ∷ [])) ∙ turned_by-front xs (ys ++ x ∷ []) ∙ append_assoc ys (x ∷ []) xs

  -- up to as many times as there are rows
  pub turned_by-few : (g : ℕ) (rows : List X) → g ≤ length rows → turned_by g rows ≡ drop g rows ++ take g rows
  turned_by-few g rows few =
      let size : length (take g rows) ≡ g = length-take-le g rows few in
      rw (size, take-append-drop g rows) at (turned_by-front (take g rows) (drop g rows))

  -- as many times as there are rows: all is as it was
  pub turned_by-all : (rows : List X) → turned_by (length rows) rows ≡ rows
  turned_by-all rows = rw (append-nil rows) at (turned_by-front rows [])

  pub turned_by-sum : (g h : ℕ) (rows : List X) → turned_by (g + h) rows ≡ turned_by h (turned_by g rows)
  turned_by-sum zero h rows =
      let none : 0 + h ≡ h = omega arith in
      rw none refl
  turned_by-sum (suc g) h rows =
      let one : suc g + h ≡ suc (g + h) = omega arith in
      rw one (turned_by-sum g h (turned_once rows))

  -- any number of whole rounds: nothing changes
  pub turned_by-rounds : (rounds : ℕ) (rows : List X) → turned_by (rounds * length rows) rows ≡ rows
  turned_by-rounds zero rows =
      let none : 0 * length rows ≡ 0 = omega arith in
      rw none refl
  turned_by-rounds (suc rounds) rows =
      let one : suc rounds * length rows ≡ length rows + rounds * length rows = omega arith in
      rw one (turned_by-sum (length rows) (rounds * length rows) rows ∙ ap (turned_by (rounds * length rows)) (turned_by-all rows) ∙ turned_by-rounds rounds rows)

  -- any number of times: only the remainder after whole rounds counts
  pub turned_by-rotates : (rounds g : ℕ) (rows : List X) → g ≤ length rows → turned_by (rounds * length rows + g) rows ≡ drop g rows ++ take g rows
  turned_by-rotates rounds g rows few =
      turned_by-sum (rounds * length rows) g rows ∙ ap (turned_by g) (turned_by-rounds rounds rows) ∙ turned_by-few g rows few

  -- so g turns are a rotation by g mod n
  pub turned_by-mod : (g : ℕ) (rows : List X) → 0 < length rows → turned_by g rows ≡ drop (g % length rows) rows ++ take (g % length rows) rows
  turned_by-mod g rows some =
      let n : ℕ = length rows in
      let whole : g / n * n + g % n ≡ g = div-add-mod' g n in
      rw whole at (turned_by-rotates (g / n) (g % n) rows (omega (arith, mod_below g n some)))

  -- rows of lower pieces that come in one after the other turn a piece as often
  pub queued-run : (key : X → ℕ) (low : ℕ) (run xs rows : List X) → All (λ x. key x < low) run → queued key low (run ++ xs) rows ≡ queued key low xs (turned_by (length run) rows)
  queued-run key low [] xs rows all = refl
  queued-run key low (x ∷ run) xs rows all =
      let under = lt-ltb (key x) low (All-head (λ y. key y < low) x run all) in
      ap (λ b. queued key low (run ++ xs) (cond b (turned_once rows) (rows ++ x ∷ []))) under ∙ queued-run key low run xs (turned_once rows) (All-tail (λ y. key y < low) x run all)

-- how many of the carries reach a piece from below
abbrev pub arriving : {X : Type 0} → List (CarryState X) → ℕ
arriving [] = 0
arriving (comes x ∷ es) = arriving es
arriving (turns moved ∷ es) = suc (arriving es)
arriving (stopped moved y ∷ es) = arriving es

module _ {X : Type 0} (key : X → ℕ) (stops : X → Bool) where
  -- the marks of pieces, each moved up by as many carries as reach the piece above it
  abbrev pub marks_up : ℕ → List (CarryState X) → Pieces X → List Mark
  marks_up place es (last rows) = []
  marks_up place es (below rows bound pieces) =
      let on = passed key stops (is_below key stops bound) es rows in
      mark_at bound (place + length rows + arriving on) ∷ marks_up (place + length rows) on pieces

  -- a piece has as many rows more as carries go on from it that didn't come from below
  length-left : (own : X → Bool) (es : List (CarryState X)) (rows : List X) → length (left_after key stops own es rows) + arriving es ≡ length rows + arriving (passed key stops own es rows)
  length-left own [] rows = refl
  length-left own (comes x ∷ es) rows = elim (cases_Bool (own x)) [
    | inl is ↦ rw is (omega (arith, length-left own es (rows ++ x ∷ []), length_push rows x))
    | inr beyond ↦ rw beyond (length-left own es rows)
  ]
  length-left own (turns moved ∷ es) [] = omega (arith, length-left own es [])
  length-left own (turns moved ∷ es) (y ∷ ys) = elim (cases_Bool (stops y)) [
    | inl stop ↦ rw stop (omega (arith, length-left own es ys))
    | inr goes ↦ rw goes (omega (arith, length-left own es (ys ++ y ∷ []), length_push ys y))
  ]
  length-left own (stopped moved y ∷ es) rows = length-left own es rows

  pub marks_of-in_bulk : (place : ℕ) (es : List (CarryState X)) (pieces : Pieces X) → marks_of (place + arriving es) (in_bulk key stops es pieces) ≡ marks_up place es pieces
  marks_of-in_bulk place es (last rows) = refl
  marks_of-in_bulk place es (below rows bound pieces) =
      let own = is_below key stops bound in
      let on : List (CarryState X) = passed key stops own es rows in
      let size : (place + arriving es) + length (left_after key stops own es rows) ≡ (place + length rows) + arriving on = omega (arith, length-left own es rows) in
      rw (size, marks_of-in_bulk (place + length rows) on pieces) refl
