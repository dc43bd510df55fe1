-- The pieces below the highest mark after pulls, if all doomed rows are below it, and the piece above it.
use Rattle.std.proofs.Common.{◌≡◌, ℕ, zero, ◌+◌, ◌-◌, ◌<◌, ◌≤◌, List, [], ◌∷◌, ◌++◌, length, take, drop, refl, sym, ap, ◌∙◌, arith}
use Rattle.std.specs.List.{All}
use Rattle.std.proofs.lemmas.Bool.{lt-ltb}
use Rattle.std.proofs.lemmas.List.{append_assoc, length-append, drop-drop, drop-take, take-take}
use Rattle.std.proofs.lemmas.List.Elements.{All-head, All-tail}
use Rattle.crack_row.specs.declared.InnerBound.{InnerBound}
use Rattle.crack_arena.specs.Arena.{Handle}
use Rattle.crack_index.specs.declared.mark.Mark.{Mark}
use Rattle.crack_column.specs.Drains.{drained_once, drained, drawn_once, drawn}
use Rattle.crack_state.specs.Pieces.{Pieces, below, column_of, marks_of, cut}
use Rattle.crack_state.specs.Pulled.{any_doomed, ends_above, pulled, all_drawn, itself}
use Rattle.crack_state.proofs.StepsDown.{AreFrom, AreFrom-tail, last_behind}

module _ (key : Handle → ℕ) (ds : List Handle) where
  -- doomed rows below the bound of a piece are all of this piece or of lower ones
  all-below : (low : ℕ) (bound : InnerBound) (gs rows : List Handle) → All (λ d. key d < bound.0) gs → (drained key itself low (ends_above key itself bound) gs rows ≡ drained key itself low (any_doomed key itself) gs rows) × (drawn key itself low (ends_above key itself bound) gs rows ≡ drawn key itself low (any_doomed key itself) gs rows)
  all-below low bound [] rows under = (refl, refl)
  all-below low bound (g ∷ gs) rows under =
      let here = lt-ltb (key g) bound.0 (All-head (λ d. key d < bound.0) g gs under) in
      let left : List Handle = drained_once key itself low (any_doomed key itself) g rows in
      let once : drained_once key itself low (ends_above key itself bound) g rows ≡ left = rw here refl in
      let count : drawn_once key itself low (ends_above key itself bound) g rows ≡ drawn_once key itself low (any_doomed key itself) g rows = rw here refl in
      let rest = all-below low bound gs left (All-tail (λ d. key d < bound.0) g gs under) in
      (ap (drained key itself low (ends_above key itself bound) gs) once ∙ rest.0, rw (once, count) (ap (λ n. drawn_once key itself low (any_doomed key itself) g rows + n) rest.1))

  -- the pieces below the highest mark, whose rows are the first
  abbrev pub lower_pieces : ℕ → ℕ → List Mark → Mark → List Handle → Pieces Handle
  lower_pieces low place ns m rows = pulled key itself low ds (cut place ns (take (m.position - place) rows))

  pub record IsLast (low place : ℕ) (ns : List Mark) (m : Mark) (rows : List Handle) : Type 0 where
    pub column : column_of (pulled key itself low ds (cut place (ns ++ m ∷ []) rows)) ≡ column_of (lower_pieces low place ns m rows) ++ drained key itself m.bound.0 (any_doomed key itself) ds (drop (m.position - place) rows)
    pub drew : all_drawn key itself low ds (cut place (ns ++ m ∷ []) rows) ≡ all_drawn key itself low ds (cut place ns (take (m.position - place) rows)) + drawn key itself m.bound.0 (any_doomed key itself) ds (drop (m.position - place) rows)
    pub marks : (from : ℕ) → marks_of from (pulled key itself low ds (cut place (ns ++ m ∷ []) rows)) ≡ marks_of from (lower_pieces low place ns m rows) ++ record m { position = from + length (column_of (lower_pieces low place ns m rows)) } ∷ []

  pub last-is : (low place : ℕ) (ns : List Mark) (m : Mark) (rows : List Handle) → AreFrom key place (ns ++ m ∷ []) → All (λ d. key d < m.bound.0) ds → IsLast low place ns m rows
  last-is low place [] m rows are under =
      let one = all-below low m.bound ds (take (m.position - place) rows) under in
      record {
        column = ap (λ hs. hs ++ drained key itself m.bound.0 (any_doomed key itself) ds (drop (m.position - place) rows)) one.0;
        drew = ap (λ n. n + drawn key itself m.bound.0 (any_doomed key itself) ds (drop (m.position - place) rows)) one.1;
        marks = λ from. rw one.0 refl;
      }
  last-is low place (n ∷ ns) m rows are under =
      let order = last_behind key n m ns are.pairs in
      let from : place ≤ n.position = are.behind zero n (omega arith) in
      let rest = last-is n.bound.0 n.position ns m (drop (n.position - place) rows) (AreFrom-tail key place n (ns ++ m ∷ []) are) under in
      let size : m.position - place ≡ (n.position - place) + (m.position - n.position) = omega (arith, from, order.positions) in
      let first : take (n.position - place) (take (m.position - place) rows) ≡ take (n.position - place) rows = take-take (n.position - place) (m.position - place) rows (omega (arith, order.positions)) in
      let next : drop (n.position - place) (take (m.position - place) rows) ≡ take (m.position - n.position) (drop (n.position - place) rows) = ap (λ k. drop (n.position - place) (take k rows)) size ∙ drop-take (n.position - place) (m.position - n.position) rows in
      let over : drop (m.position - n.position) (drop (n.position - place) rows) ≡ drop (m.position - place) rows = drop-drop (m.position - n.position) (n.position - place) rows ∙ ap (λ k. drop k rows) (sym size) in
      let here : List Handle = drained key itself low (ends_above key itself n.bound) ds (take (n.position - place) rows) in
      let lower : Pieces Handle = lower_pieces n.bound.0 n.position ns m (drop (n.position - place) rows) in
      let pieces : lower_pieces low place (n ∷ ns) m rows ≡ below here n.bound lower = rw (first, next) refl in
      record {
        column = ap (λ hs. here ++ hs) rest.column ∙ sym (append_assoc here (column_of lower) (drained key itself m.bound.0 (any_doomed key itself) ds (drop (m.position - n.position) (drop (n.position - place) rows)))) ∙ rw (first, next, over) refl;
        drew = rw (first, next, ← over) (omega (arith, rest.drew));
        marks = λ start.
            let sum : (start + length here) + length (column_of lower) ≡ start + length (column_of (below here n.bound lower)) = omega (arith, length-append here (column_of lower)) in
            let up : marks_of start (pulled key itself low ds (cut place ((n ∷ ns) ++ m ∷ []) rows)) ≡ marks_of start (below here n.bound lower) ++ record m { position = start + length (column_of (below here n.bound lower)) } ∷ [] = rw (rest.marks (start + length here), sum) refl in
            up ∙ ap (λ P. marks_of start P ++ record m { position = start + length (column_of P) } ∷ []) (sym pieces);
      }
