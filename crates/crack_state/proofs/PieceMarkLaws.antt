-- Where the marks of pieces are relative to a key in hand, and how bounds at one place move up together.
use Rattle.std.proofs.Common.{◌≡◌, ℕ, ◌+◌, ◌<◌, ◌≤◌, false, List, [], ◌∷◌, ◌++◌, map, length, leb, eqb, refl, arith, suc}
use Rattle.std.specs.List.{All}
use Rattle.std.proofs.lemmas.Bool.{le-ltb, le-leb, lt-leb, eq-eqb, ne_eqb, and_right}
use Rattle.std.proofs.lemmas.List.Elements.{All-head, All-tail, All-weaker}
use Rattle.crack_row.specs.declared.InnerBound.{InnerBound}
use Rattle.crack_index.specs.declared.mark.Mark.{Mark}
use Rattle.crack_index.specs.Marks.{next_mark, raised}
use Rattle.crack_state.specs.Pieces.{Pieces, last, below, marks_of}
use Rattle.crack_state.proofs.Divided.{AreDivided}

-- the mark of a bound at a place
abbrev pub mark_at : InnerBound → ℕ → Mark
mark_at bound place = record { bound = bound; position = place }

-- bounds at or below a key aren't the next above it
pub next_mark-skips : (key : ℕ) (marks rest : List Mark) → All (λ m. m.bound.0 ≤ key) marks → next_mark key (marks ++ rest) ≡ next_mark key rest
next_mark-skips key [] rest low = refl
next_mark-skips key (m ∷ ms) rest low =
    rw (le-ltb key m.bound.0 (All-head (λ n. n.bound.0 ≤ key) m ms low)) (next_mark-skips key ms rest (All-tail (λ n. n.bound.0 ≤ key) m ms low))

-- a bound that is at the place moves up
pub raised-here : (low place : ℕ) (bound : InnerBound) → low ≤ bound.0 → raised low place (mark_at bound place) ≡ mark_at bound (place + 1)
raised-here low place bound above = rw (le-leb low bound.0 above, eq-eqb place place refl) refl

-- bounds below this one stay
pub raised-lower : (low place : ℕ) (marks : List Mark) → All (λ m. m.bound.0 < low) marks → map (raised low place) marks ≡ marks
raised-lower low place [] below_it = refl
raised-lower low place (m ∷ ms) below_it =
    let first = All-head (λ n. n.bound.0 < low) m ms below_it in
    rw (lt-leb low m.bound.0 first, raised-lower low place ms (All-tail (λ n. n.bound.0 < low) m ms below_it)) refl

module _ {X : Type 0} where
  -- marks after the place stay
  pub raised-behind : (low place at : ℕ) (pieces : Pieces X) → place < at → map (raised low place) (marks_of at pieces) ≡ marks_of at pieces
  raised-behind low place at (last rows) behind = refl
  raised-behind low place at (below rows bound pieces) behind =
      let other : eqb (at + length rows) place ≡ false = ne_eqb (at + length rows) place (λ e. absurd (omega (arith, e, behind))) in
      rw (and_right (leb low bound.0) (eqb (at + length rows) place) other, raised-behind low place (at + length rows) pieces (omega (arith, behind))) refl

  -- and so do the marks of a piece that isn't empty and begins at the place, and of the pieces above it
  pub raised-behind_first : (low place : ℕ) (y : X) (ys : List X) (bound : InnerBound) (pieces : Pieces X) → map (raised low place) (marks_of place (below (y ∷ ys) bound pieces)) ≡ marks_of place (below (y ∷ ys) bound pieces)
  raised-behind_first low place y ys bound pieces =
      let other : eqb (place + suc (length ys)) place ≡ false = ne_eqb (place + suc (length ys)) place (λ e. absurd (omega (arith, e))) in
      rw (and_right (leb low bound.0) (eqb (place + suc (length ys)) place) other, raised-behind low place (place + suc (length ys)) pieces (omega arith)) refl

  -- pieces that begin at a bound begin at any lower one
  pub AreDivided-lower : (key : X → ℕ) (low bound : ℕ) (pieces : Pieces X) → low ≤ bound → AreDivided key bound pieces → AreDivided key low pieces
  AreDivided-lower key low bound (last rows) order divided = All-weaker (λ x. bound ≤ key x) (λ x. low ≤ key x) (λ x h. omega (arith, h, order)) rows divided
  AreDivided-lower key low bound (below rows end pieces) order divided =
      (All-weaker (λ x. (bound ≤ key x) × (key x < end.0)) (λ x. (low ≤ key x) × (key x < end.0)) (λ x h. (omega (arith, h.0, order), h.1)) rows divided.0, omega (arith, order, divided.1), divided.2)
