-- What private clauses alone cite.
-- The passes of a merge by piece over the pieces of a column, in which some rows next to each other are a hole: they
-- belong to no piece.
use Rattle.std.specs.Prelude.{◌≡◌, ℕ, ◌+◌, ◌-◌, ◌<◌, ◌≤◌, Bool, true, false, List, ◌++◌, length, map, take, drop}
use Rattle.std.specs.List.{All, between}
use Rattle.std.specs.List.Sorted.{IsPermutation}

-- `V` is a pass that rises: its column's rows, where the next piece begins, how many rows the hole before that piece
-- has, how many rows were moved, and which rows leave their pieces. `Also` is what else holds from one step to the next
module _ {V X : Type 0} (rows_of : V → List X) (from_of gap_of moved_of : V → ℕ) (leaves_of : V → X → Bool) (Also : V → V → Type 0) where
  -- from `v` to `w` the piece that ends at `to` is closed: those of its rows that stay come before the hole, and the
  -- others join the hole. `place` is where the piece then ends. At most as many rows are moved as the hole then has
  pub record ClosesPiece (v : V) (to place : ℕ) (w : V) : Type 0 where
    pub stay : List X
    pub out : List X
    pub hole : List X
    pub rows_are : rows_of w ≡ take (from_of v - gap_of v) (rows_of v) ++ (stay ++ (hole ++ drop to (rows_of v)))
    pub piece : IsPermutation (between (from_of v) to (rows_of v)) (stay ++ out)
    pub hole_is : IsPermutation (between (from_of v - gap_of v) (from_of v) (rows_of v) ++ out) hole
    pub stays : All (λ x. leaves_of v x ≡ false) stay
    pub leaves : All (λ x. leaves_of v x ≡ true) out
    pub place_is : place ≡ (from_of v - gap_of v) + length stay
    pub from_is : from_of w ≡ to
    pub gap_is : gap_of w ≡ to - place
    pub few : moved_of w ≤ moved_of v + gap_of w
    pub also : Also v w

-- `V` is a pass that falls: its column's rows, where the hole begins, how many rows were moved, and the arrivals that
-- are left; an arrival has a row and a key. `Also` is what else holds from one step to the next
module _ {V X A : Type 0} (rows_of : V → List X) (end_of moved_of : V → ℕ) (left_of : V → List A) (row : A → X) (key : A → ℕ) (Also : V → V → Type 0) where
  -- from `v` to `w` the piece that begins at the place `from` and the bound `low` is opened: the hole, which is now
  -- smaller, comes before it, and the arrivals that aren't below `low` join it. `rise` arrivals are left. At most as
  -- many rows are moved
  pub record OpensPiece (v : V) (from low rise : ℕ) (w : V) : Type 0 where
    pub hole : List X
    pub piece : List X
    pub come : List A
    pub rows_are : rows_of w ≡ take from (rows_of v) ++ (hole ++ (piece ++ drop (end_of v + length (left_of v)) (rows_of v)))
    pub piece_is : IsPermutation (between from (end_of v) (rows_of v) ++ map row come) piece
    pub arrived : left_of v ≡ left_of w ++ come
    pub came : All (λ a. low ≤ key a) come
    pub left : All (λ a. key a < low) (left_of w)
    pub hole_is : length hole ≡ length (left_of w)
    pub rise_is : rise ≡ length (left_of w)
    pub end_is : end_of w ≡ from
    pub few : moved_of w ≤ moved_of v + rise
    pub also : Also v w
