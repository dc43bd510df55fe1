-- The bounds that divide a cracked column, each with its place. A bound with its place is a mark: the rows before the
-- place have keys below the bound, the others haven't. Lists of marks have the lowest bound first.
use Rattle.std.specs.Prelude.{ℕ, ◌+◌, ◌-◌, ◌<◌, ◌≤◌, ◌&&◌, ◌==◌, nat_lt, nat_le, cond, List, All, AllPairs, Contains, map, Option, Some, None, unwrap_or, [], ◌∷◌}
use Rattle.std.specs.Option.{option_map}
use Rattle.crack_row.specs.declared.Bound.{Bound}
use Rattle.crack_row.specs.declared.layout.PieceSize.{PieceSize}
use Rattle.crack_index.specs.declared.mark.Mark.{Mark}
use Rattle.crack_index.specs.declared.index.Piece.{Piece}

-- what contracts see of an index: its marks in rising order, and for how many more marks it has room
pub record Index : Type 0 where
  pub marks : List Mark
  pub room : ℕ

-- the bound of `m` is below that of `n`, and the place of `m` isn't after that of `n`
pub record InOrder (m n : Mark) : Type 0 where
  pub bounds : m.bound.0 < n.bound.0
  pub positions : m.position ≤ n.position

-- from each mark to every later one the bound rises, and the place doesn't fall
abbrev pub Rising : List Mark → Type 0
Rising marks = AllPairs InOrder marks

-- the place of `m` is at or after those of all marks with lower bounds, and at or before those of all with higher ones
pub record Fits (m : Mark) (marks : List Mark) : Type 0 where
  pub behind : All (λ n. n.bound.0 < m.bound.0 → n.position ≤ m.position) marks
  pub before : All (λ n. m.bound.0 < n.bound.0 → m.position ≤ n.position) marks

-- the bounds of marks, in the same order
abbrev pub bounds_of : List Mark → List ℕ
bounds_of marks = map (λ (m : Mark). m.bound.0) marks

-- one of the marks has the bound
abbrev pub HasBound : List Mark → ℕ → Type 0
HasBound marks bound = Contains (bounds_of marks) bound

-- the place of the bound, or 0 if no mark has it
abbrev pub position_of : ℕ → List Mark → ℕ
position_of bound [] = 0
position_of bound (m ∷ ms) = cond (m.bound.0 == bound) m.position (position_of bound ms)

-- the first mark whose bound is above the number, or `None` if there is none
abbrev pub next_mark : ℕ → List Mark → Option Mark
next_mark number [] = None
next_mark number (m ∷ ms) = cond (nat_lt number m.bound.0) (Some m) (next_mark number ms)

-- the last mark whose bound is at or below the number, or `None` if there is none
abbrev pub last_mark : ℕ → List Mark → Option Mark
last_mark number [] = None
last_mark number (m ∷ ms) = cond (nat_le m.bound.0 number) (Some (unwrap_or (last_mark number ms) m)) None

-- the first mark whose place is after the given place, or `None` if there is none
abbrev pub first_after : ℕ → List Mark → Option Mark
first_after place [] = None
first_after place (m ∷ ms) = cond (nat_lt place m.position) (Some m) (first_after place ms)

-- the last mark whose place is before the given place, or `None` if there is none
abbrev pub last_before : ℕ → List Mark → Option Mark
last_before place [] = None
last_before place (m ∷ ms) = cond (nat_lt m.position place) (Some (unwrap_or (last_before place ms) m)) None

-- where a piece begins, given the mark at its low end: at the mark's place, or at 0 if there is no mark
abbrev pub start_of : Option Mark → ℕ
start_of None = 0
start_of (Some m) = m.position

-- where a piece ends, given the mark at its high end: at the mark's place, or, without one, at `len`, the column's end
abbrev pub end_of : ℕ → Option Mark → ℕ
end_of len None = len
end_of len (Some m) = m.position

-- the piece that contains the key, in a column of `len` rows: its bounds, `None` at an end of the keys, and the places
-- of its first row and after its last one
abbrev pub piece_at : ℕ → ℕ → List Mark → Piece
piece_at key len marks =
    let low = last_mark key marks in
    let high = next_mark key marks in
    record { low = option_map (λ (m : Mark). m.bound) low; high = option_map (λ (m : Mark). m.bound) high; from = start_of low; to = end_of len high }

-- the piece from `low`, whose place is `from`, to `high`, whose place is `to`, with the number of rows between the two
abbrev pub size_between : Bound → ℕ → Bound → ℕ → PieceSize
size_between low from high to = record { low = low; high = high; size = to - from }

-- the pieces, each with its number of rows, into which the marks divide the rows from `low`, whose place is `from`, to
-- `high`, whose place is `to`
abbrev pub pieces_from : Bound → ℕ → List Mark → Bound → ℕ → List PieceSize
pieces_from low from [] high to = size_between low from high to ∷ []
pieces_from low from (m ∷ ms) high to =
    let bound : Bound = record { 0 = m.bound.0 } in
    size_between low from bound m.position ∷ pieces_from bound m.position ms high to

-- the marks with `m`, inserted before the first mark with a higher bound, or at the end if no mark has one
abbrev pub with_mark : Mark → List Mark → List Mark
with_mark m [] = m ∷ []
with_mark m (n ∷ ns) = cond (nat_lt m.bound.0 n.bound.0) (m ∷ n ∷ ns) (n ∷ with_mark m ns)

-- the marks without the mark of this bound; the same marks if there is none
abbrev pub removed : ℕ → List Mark → List Mark
removed bound [] = []
removed bound (m ∷ ms) = cond (m.bound.0 == bound) ms (m ∷ removed bound ms)

-- the first list has some of the second's marks, in the same order
pub data SomeMarks : List Mark → List Mark → Type 0 where
  -- both lists are empty
  nothing : SomeMarks [] []
  -- the first mark is left out
  left_out : (m : Mark) (some all : List Mark) → SomeMarks some all → SomeMarks some (m ∷ all)
  -- both lists begin with the same mark
  kept : (m : Mark) (some all : List Mark) → SomeMarks some all → SomeMarks (m ∷ some) (m ∷ all)

-- the mark, moved up by one place if its bound is at or above `low` and it is at `place`, else unchanged
abbrev pub raised : ℕ → ℕ → Mark → Mark
raised low place m = record m { position = cond (nat_le low m.bound.0 && (m.position == place)) (m.position + 1) m.position }

-- the mark, moved down by one place if its bound is at or below `high` and it is at `place`, else unchanged
abbrev pub lowered : ℕ → ℕ → Mark → Mark
lowered high place m = record m { position = cond (nat_le m.bound.0 high && (m.position == place)) (m.position - 1) m.position }

-- the mark, moved down by one place if it is at `place`, else unchanged
abbrev pub lowered_at : ℕ → Mark → Mark
lowered_at place m = record m { position = cond (m.position == place) (m.position - 1) m.position }
