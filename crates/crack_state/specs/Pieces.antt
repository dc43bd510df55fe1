-- The pieces of a cracker column, with their rows and marks. `X` is what stands for a row, say its handle.
use Rattle.std.specs.Prelude.{ℕ, ◌+◌, ◌-◌, List, [], ◌∷◌, ◌++◌, length, take, drop}
use Rattle.crack_row.specs.declared.InnerBound.{InnerBound}
use Rattle.crack_index.specs.declared.mark.Mark.{Mark}

-- the pieces of a column, from the lowest up
pub data Pieces (X : Type 0) : Type 0 where
  -- the last piece, with its rows
  last : List X → Pieces X
  -- a piece, with its rows, the bound where it ends, and the pieces above it
  below : List X → InnerBound → Pieces X → Pieces X

module _ {X : Type 0} where
  -- the rows of all pieces, in order
  abbrev pub column_of : Pieces X → List X
  column_of (last rows) = rows
  column_of (below rows bound pieces) = rows ++ column_of pieces

  -- the marks of the bounds between the pieces, each at the end of its piece, if the first piece begins at this place
  abbrev pub marks_of : ℕ → Pieces X → List Mark
  marks_of place (last rows) = []
  marks_of place (below rows bound pieces) = record { bound = bound; position = place + length rows } ∷ marks_of (place + length rows) pieces

  -- the pieces into which the marks, in rising order, divide these rows, which are the column's from this place on
  abbrev pub cut : ℕ → List Mark → List X → Pieces X
  cut place [] rows = last rows
  cut place (m ∷ ms) rows = below (take (m.position - place) rows) m.bound (cut m.position ms (drop (m.position - place) rows))
