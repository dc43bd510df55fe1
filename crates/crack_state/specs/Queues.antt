-- What carries do to the pieces of a column. A carry puts an incoming row at the end of the row's own piece, at the
-- place of the next piece's first row. That one goes to the end of its piece, and so on: the carry turns each higher
-- piece. To a piece, the carries are a queue of states: all may pass it before one reaches the next piece.
use Rattle.std.specs.Prelude.{ℕ, suc, Bool, true, cond, nat_lt, List, [], ◌∷◌, ◌++◌}
use Rattle.crack_row.specs.declared.InnerBound.{InnerBound}
use Rattle.crack_state.specs.Pieces.{Pieces, last, below}

-- the state of a carry when it reaches a piece
pub data CarryState (X : Type 0) : Type 0 where
  -- the carry has an incoming row in hand, whose own piece is this one or a higher one
  comes : X → CarryState X
  -- a row of a lower piece takes the place of this piece's first row; this many rows have moved so far
  turns : ℕ → CarryState X
  -- the carry has ended in a lower piece, with this row in hand, after this many rows moved
  stopped : ℕ → X → CarryState X

-- `key` gives a row's key, and `stops` whether a carry ends with the row in hand: it is doomed, or at or above a
-- ceiling. Further tests below are called `own`: whether a row belongs to the piece in question or to a lower one
module _ {X : Type 0} (key : X → ℕ) (stops : X → Bool) where
  -- whether a row belongs to the piece that ends at this bound, or to a lower one: its key is below the bound
  abbrev pub is_below : InnerBound → X → Bool
  is_below bound x = nat_lt (key x) bound.0

  -- true: every row is in the last piece or in a lower one
  abbrev pub any_row : X → Bool
  any_row x = true

  -- the rows of a piece after it was turned: a row of a lower piece took the place of the first row, and the place now
  -- belongs to the lower piece. The first row goes to the end of its piece, or leaves the column if `stops` is true of
  -- it. An empty piece is unchanged
  abbrev pub after_turn : List X → List X
  after_turn [] = []
  after_turn (y ∷ ys) = cond (stops y) ys (ys ++ y ∷ [])

  -- the state of a carry after it turned a piece with these rows (`after_turn`); this many rows had moved before. If
  -- the piece has a first row, that row moved too, and the carry stops with it in hand if `stops` is true of it
  abbrev pub onward : ℕ → List X → CarryState X
  onward moved [] = turns moved
  onward moved (y ∷ ys) = cond (stops y) (stopped (suc moved) y) (turns (suc moved))

  -- the rows of a piece after a carry reached it in this state: an incoming row (`comes`) is appended if `own` is true
  -- of it, a row of a lower piece (`turns`) turns the piece (`after_turn`), and otherwise the rows are unchanged
  abbrev pub after_event : (X → Bool) → CarryState X → List X → List X
  after_event own (comes x) rows = cond (own x) (rows ++ x ∷ []) rows
  after_event own (turns moved) rows = after_turn rows
  after_event own (stopped moved y) rows = rows

  -- the state in which a carry reaches the next higher piece, if it reached a piece with these rows in this state. The
  -- test is `own` of the piece with these rows
  abbrev pub next : (X → Bool) → CarryState X → List X → CarryState X
  next own (comes x) rows = cond (own x) (turns 0) (comes x)
  next own (turns moved) rows = onward moved rows
  next own (stopped moved y) rows = stopped moved y

  -- the rows of a piece after carries reached it in these states, in order; the test is `own` of this piece
  abbrev pub left_after : (X → Bool) → List (CarryState X) → List X → List X
  left_after own [] rows = rows
  left_after own (e ∷ es) rows = left_after own es (after_event own e rows)

  -- the states in which carries reach the next higher piece, in order, if they reached a piece with these rows in
  -- these states. The test is `own` of the piece with these rows
  abbrev pub passed : (X → Bool) → List (CarryState X) → List X → List (CarryState X)
  passed own [] rows = []
  passed own (e ∷ es) rows = next own e rows ∷ passed own es (after_event own e rows)

  -- these pieces after carries, one after the other, that reach the first of them in these states
  abbrev pub in_bulk : List (CarryState X) → Pieces X → Pieces X
  in_bulk es (last rows) = last (left_after any_row es rows)
  in_bulk es (below rows bound pieces) = below (left_after (is_below bound) es rows) bound (in_bulk (passed (is_below bound) es rows) pieces)

  -- the outcomes of carries that reach the lowest piece in these states: the states in which they leave the last piece
  abbrev pub bulk_outcomes : List (CarryState X) → Pieces X → List (CarryState X)
  bulk_outcomes es (last rows) = passed any_row es rows
  bulk_outcomes es (below rows bound pieces) = bulk_outcomes (passed (is_below bound) es rows) pieces
