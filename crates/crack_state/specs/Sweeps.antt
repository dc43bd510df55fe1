-- What private clauses alone cite.
-- How incoming rows pass the pieces of a column, from the lowest up. They begin in the tail: the places after the last
-- piece. A row of the tail turns a piece if it belongs to a lower one and no carry ends with it: it is exchanged with
-- the first of the piece's rows that wasn't exchanged yet, which is then carried on. `X` is what stands for a row.
use Rattle.std.specs.Prelude.{ℕ, ◌+◌, Bool, true, not, ◌&&◌, cond, nat_lt, List, [], ◌∷◌, ◌++◌}

-- what a sweep of one piece by the rows of the tail gives: the piece's rows, the tail, and how often rows moved
pub record Swept (X : Type 0) : Type 0 where
  pub piece : List X
  pub tail : List X
  pub made : ℕ

-- the result of a sweep, with this many more moves
abbrev pub with_more : {X : Type 0} → ℕ → Swept X → Swept X
with_more count s = record s { made = count + s.made }

-- the rows of the tail that came to a piece so far, in order: first `done`, which aren't exchanged any more at this
-- piece, then `queue`, which may be; `made` is how often rows moved
pub record Round (X : Type 0) : Type 0 where
  pub done : List X
  pub queue : List X
  pub made : ℕ

-- `stops` says whether a carry ends with a row in hand: it is doomed, or at or above a ceiling
module _ {X : Type 0} (stops : X → Bool) where
  -- whether the test is true of a row, and no carry ends with it. If the test is `own` of a piece, whether a row
  -- belongs to it or to a lower one, the row then goes on from the piece
  abbrev pub goes_on : (X → Bool) → X → Bool
  goes_on own t = own t && not (stops t)

  -- a row `t` turns a piece whose rows were all exchanged before. It takes the place of the first row of the queue
  -- that goes on from the piece, and that row goes to the queue's end. The rows before it, or all if none goes on, go
  -- to `done`, and `t` after them. The test is `own` of the piece, and the lists are `done` and the queue
  abbrev pub round : (X → Bool) → X → List X → List X → Round X
  round own t done [] = record { done = done ++ t ∷ []; queue = []; made = 0 }
  round own t done (q ∷ qs) =
      cond (goes_on own q) (record { done = done ++ t ∷ []; queue = qs ++ q ∷ []; made = 1 }) (round own t (done ++ q ∷ []) qs)

  -- a sweep of one piece. The arguments are, in order: the test `under`, whether a row belongs to a lower piece; the
  -- test `own`, whether it belongs to this piece or to a lower one; `ts`, the rows of the tail that are still to come;
  -- `front`, those that took the places of the piece's first rows; `rows`, the piece's other rows; and `done` and
  -- `queue` of a `Round`. The next of `ts` turns the piece if it `goes_on` by `under`: it takes the place of the first
  -- of `rows`, which goes to the end of `queue`, or makes a `round` if there is none. Otherwise it goes there itself
  abbrev pub swept : (X → Bool) → (X → Bool) → List X → List X → List X → List X → List X → Swept X
  swept under own [] front rows done queue = record { piece = front ++ rows; tail = done ++ queue; made = 0 }
  swept under own (t ∷ ts) front [] done queue =
      let r = round own t done queue in
      cond (goes_on under t) (with_more r.made (swept under own ts front [] r.done r.queue)) (swept under own ts front [] done (queue ++ t ∷ []))
  swept under own (t ∷ ts) front (y ∷ ys) done queue =
      cond (goes_on under t) (with_more 1 (swept under own ts (front ++ t ∷ []) ys done (queue ++ y ∷ []))) (swept under own ts front (y ∷ ys) done (queue ++ t ∷ []))

-- `key` gives a row's key, and `stops` says whether a carry ends with the row in hand
module _ {X : Type 0} (key : X → ℕ) (stops : X → Bool) where
  -- whether a row's key is below this bound
  abbrev pub is_lower : ℕ → X → Bool
  is_lower low x = nat_lt (key x) low

  -- true: every row is in the last piece or in a lower one
  abbrev pub any_lower : X → Bool
  any_lower x = true

  -- the result of a sweep of one piece by the rows `ts`, the first list, in order. `rows`, the second list, are the
  -- piece's, and it begins at the bound `low`. The test is `own`: whether a row belongs to the piece or to a lower one
  abbrev pub swept_by : ℕ → (X → Bool) → List X → List X → Swept X
  swept_by low own ts rows = swept stops (is_lower low) own ts [] rows [] []
