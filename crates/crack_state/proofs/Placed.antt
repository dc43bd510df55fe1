-- Carries that end with a row in hand: the row that came in takes the place of the one with which its carry ends, and then all are sifted.
use Rattle.std.specs.Prelude.{ℕ, suc, ◌+◌, length, Bool, cond, nat_lt, filter, List, [], ◌∷◌, ◌++◌}
use Rattle.crack_state.specs.Pieces.{Pieces, last, below}
use Rattle.crack_state.specs.Queues.{CarryState, comes, turns, stopped, is_below, any_row, passed}
use Rattle.crack_column.specs.Sifts.{turned_once, one_if_some}

module _ {X : Type 0} (key : X → ℕ) (stops : X → Bool) where
  -- the rows that reach a piece, of all that come in: their carries haven't ended below, and they are of this piece or of one below
  abbrev pub reaching : (X → Bool) → List X → List (CarryState X) → List X
  reaching own [] es = []
  reaching own (x ∷ xs) [] = []
  reaching own (x ∷ xs) (comes y ∷ es) = cond (own x) (x ∷ reaching own xs es) (reaching own xs es)
  reaching own (x ∷ xs) (turns moved ∷ es) = x ∷ reaching own xs es
  reaching own (x ∷ xs) (stopped moved y ∷ es) = reaching own xs es

  -- those of lower pieces among them
  abbrev pub turners : ℕ → List X → List X
  turners low xs = filter (λ x. nat_lt (key x) low) xs

  -- a piece after rows that reach it, one after the other
  abbrev pub met_by : ℕ → List X → List X → List X
  met_by low [] rows = rows
  met_by low (x ∷ xs) [] = cond (nat_lt (key x) low) (met_by low xs []) (met_by low xs (x ∷ []))
  met_by low (x ∷ xs) (y ∷ ys) =
      cond (nat_lt (key x) low) (cond (stops y) (met_by low xs ys) (met_by low xs (ys ++ y ∷ []))) (met_by low xs ((y ∷ ys) ++ x ∷ []))

  -- those of them that go on: all but those whose carry ends with a row of the piece in hand
  abbrev pub survivors : ℕ → List X → List X → List X
  survivors low [] rows = []
  survivors low (x ∷ xs) [] = cond (nat_lt (key x) low) (x ∷ survivors low xs []) (x ∷ survivors low xs (x ∷ []))
  survivors low (x ∷ xs) (y ∷ ys) =
      cond (nat_lt (key x) low) (cond (stops y) (survivors low xs ys) (x ∷ survivors low xs (ys ++ y ∷ []))) (x ∷ survivors low xs ((y ∷ ys) ++ x ∷ []))

  -- the rows of a piece, where the row that came in has taken the place of each with which a carry ends
  abbrev pub placed : List X → List X → List X
  placed [] rows = rows
  placed (x ∷ xs) [] = []
  placed (x ∷ xs) (y ∷ ys) = cond (stops y) x y ∷ placed xs ys

  -- the rows of lower pieces at the front, and the others
  abbrev pub front : ℕ → List X → List X
  front low [] = []
  front low (y ∷ ys) = cond (nat_lt (key y) low) (y ∷ front low ys) []

  abbrev pub behind_front : ℕ → List X → List X
  behind_front low [] = []
  behind_front low (y ∷ ys) = cond (nat_lt (key y) low) (behind_front low ys) (y ∷ ys)

  -- a pass over what follows a piece: each row of a lower piece is exchanged with the first of the piece, after the rows of lower pieces at the
  -- front; the rows at the front afterwards, and the piece
  abbrev pub pass_over : ℕ → List X → List X → List X → List X × List X
  pass_over low [] lower rows = (lower ++ front low rows, behind_front low rows)
  pass_over low (x ∷ xs) lower rows =
      cond (nat_lt (key x) low) (pass_over low xs (lower ++ (front low rows ++ x ∷ [])) (turned_once (behind_front low rows))) (pass_over low xs lower (rows ++ x ∷ []))

  -- the rows whose carries go on
  abbrev pub going : List X → List (CarryState X) → List X
  going [] es = []
  going (x ∷ xs) [] = []
  going (x ∷ xs) (comes y ∷ es) = going xs es
  going (x ∷ xs) (turns moved ∷ es) = x ∷ going xs es
  going (x ∷ xs) (stopped moved y ∷ es) = going xs es

  -- the pieces, once each row with which a carry ends is replaced by the row that came in
  abbrev pub placed_all : ℕ → List X → List (CarryState X) → Pieces X → Pieces X
  placed_all low xs es (last rows) = last (placed (turners low (reaching (any_row key stops) xs es)) rows)
  placed_all low xs es (below rows bound pieces) =
      below (placed (turners low (reaching (is_below key stops bound) xs es)) rows) bound (placed_all bound.0 xs (passed key stops (is_below key stops bound) es rows) pieces)

  -- the passes, from the highest piece down: first over what follows the last piece, and then over the rows of lower pieces that are before
  -- the one above
  abbrev pub sifted_down : ℕ → Pieces X → List X → List X × Pieces X
  sifted_down low (last rows) behind =
      let here = pass_over low behind [] rows in
      (here.0, last here.1)
  sifted_down low (below rows bound pieces) behind =
      let above = sifted_down bound.0 pieces behind in
      let here = pass_over low above.0 [] rows in
      (here.0, below here.1 bound above.1)

  -- how many rows of a piece move for rows that reach it
  abbrev pub made_way_to : ℕ → List X → List X → ℕ
  made_way_to low [] rows = 0
  made_way_to low (x ∷ xs) [] = cond (nat_lt (key x) low) (made_way_to low xs []) (made_way_to low xs (x ∷ []))
  made_way_to low (x ∷ xs) (y ∷ ys) =
      cond (nat_lt (key x) low) (cond (stops y) (suc (made_way_to low xs ys)) (suc (made_way_to low xs (ys ++ y ∷ [])))) (made_way_to low xs ((y ∷ ys) ++ x ∷ []))

  -- how many rows are passed or exchanged in a pass
  abbrev pub counted_over : ℕ → List X → List X → ℕ
  counted_over low [] rows = length (front low rows)
  counted_over low (x ∷ xs) rows =
      cond (nat_lt (key x) low) (length (front low rows) + (one_if_some (behind_front low rows) + counted_over low xs (turned_once (behind_front low rows)))) (counted_over low xs (rows ++ x ∷ []))
