-- Rows that came in after the column's last row pass all pieces.
use Rattle.std.specs.Prelude.{ℕ, ◌+◌, Bool, count_by, List, [], ◌∷◌, ◌++◌, length}
use Rattle.crack_index.specs.declared.mark.Mark.{Mark}
use Rattle.crack_state.specs.Pieces.{Pieces, last, below}
use Rattle.crack_state.specs.Sweeps.{Swept, goes_on, is_lower, any_lower, swept_by}

-- `key` of each row, and whether a carry ends with it in hand
module _ {X : Type 0} (key : X → ℕ) (stops : X → Bool) where
  -- piece by piece, from the lowest up
  abbrev pub swept_up : ℕ → List X → Pieces X → Swept X
  swept_up low ts (last rows) = swept_by key stops low (any_lower key stops) ts rows
  swept_up low ts (below rows bound pieces) =
      let here = swept_by key stops low (is_lower key stops bound.0) ts rows in
      let above = swept_up bound.0 here.tail pieces in
      record { piece = here.piece ++ above.piece; tail = above.tail; made = here.made + above.made }

  -- the marks of the bounds afterwards, if the first piece begins at this place: each rises by as many as go on from the piece below it
  abbrev pub swept_marks : ℕ → ℕ → List X → Pieces X → List Mark
  swept_marks place low ts (last rows) = []
  swept_marks place low ts (below rows bound pieces) =
      let here = swept_by key stops low (is_lower key stops bound.0) ts rows in
      record { bound = bound; position = place + length rows + count_by (goes_on stops (is_lower key stops bound.0)) here.tail } ∷ swept_marks (place + length rows) bound.0 here.tail pieces
