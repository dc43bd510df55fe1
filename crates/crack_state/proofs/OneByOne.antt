-- The pieces of a column after events one after the other, each of which goes through all the pieces that it reaches.
use Rattle.std.specs.Prelude.{ℕ, Bool, List, [], ◌∷◌}
use Rattle.crack_state.specs.Pieces.{Pieces, last, below}
use Rattle.crack_state.specs.Queues.{CarryState, is_below, any_row, after_event, next}

module _ {X : Type 0} (key : X → ℕ) (stops : X → Bool) where
  -- the pieces that one event reaches, after it
  abbrev pub reached : CarryState X → Pieces X → Pieces X
  reached e (last rows) = last (after_event key stops (any_row key stops) e rows)
  reached e (below rows bound pieces) =
      below (after_event key stops (is_below key stops bound) e rows) bound (reached (next key stops (is_below key stops bound) e rows) pieces)

  -- how it has ended
  abbrev pub outcome : CarryState X → Pieces X → CarryState X
  outcome e (last rows) = next key stops (any_row key stops) e rows
  outcome e (below rows bound pieces) = outcome (next key stops (is_below key stops bound) e rows) pieces

  -- the pieces after events one after the other
  abbrev pub one_at_a_time : List (CarryState X) → Pieces X → Pieces X
  one_at_a_time [] pieces = pieces
  one_at_a_time (e ∷ es) pieces = one_at_a_time es (reached e pieces)

  -- how each has ended
  abbrev pub outcomes : List (CarryState X) → Pieces X → List (CarryState X)
  outcomes [] pieces = []
  outcomes (e ∷ es) pieces = outcome e pieces ∷ outcomes es (reached e pieces)
