-- Event by event and piece by piece have the same result: a piece depends only on which events reach it, and in which order.
use Rattle.std.proofs.Common.{◌≡◌, ℕ, Bool, List, [], ◌∷◌, refl, ap, ◌∙◌}
use Rattle.crack_row.specs.declared.InnerBound.{InnerBound}
use Rattle.crack_state.specs.Pieces.{Pieces, last, below}
use Rattle.crack_state.specs.Queues.{CarryState, stopped, is_below, any_row, after_event, next, left_after, passed, in_bulk, bulk_outcomes}
use Rattle.crack_state.proofs.OneByOne.{reached, outcome, one_at_a_time, outcomes}

module _ {X : Type 0} (key : X → ℕ) (stops : X → Bool) where
  -- events that have ended below leave the pieces above as they are
  pub reached-stopped : (n : ℕ) (y : X) (pieces : Pieces X) → reached key stops (stopped n y) pieces ≡ pieces
  reached-stopped n y (last rows) = refl
  reached-stopped n y (below rows bound pieces) = ap (below rows bound) (reached-stopped n y pieces)

  pub outcome-stopped : (n : ℕ) (y : X) (pieces : Pieces X) → outcome key stops (stopped n y) pieces ≡ stopped n y
  outcome-stopped n y (last rows) = refl
  outcome-stopped n y (below rows bound pieces) = outcome-stopped n y pieces

  one_last : (es : List (CarryState X)) (rows : List X) → one_at_a_time key stops es (last rows) ≡ last (left_after key stops (any_row key stops) es rows)
  one_last [] rows = refl
  one_last (e ∷ es) rows = one_last es (after_event key stops (any_row key stops) e rows)

  one_below : (es : List (CarryState X)) (rows : List X) (bound : InnerBound) (pieces : Pieces X) → one_at_a_time key stops es (below rows bound pieces) ≡ below (left_after key stops (is_below key stops bound) es rows) bound (one_at_a_time key stops (passed key stops (is_below key stops bound) es rows) pieces)
  one_below [] rows bound pieces = refl
  one_below (e ∷ es) rows bound pieces =
      one_below es (after_event key stops (is_below key stops bound) e rows) bound (reached key stops (next key stops (is_below key stops bound) e rows) pieces)

  pub one_at_a_time-in_bulk : (es : List (CarryState X)) (pieces : Pieces X) → one_at_a_time key stops es pieces ≡ in_bulk key stops es pieces
  one_at_a_time-in_bulk es (last rows) = one_last es rows
  one_at_a_time-in_bulk es (below rows bound pieces) =
      one_below es rows bound pieces ∙ ap (below (left_after key stops (is_below key stops bound) es rows) bound) (one_at_a_time-in_bulk (passed key stops (is_below key stops bound) es rows) pieces)

  outcomes_last : (es : List (CarryState X)) (rows : List X) → outcomes key stops es (last rows) ≡ passed key stops (any_row key stops) es rows
  outcomes_last [] rows = refl
  outcomes_last (e ∷ es) rows = ap (λ others. next key stops (any_row key stops) e rows ∷ others) (outcomes_last es (after_event key stops (any_row key stops) e rows))

  outcomes_below : (es : List (CarryState X)) (rows : List X) (bound : InnerBound) (pieces : Pieces X) → outcomes key stops es (below rows bound pieces) ≡ outcomes key stops (passed key stops (is_below key stops bound) es rows) pieces
  outcomes_below [] rows bound pieces = refl
  outcomes_below (e ∷ es) rows bound pieces =
      let on = next key stops (is_below key stops bound) e rows in
      ap (λ others. outcome key stops on pieces ∷ others) (outcomes_below es (after_event key stops (is_below key stops bound) e rows) bound (reached key stops on pieces))

  pub outcomes-in_bulk : (es : List (CarryState X)) (pieces : Pieces X) → outcomes key stops es pieces ≡ bulk_outcomes key stops es pieces
  outcomes-in_bulk es (last rows) = outcomes_last es rows
  outcomes-in_bulk es (below rows bound pieces) =
      outcomes_below es rows bound pieces ∙ outcomes-in_bulk (passed key stops (is_below key stops bound) es rows) pieces
