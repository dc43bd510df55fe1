-- Pieces whose rows lie between the bounds of each.
use Rattle.std.specs.Prelude.{ℕ, ◌<◌, ◌≤◌}
use Rattle.std.specs.List.{All}
use Rattle.crack_state.specs.Pieces.{Pieces, last, below}

module _ {X : Type 0} where
  -- the key of each row lies between the bounds of its piece; the first piece begins at this bound
  abbrev pub AreDivided : (X → ℕ) → ℕ → Pieces X → Type 0
  AreDivided key low (last rows) = All (λ x. low ≤ key x) rows
  AreDivided key low (below rows bound pieces) = All (λ x. (low ≤ key x) × (key x < bound.0)) rows × (low ≤ bound.0) × AreDivided key bound.0 pieces
