-- What private clauses alone cite.
-- How a carry goes on.
use Rattle.std.specs.Prelude.{◌<◌, ℕ, Option, length}
use Rattle.crack_state.specs.State.{Carried}
use Rattle.crack_state.specs.Steps.{hand_key, piece_end, IsDoomed, IsBelow}

-- no rule ends the carry: the hand isn't doomed, is below the ceiling, if any, and its piece ends before the column
pub record GoesOn (ceiling : Option ℕ) (c : Carried) : Type 0 where
  pub lasting : ¬ IsDoomed c
  pub below : IsBelow ceiling (hand_key c)
  pub room : piece_end c.store (hand_key c) < length c.store.column
