-- How a carry ends.
use Rattle.std.specs.Prelude.{◌≡◌, ℕ, Option, length}
use Rattle.crack_state.specs.State.{Carried}
use Rattle.crack_state.specs.Steps.{hand_key, piece_end, IsDoomed, IsBelow}
use Rattle.crack_store.specs.declared.ways.CarryEnd.{CarryEnd}
use Rattle.crack_store.specs.declared.ways.CarryEnd.TheVariants.{Buries, Evicts, Appends}

-- the first rule that ends a carry in this state, under the ceiling, if there is one, is this one: the hand is doomed
-- (`Buries`), its key is at or above the ceiling (`Evicts`), or its own piece ends where the column does (`Appends`)
abbrev pub EndsBy : Option ℕ → CarryEnd → Carried → Type 0
EndsBy ceiling Buries c = IsDoomed c
EndsBy ceiling Evicts c = ¬ IsDoomed c × (¬ IsBelow ceiling (hand_key c))
EndsBy ceiling Appends c = ¬ IsDoomed c × IsBelow ceiling (hand_key c) × (piece_end c.store (hand_key c) ≡ length c.store.column)
