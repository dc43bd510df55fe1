-- What contracts see of a store with a cell in hand.
use Rattle.crack_arena.specs.Arena.{Handle}
use Rattle.crack_column.specs.Column.{first_aside}
use Rattle.crack_state.specs.State.{Carried}
use Rattle.crack_store.specs.declared.inside.Inside.{Inside}
use Rattle.crack_store.specs.Inside.{lists_of}

-- the handle in hand, which the column keeps aside: after its last place
abbrev pub hand_of : Inside → Handle
hand_of p = (first_aside p.column).handle

-- the parts of a store with a cell in hand, as lists
abbrev pub carried_of : Inside → Carried
carried_of p = record { store = lists_of p; hand = hand_of p }
