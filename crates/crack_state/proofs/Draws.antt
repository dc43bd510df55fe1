-- A pull step by step, and a column and its marks after it, from the highest mark down.
use Rattle.std.specs.Prelude.{◌≡◌, ◌≢◌, ℕ, ◌+◌, ◌-◌, ◌<◌, ◌≤◌, cond, nat_lt, List, [], ◌∷◌, ◌++◌, take, drop}
use Rattle.crack_arena.specs.Arena.{Handle, StandsAt}
use Rattle.crack_index.specs.declared.mark.Mark.{Mark}
use Rattle.crack_column.specs.Sifts.{one_if_some}
use Rattle.crack_column.specs.Drains.{turned_back, without, one_unless_last}
use Rattle.crack_state.specs.State.{State, Carried}
use Rattle.crack_state.specs.Steps.{hand_key, piece_start, piece_end, pulled_back, exchanged, buried}
use Rattle.crack_state.specs.Pulled.{pulled_by}

-- the pull of a doomed row, step by step, each by the first rule that holds
pub data Draws (doomed : Handle) : Carried → State → Type 0 where
  -- the hand is that row: it is buried
  reaches : (c : Carried) → c.hand ≡ doomed → Draws doomed c (buried c)
  -- else, that row is in the own piece of the hand: the hand takes its place, and it is buried
  exchanges : (c : Carried) (place : ℕ) → c.hand ≢ doomed → StandsAt c.store.column place doomed → piece_start c.store (hand_key c) ≤ place → place < piece_end c.store (hand_key c) → Draws doomed c (buried (exchanged place c))
  -- else, it is before that piece: the hand takes the last place before its piece, and the pull goes on with the row that was there in hand
  draws : (c : Carried) (place : ℕ) (t : State) → c.hand ≢ doomed → StandsAt c.store.column place doomed → place < piece_start c.store (hand_key c) → Draws doomed (pulled_back c) t → Draws doomed c t

-- the store with this column, these marks and this many rows pulled, and a hand
abbrev pub drawn_with : State → List Handle → List Mark → ℕ → Handle → Carried
drawn_with s column marks count hand =
    record {
      store = record s {
        column = column;
        marks = marks;
        tally = pulled_by count s.tally;
      };
      hand = hand;
    }

-- a bound above a key moves down by one
abbrev pub fallen : ℕ → Mark → Mark
fallen key m = record m { position = cond (nat_lt key m.bound.0) (m.position - 1) m.position }

-- the marks, of which the highest comes first, in rising order
abbrev pub upward : List Mark → List Mark
upward [] = []
upward (m ∷ ms) = upward ms ++ m ∷ []

module _ (key : Handle → ℕ) (d : Handle) where
  -- with the highest mark first: these rows after the pull of a doomed row
  abbrev pub pulled_down : List Mark → List Handle → List Handle
  pulled_down [] rows = without d rows
  pulled_down (m ∷ ms) rows =
      cond (nat_lt (key d) m.bound.0) (pulled_down ms (take m.position rows) ++ turned_back (drop m.position rows)) (take m.position rows ++ without d (drop m.position rows))

  -- and how many of them it moves
  abbrev pub drawn_down : List Mark → List Handle → ℕ
  drawn_down [] rows = one_unless_last d rows
  drawn_down (m ∷ ms) rows =
      cond (nat_lt (key d) m.bound.0) (drawn_down ms (take m.position rows) + one_if_some (drop m.position rows)) (one_unless_last d (drop m.position rows))
