-- What private clauses alone cite.
-- The invariant of a store, with or without a cell in hand.
use Rattle.std.specs.Prelude.{◌≡◌, ⊤, ◌<◌, ℕ, List, [], ◌∷◌, length, ◌≤◌}
use Rattle.crack_arena.specs.Arena.{Handle}
use Rattle.crack_arena.specs.Rows.{key_at}
use Rattle.crack_arena.specs.Memories.{Agrees, Remembers}
use Rattle.crack_column.specs.Column.{first_aside}
use Rattle.crack_index.specs.declared.mark.Mark.{Mark}
use Rattle.crack_index.specs.Marks.{next_mark}
use Rattle.crack_state.specs.State.{IsIntact}
use Rattle.crack_store.specs.declared.inside.Inside.{Inside}
use Rattle.crack_store.specs.declared.carrying.Near.{Near}
use Rattle.crack_store.specs.declared.carrying.Near.TheVariants.{Unsought, Above}
use Rattle.crack_store.specs.Inside.{lists_of}
use Rattle.crack_store.specs.Hand.{hand_of}

-- the invariant of the parts of a store; `hand` has the handle in hand, or is empty. As lists they are intact
-- (`IsIntact`). What the column and the pending lists remember agrees with their rows. The pending insertions have
-- room for `in_room` more, and each cell may have a handle among them
pub record KeepsIntact (p : Inside) (hand : List Handle) : Type 0 where
  pub intact : IsIntact (lists_of p) hand
  pub remembers : Remembers p.arena.cells p.column.handles p.column.remembered
  pub keys_in : Remembers p.arena.cells p.pending_in.handles p.pending_in.remembered
  pub keys_out : Remembers p.arena.cells p.pending_out.handles p.pending_out.remembered
  pub room : p.in_room ≤ p.pending_in.room
  pub covered : length p.arena.cells ≤ p.pending_in.covered

-- what was kept of the last look-up fits this key: the bound of `Above` is the least of the marks above the key, or
-- `None` if none is above it; for `Unsought`, which keeps nothing, nothing is required
abbrev pub IsNear : List Mark → ℕ → Near → Type 0
IsNear marks key Unsought = ⊤
IsNear marks key (Above mark) = mark ≡ next_mark key marks

-- the parts of a store keep their invariant with a handle in hand. The column has it aside, after its last place, and
-- has room for it; what is remembered of its row agrees with the row
pub record HasHand (p : Inside) : Type 0 where
  pub kept : KeepsIntact p (hand_of p ∷ [])
  pub aside : 0 < length p.column.aside
  pub agrees : Agrees p.arena.cells (hand_of p) (first_aside p.column).memory
  pub room : 0 < p.column.room

-- a handle is in hand, as `HasHand` says, and the bound kept from the last look-up, if any, is the least above its key
pub record KeepsHand (p : Inside) (near : Near) : Type 0 where
  pub has : HasHand p
  pub is_near : IsNear p.index.marks (key_at p.arena.cells (hand_of p)) near
