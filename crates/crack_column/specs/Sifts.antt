-- A piece once the rows behind it were sifted through it, in order: each row below the piece's low bound goes before
-- the piece, and each other one becomes the piece's last row. `key` gives the key of an element.
use Rattle.std.specs.Prelude.{◌≡◌, ℕ, ◌+◌, cond, nat_lt, filter, List, [], ◌∷◌, ◌++◌, length, map, take, drop}
use Rattle.std.specs.List.{between}
use Rattle.crack_arena.specs.Arena.{Cell}
use Rattle.crack_arena.specs.Rows.{key_at}
use Rattle.crack_row.specs.declared.Row.{Row}
use Rattle.crack_arena.specs.Memories.{memory_at}
use Rattle.crack_column.specs.Column.{Column}

-- the list after its first element moved to the end
abbrev pub turned_once : {X : Type 0} → List X → List X
turned_once [] = []
turned_once (y ∷ ys) = ys ++ y ∷ []

-- 1 if the list has an element, otherwise 0
abbrev pub one_if_some : {X : Type 0} → List X → ℕ
one_if_some [] = 0
one_if_some (y ∷ ys) = 1

module _ {X : Type 0} (key : X → ℕ) where
  -- the elements whose key is below a bound
  abbrev pub below_bound : ℕ → List X → List X
  below_bound bound xs = filter (λ x. nat_lt (key x) bound) xs

  -- a piece with the low bound `bound`, once rows were sifted through it; the first list are these incoming rows, the
  -- second the piece's. For an incoming row below the bound, which goes before the piece, the piece's first row moves
  -- to its end. Any other incoming row is appended to the piece
  abbrev pub queued : ℕ → List X → List X → List X
  queued bound [] rows = rows
  queued bound (x ∷ xs) rows = queued bound xs (cond (nat_lt (key x) bound) (turned_once rows) (rows ++ x ∷ []))

  -- how often a row of the piece, the second list, moves as the incoming rows, the first list, come in, as in `queued`
  abbrev pub made_way : ℕ → List X → List X → ℕ
  made_way bound [] rows = 0
  made_way bound (x ∷ xs) rows = cond (nat_lt (key x) bound) (one_if_some rows + made_way bound xs (turned_once rows)) (made_way bound xs (rows ++ x ∷ []))

-- the column remembers the keys and the payloads of the rows that its handles at `from..to` read in these cells
abbrev pub AreRead : List (Cell Row) → ℕ → ℕ → Column → Type 0
AreRead cells from to c = between from to c.remembered ≡ map (memory_at cells) (between from to c.handles)

-- `new` is the column `old` after the rows at `from..to` were sifted through the piece at `start..from`. The sifted
-- rows below the bound, `below` in number, come first, from `start` on, and are remembered (`AreRead`). After them
-- comes the piece, as in `queued`; its rows moved `moved` times. All other handles are unchanged
pub record Sifts (cells : List (Cell Row)) (bound start from to : ℕ) (old new : Column) (below moved : ℕ) : Type 0 where
  pub handles_are : new.handles ≡ take start old.handles ++ (below_bound (key_at cells) bound (between from to old.handles) ++ queued (key_at cells) bound (between from to old.handles) (between start from old.handles)) ++ drop to old.handles
  pub below_is : below ≡ length (below_bound (key_at cells) bound (between from to old.handles))
  pub moved_is : moved ≡ made_way (key_at cells) bound (between from to old.handles) (between start from old.handles)
  pub read : AreRead cells start (start + below) new
