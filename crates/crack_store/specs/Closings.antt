-- What private clauses alone cite.
-- The pass that closes a column's pieces over their doomed rows, from the lowest up. Its visitor is `v` before a bound
-- and `w` after it.
use Rattle.std.specs.Prelude.{◌≡◌, ℕ, ◌+◌, ◌-◌, ◌*◌, ◌≤◌, Bool, true, false, List, length, map, take, drop}
use Rattle.std.specs.List.{All}
use Rattle.std.specs.List.Sorted.{IsPermutation}
use Rattle.crack_arena.specs.Arena.{Handle}
use Rattle.crack_arena.specs.Rows.{key_at}
use Rattle.crack_index.specs.declared.mark.Mark.{Mark}
use Rattle.crack_index.specs.Marks.{Rising, bounds_of}
use Rattle.crack_state.specs.State.{IsObeyed, greatest}
use Rattle.crack_store.specs.Blocks.{KeepsRows, is_among}
use Rattle.crack_store.specs.Passes.{ClosesPiece}
use Rattle.crack_store.specs.declared.closing.Closing.{Closing}
use Rattle.crack_store.specs.declared.inside.Inside.{Inside}

-- the hole is before the next piece, which begins in the column or at its end, and the count of pulled rows is one of a
-- counter
pub record IsClosingReady (v : Closing) : Type 0 where
  pub gap : v.gap ≤ v.from
  pub within : v.from ≤ length v.column.handles
  pub small : v.pulled ≤ greatest

-- the handles of the column
abbrev pub closing_rows : Closing → List Handle
closing_rows v = v.column.handles

-- where the next piece begins
abbrev pub closing_from : Closing → ℕ
closing_from v = v.from

-- the number of rows in the hole
abbrev pub closing_gap : Closing → ℕ
closing_gap v = v.gap

-- the number of rows pulled
abbrev pub closing_moved : Closing → ℕ
closing_moved v = v.pulled

-- whether the row is doomed
abbrev pub closing_leaves : Closing → Handle → Bool
closing_leaves v = is_among v.pending_out.now.handles

-- the column has the same rows and room, the pending deletions are the same, and the count of pulled rows doesn't fall
pub record KeepsClosing (v w : Closing) : Type 0 where
  pub rows : KeepsRows v.column w.column
  pub out : w.pending_out ≡ v.pending_out
  pub pulled : v.pulled ≤ w.pulled

-- the piece that ends at the first number is closed, and then ends at the second (`ClosesPiece`)
abbrev pub Closes : Closing → ℕ → ℕ → Closing → Type 0
Closes = ClosesPiece closing_rows closing_from closing_gap closing_moved closing_leaves KeepsClosing

-- the piece that ends at the mark is closed, and `place` is the bound's new place. Nothing is required if the mark's
-- place is before that piece or past the column's end
abbrev pub ClosesAt : Closing → Mark → ℕ → Closing → Type 0
ClosesAt v m place w = v.from ≤ m.position → m.position ≤ length v.column.handles → Closes v m.position place w

-- from `p` to `q` all pieces were closed over the doomed rows: the rows before the place `live` aren't doomed, the
-- others are, and the marks divide the rows before it. The bounds are the same; only column, index and the count of
-- pulled rows change. That count grows by at most the number of doomed rows for each piece
pub record ClosesPieces (p q : Inside) (live : ℕ) : Type 0 where
  pub same : q ≡ record p { column = q.column; index = q.index; tally = record p.tally { pulled = q.tally.pulled } }
  pub within : live ≤ length q.column.handles
  pub stay : All (λ h. is_among p.pending_out.handles h ≡ false) (take live q.column.handles)
  pub leave : All (λ h. is_among p.pending_out.handles h ≡ true) (drop live q.column.handles)
  pub permuted : IsPermutation p.column.handles q.column.handles
  pub obeyed : IsObeyed q.index.marks (map (key_at p.arena.cells) (take live q.column.handles))
  pub rising : Rising q.index.marks
  pub bounds : bounds_of q.index.marks ≡ bounds_of p.index.marks
  pub keeps : KeepsRows p.column q.column
  pub rises : p.tally.pulled ≤ q.tally.pulled
  pub few : q.tally.pulled ≤ p.tally.pulled + (length p.index.marks + 1) * (length q.column.handles - live)
  pub small : q.tally.pulled ≤ greatest
