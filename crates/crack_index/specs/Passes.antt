-- Passes over the bounds of an index, the lowest first, that find bounds whose two pieces, below and above the bound,
-- hold few rows together. A bound that is found is removed from the index before the pass goes on. `p` is the pass,
-- and `len` is the column's number of rows.
use Rattle.std.specs.Prelude.{ℕ, ◌-◌, ◌==◌, nat_le, Bool, cond, List, [], ◌∷◌, Option, Some, None}
use Rattle.crack_row.specs.declared.InnerBound.{InnerBound}
use Rattle.crack_index.specs.declared.mark.Mark.{Mark}
use Rattle.crack_index.specs.Marks.{last_mark, start_of}

-- the state of a pass: `after`, the bound that it met last, at first the key above which it began; `from`, the place
-- where the piece below the next bound begins; `rows`, the most rows that are few; `bounds`, how many more it may meet
pub record PassProgress : Type 0 where
  pub after : ℕ
  pub from : ℕ
  pub rows : ℕ
  pub bounds : ℕ

-- a pass over the bounds above `key` that has met none yet: at most `rows` rows are few, and it may meet at most
-- `bounds` bounds. The marks are all those of the index
abbrev pub pass_above : ℕ → ℕ → ℕ → List Mark → PassProgress
pass_above key rows bounds marks = record { after = key; from = start_of (last_mark key marks); rows = rows; bounds = bounds }

-- the place of the first mark, or `len`, the end of the column, if there is none
abbrev pub first_place : ℕ → List Mark → ℕ
first_place len [] = len
first_place len (m ∷ ms) = m.position

-- whether the two pieces of the bound that was met last hold few rows together: at most `p.rows` from `p.from`, where
-- the lower one begins, up to the first of the marks, which are above the bound; without marks, to the column's end
abbrev pub are_few : ℕ → PassProgress → List Mark → Bool
are_few len p ms = nat_le (first_place len ms - p.from) p.rows

-- the pass after it met the mark's bound: `after` is this bound, and it may meet one bound fewer. `from` is unchanged:
-- `moved_past` sets it, unless the bound is found
abbrev pub met : Mark → PassProgress → PassProgress
met m p = record p { after = m.bound.0; bounds = p.bounds - 1 }

-- the pass when the mark's bound, which it met last, isn't found: the piece below the next bound begins at the mark
abbrev pub moved_past : Mark → PassProgress → PassProgress
moved_past m p = record p { from = m.position }

-- the next bound that the pass finds, and the pass then. The pass skips the marks that it met before, and meets the
-- others in turn. It finds the first one whose two pieces hold few rows together (`are_few`), or `None` if no mark is
-- left or if it may meet no more
abbrev pub next_few : ℕ → PassProgress → List Mark → Option InnerBound × PassProgress
next_few len p [] = (None, p)
next_few len p (m ∷ ms) = cond (nat_le m.bound.0 p.after) (next_few len p ms) (cond (p.bounds == 0) (None, p) (cond (are_few len (met m p) ms) (Some m.bound, met m p) (next_few len (moved_past m (met m p)) ms)))

-- if the pass may meet no more bounds, the number up to which it met them, `after`; otherwise `None`
abbrev pub stopped_at : PassProgress → Option ℕ
stopped_at p = cond (p.bounds == 0) (Some p.after) None
