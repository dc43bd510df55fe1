-- A piece after pulls of doomed rows. A doomed row has a pending deletion, and its pull takes it out of the column. If
-- it is in a lower piece, that leaves a gap before this one, and this one's last row moves there. If it is in this
-- piece, the piece's last row takes its place.
use Rattle.std.specs.Prelude.{◌≡◌, ℕ, ◌+◌, ◌-◌, Bool, true, cond, nat_lt, Option, Some, None, List, [], ◌∷◌, ◌++◌, length, take, drop, slice_index_or, slice_set}
use Rattle.std.specs.List.{between, position_or_len}
use Rattle.crack_arena.specs.Arena.{Handle, no_handle, same_handle}
use Rattle.crack_row.specs.declared.InnerBound.{InnerBound}
use Rattle.crack_column.specs.declared.draining.Doomed.{Doomed}
use Rattle.crack_column.specs.Column.{Column}
use Rattle.crack_column.specs.Sifts.{one_if_some}

-- the list after its last element moved to the front
abbrev pub turned_back : {X : Type 0} → List X → List X
turned_back rows = drop (length rows - 1) rows ++ take (length rows - 1) rows

-- the first place of a handle in a list, or the list's length if it isn't there
abbrev pub place_of : Handle → List Handle → ℕ
place_of handle rows = position_or_len (λ h. same_handle h handle) rows

-- the list without this handle: the last handle takes its place; if the handle isn't there, the last one is removed
abbrev pub without : Handle → List Handle → List Handle
without handle rows = take (length rows - 1) (slice_set rows (place_of handle rows) (slice_index_or rows (length rows - 1) no_handle))

-- 1 if the handle is in the list at another place than the last, otherwise 0
abbrev pub one_unless_last : Handle → List Handle → ℕ
one_unless_last handle rows = cond (nat_lt (place_of handle rows + 1) (length rows)) 1 0

-- `key` and `handle` give the key and the handle of a doomed row. `low` is the low bound of a piece, `own` says of a
-- doomed row whether its key is below the piece's high bound, and `rows` are the handles of the piece's rows, in order
module _ {D : Type 0} (key : D → ℕ) (handle : D → Handle) where
  -- the piece after the pull of one doomed row `d`. If the key of `d` is below `low`, the piece's last row moves to
  -- the front. Otherwise, if `own d` is true, `d` is removed, as in `without`; if it is false, nothing changes
  abbrev pub drained_once : ℕ → (D → Bool) → D → List Handle → List Handle
  drained_once low own d rows = cond (nat_lt (key d) low) (turned_back rows) (cond (own d) (without (handle d) rows) rows)

  -- the piece after the pulls of these doomed rows, in order, each as in `drained_once`
  abbrev pub drained : ℕ → (D → Bool) → List D → List Handle → List Handle
  drained low own [] rows = rows
  drained low own (d ∷ ds) rows = drained low own ds (drained_once low own d rows)

  -- how many rows of the piece move in the pull of one doomed row `d`, not counting `d`. If its key is below `low`: 1,
  -- or 0 if the piece is empty. Otherwise: 1 if `own d` is true and `d` is in the piece, but not last; else 0
  abbrev pub drawn_once : ℕ → (D → Bool) → D → List Handle → ℕ
  drawn_once low own d rows = cond (nat_lt (key d) low) (one_if_some rows) (cond (own d) (one_unless_last (handle d) rows) 0)

  -- how often rows of the piece move in the pulls of these doomed rows, in order, each as in `drawn_once`
  abbrev pub drawn : ℕ → (D → Bool) → List D → List Handle → ℕ
  drawn low own [] rows = 0
  drawn low own (d ∷ ds) rows = drawn_once low own d rows + drawn low own ds (drained_once low own d rows)

-- whether a key is below a bound; true if there is no bound
abbrev pub is_under : Option InnerBound → ℕ → Bool
is_under None key = true
is_under (Some bound) key = nat_lt key bound.0

-- the number of these doomed rows with keys below a bound
abbrev pub doomed_below : ℕ → List Doomed → ℕ
doomed_below bound [] = 0
doomed_below bound (d ∷ ds) = cond (nat_lt d.key bound) 1 0 + doomed_below bound ds

-- the key of a doomed row
abbrev pub doomed_key : Doomed → ℕ
doomed_key d = d.key

-- the handle of a doomed row
abbrev pub doomed_handle : Doomed → Handle
doomed_handle d = d.handle

-- the handles that are left of a piece after the pulls of the doomed rows `ds`, in order; `low` and `high` are the
-- piece's bounds (no `high` for the last piece), and `rows` its handles before
abbrev pub left_drained : ℕ → Option InnerBound → List Doomed → List Handle → List Handle
left_drained low high ds rows = drained doomed_key doomed_handle low (λ d. is_under high d.key) ds rows

-- the pulls of the doomed rows `ds` changed a piece of the column `old`, which is then `new`. The piece has the bounds
-- `low` and `high` (none for the last piece), and was at `from..to`. What is left of it is at `start..end`, and its
-- rows moved `pulled` times. The handles before `start` and from `to` on are unchanged; those at `end..to` may be any
pub record Drains (low : ℕ) (high : Option InnerBound) (ds : List Doomed) (start from to : ℕ) (old new : Column) (end pulled : ℕ) : Type 0 where
  pub front : take start new.handles ≡ take start old.handles
  pub piece : between start end new.handles ≡ left_drained low high ds (between from to old.handles)
  pub behind : drop to new.handles ≡ drop to old.handles
  pub end_is : end ≡ start + length (left_drained low high ds (between from to old.handles))
  pub pulled_is : pulled ≡ drawn doomed_key doomed_handle low (λ d. is_under high d.key) ds (between from to old.handles)
