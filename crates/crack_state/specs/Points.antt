-- What commands on one row do to a store. The map (of serials) leads to the row, which is removed, or replaced by
-- another with the same serial. The room is that for more handles in the column and the pending insertions.
use Rattle.std.specs.Prelude.{◌≡◌, ℕ, ◌+◌, ◌<◌, Bool, true, false, nat_lt, if◌then◌else◌, drop, length, List, [], ◌∷◌, ◌++◌, Option, Some, None, IsSome, slice_set}
use Rattle.std.specs.List.{remove}
use Rattle.std.specs.Option.{option_map, option_and_then, unwrap_or}
use Rattle.crack_row.specs.Ranges.{IsIn}
use Rattle.crack_row.specs.declared.Row.{Row}
use Rattle.crack_arena.specs.declared.TheConstants.{MOST_CELLS, MOST_FREED}
use Rattle.crack_arena.specs.Arena.{Handle, no_handle, read, cells_with, times, slots, place_in}
use Rattle.crack_serials.specs.Serials.{handle_of, Maps}
use Rattle.crack_state.specs.State.{State, freed_of}
use Rattle.crack_state.specs.Steps.{next_handle, SameButRoom}

-- the row with this serial that isn't doomed, read through the handle to which the map leads; `None` if there is none
abbrev pub row_by : State → ℕ → Option Row
row_by s serial = option_and_then (read s.cells) (handle_of s.serials serial)

-- `Some true` if this serial's row is a pending insertion, `Some false` if it is in the column, `None` without a row
abbrev pub pending_by : State → ℕ → Option Bool
pending_by s serial = option_map (λ (h : Handle). nat_lt 0 (times h.slot (slots s.pending_in))) (handle_of s.serials serial)

-- the handle to which the map leads from the serial, or the default handle `no_handle` if the map has no such serial
abbrev pub handle_by : State → ℕ → Handle
handle_by s serial = unwrap_or (handle_of s.serials serial) no_handle

-- one more cell may be freed, now or later: frees done and pending deletions together are fewer than `MOST_FREED`
abbrev pub MayFree : State → Type 0
MayFree s = freed_of s.cells + length s.pending_out < MOST_FREED

-- the store after the pending insertion with this handle was removed, and its cell freed; the map is unchanged
abbrev pub struck : Handle → State → State
struck h s =
    record s {
      cells = slice_set s.cells h.slot (record { generation = h.generation + 1; value = None });
      free = h.slot ∷ s.free;
      pending_in = remove s.pending_in (place_in s.pending_in h.slot);
    }

-- the store after this handle, which is in the column, was appended to the pending deletions; the map is unchanged
abbrev pub doomed_too : Handle → State → State
doomed_too h s = record s { pending_out = s.pending_out ++ h ∷ [] }

-- the store after the row in the handle's cell was replaced by this one
abbrev pub overwritten : Row → Handle → State → State
overwritten row h s = record s { cells = slice_set s.cells h.slot (record { generation = h.generation; value = Some row }) }

-- the store after this handle, which is in the column, was appended to the pending deletions, and this row, in the
-- first free cell or a new one, to the pending insertions; the map is unchanged
abbrev pub renewed : Row → Handle → State → State
renewed row h s =
    record s {
      cells = cells_with row s.cells s.free;
      free = drop 1 s.free;
      pending_in = s.pending_in ++ next_handle s ∷ [];
      pending_out = s.pending_out ++ h ∷ [];
    }

-- cancel: from `s` to `t` the pending insertion with this serial is removed, its cell is freed, and the map loses the
-- serial; otherwise only the room may change
pub record Cancels (serial : ℕ) (s t : State) : Type 0 where
  pub after : SameButRoom (record (struck (handle_by s serial) s) { serials = t.serials }) t
  pub map : Maps serial None s.serials t.serials

-- doom: from `s` to `t` the column's row with this serial becomes a pending deletion, and the map loses the serial;
-- otherwise only the room may change
pub record Dooms (serial : ℕ) (s t : State) : Type 0 where
  pub after : SameButRoom (record (doomed_too (handle_by s serial) s) { serials = t.serials }) t
  pub map : Maps serial None s.serials t.serials

-- remove: from the first store to the second this serial's row is removed. The option is its `pending_by`: a pending
-- insertion (`Some true`) is cancelled, a row of the column (`Some false`) doomed; for `None` nothing changes
abbrev pub Removes : Option Bool → ℕ → State → State → Type 0
Removes None serial s t = t ≡ s
Removes (Some true) serial s t = Cancels serial s t
Removes (Some false) serial s t = Dooms serial s t

-- renew: from `s` to `t` the column's row with the serial of `row` becomes a pending deletion, `row` becomes the last
-- pending insertion, in another cell, and the map leads from the serial to it; otherwise only the room may change
pub record Renews (row : Row) (s t : State) : Type 0 where
  pub after : SameButRoom (record (renewed row (handle_by s row.serial.0) s) { serials = t.serials }) t
  pub map : Maps row.serial.0 (Some (next_handle s)) s.serials t.serials

-- rewrite: from the first store to the second this row replaces the one with its serial. The option is `pending_by` of
-- the serial: a pending insertion (`Some true`) is overwritten in its cell, a row of the column (`Some false`) is
-- replaced as in `Renews`, and without a row (`None`) nothing changes
abbrev pub Rewrites : Option Bool → Row → State → State → Type 0
Rewrites None row s t = t ≡ s
Rewrites (Some true) row s t = t ≡ overwritten row (handle_by s row.serial.0) s
Rewrites (Some false) row s t = Renews row s t

-- a row of the column may be renewed (`Renews`): a cell is free for the new row, or one more may be made, and one more
-- cell may be freed later (`MayFree`)
pub record IsRenewable (s : State) : Type 0 where
  pub cell : length s.cells < MOST_CELLS + length s.free
  pub few : MayFree s

-- the store's row with the serial of `row` may be replaced by `row`: there is such a row, the key of `row` is one of
-- the partition's, and if the store's row is in the column, it may be renewed (`IsRenewable`)
pub record IsRewritable (row : Row) (s : State) : Type 0 where
  pub there : IsSome (handle_of s.serials row.serial.0)
  pub within : IsIn s.keys row.key.0
  pub anew : pending_by s row.serial.0 ≡ Some false → IsRenewable s
