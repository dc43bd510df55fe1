-- How lists of handles, and of what is remembered of their rows, are stored: a label has a handle and the key that is
-- remembered of its row, and the payloads are in a second list.
use Rattle.std.specs.Prelude.{ℕ, List, [], ◌∷◌, map, slice_index_or, slice_set}
use Rattle.crack_row.specs.declared.Payload.{Payload}
use Rattle.crack_arena.specs.Arena.{Handle, no_handle, times}
use Rattle.crack_arena.specs.Rows.{unknown}
use Rattle.crack_arena.specs.Memories.{Memory, nothing}
use Rattle.crack_tags.specs.declared.label.Label.{Label}

-- a list of handles, what is remembered of the row of each, at the same place, and how many handles fit in the memory
-- that was taken, the list's handles included
pub record Tagged : Type 0 where
  pub handles : List Handle
  pub remembered : List Memory
  pub capacity : ℕ

-- the handle of a label
abbrev pub handle_in_label : Label → Handle
handle_in_label l = l.handle

-- the handles of labels
abbrev pub handles_of : List Label → List Handle
handles_of labels = map handle_in_label labels

-- what is remembered of a row by its label and its payload
abbrev pub memory_with : Label → Payload → Memory
memory_with l payload = record { key = l.key; payload = payload }

-- what is remembered of rows by their labels and their payloads, paired place by place, as far as there are both
abbrev pub memories_of : List Label → List Payload → List Memory
memories_of (l ∷ labels) (payload ∷ payloads) = memory_with l payload ∷ memories_of labels payloads
memories_of _ _ = []

-- the list after the handle at `spot`, and what is remembered of its row, were copied to the spot `low`, where they
-- replace those that were there; `spot` keeps them
abbrev pub moved_down : ℕ → ℕ → Tagged → Tagged
moved_down low spot t =
    record t {
      handles = slice_set t.handles low (slice_index_or t.handles spot no_handle);
      remembered = slice_set t.remembered low (slice_index_or t.remembered spot nothing);
    }

-- how many of these memories have the key `unknown`, so are of unknown rows
abbrev pub unknown_in : List Memory → ℕ
unknown_in remembered = times unknown (map (λ (m : Memory). m.key) remembered)
