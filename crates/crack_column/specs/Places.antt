-- What a column's tags hold: handles, what is remembered about their rows, and what is aside.
use Rattle.std.specs.Prelude.{ℕ, ◌+◌, ◌-◌, ◌^◌, List, map, take, drop, min}
use Rattle.crack_arena.specs.Arena.{Handle}
use Rattle.crack_column.specs.declared.tag.Tag.{Tag}
use Rattle.crack_arena.specs.Memories.{Memory}
use Rattle.crack_column.specs.Column.{Aside}

-- what a tag remembers
abbrev pub memory_of : Tag → Memory
memory_of t = record { key = t.key; payload = t.payload }

-- the handle of a tag
abbrev pub tag_handle : Tag → Handle
tag_handle t = t.handle

-- the handles of a column with `len` places: those of the first `len` tags
abbrev pub handles_in : List Tag → ℕ → List Handle
handles_in tags len = map tag_handle (take len tags)

-- what a column with `len` places remembers of its rows: what the first `len` tags remember
abbrev pub remembered_in : List Tag → ℕ → List Memory
remembered_in tags len = map memory_of (take len tags)

-- the handle of a tag that is aside, and what is remembered about its row
abbrev pub aside_of : Tag → Aside
aside_of t = record { handle = tag_handle t; memory = memory_of t }

-- what is stored after the last place of a column with `len` places: all tags after the first `len`
abbrev pub aside_in : List Tag → ℕ → List Aside
aside_in tags len = map aside_of (drop len tags)

-- how many more handles fit without taking memory in a column of `len` places. `tags` is the number of tags stored,
-- and `capacity` how many fit in the memory that was taken; at most 2^32 tags are ever stored
abbrev pub room_after : ℕ → ℕ → ℕ → ℕ
room_after tags capacity len = tags - len + min (2 ^ 32 - tags) (capacity - tags)
