-- What private clauses alone cite.
-- The invariants of a column's tags. A tag has a handle, and the key and payload that are remembered of its row.
use Rattle.std.specs.Prelude.{◌≡◌, ℕ, ◌+◌, ◌<◌, ◌≤◌, ◌^◌, List, length, map, take, [], ◌∷◌}
use Rattle.crack_arena.specs.Arena.{times}
use Rattle.crack_arena.specs.Rows.{unknown}
use Rattle.crack_column.specs.declared.tag.Tag.{Tag}

-- the key that a tag remembers, or `unknown` if its row is unknown
abbrev pub remembered_key : Tag → ℕ
remembered_key t = t.key

-- the number of tags whose rows are unknown
abbrev pub unread_in : List Tag → ℕ
unread_in tags = times unknown (map remembered_key tags)

-- of the stored tags `tags`, at most 2^32, the first `len` are the column's; `unread` of these have unknown rows
pub record IsSoundColumn (tags : List Tag) (len unread : ℕ) : Type 0 where
  pub within : len ≤ length tags
  pub few : length tags ≤ 2 ^ 32
  pub counted : unread_in (take len tags) ≡ unread

-- `tags` are the stored tags, at most 2^32; the first `len` are the column's, and there is at least one more. `hand`
-- is the tag in hand. Of the column's tags and `hand`, `unread` have unknown rows
pub record IsHeld (tags : List Tag) (len unread : ℕ) (hand : Tag) : Type 0 where
  pub some : len < length tags
  pub few : length tags ≤ 2 ^ 32
  pub counted : unread_in (take len tags) + times unknown (hand.key ∷ []) ≡ unread
