-- What private clauses alone cite.
-- What cracks, sifts and drains do to tags. The tag at a place has a handle, and the key and payload that are
-- remembered of its row. The row is unknown if the tag's key is `unknown`.
use Rattle.std.specs.Prelude.{◌≡◌, ℕ, ◌+◌, ◌-◌, ◌≤◌, List, ◌∷◌, ◌++◌, length, map, take, drop, All, cond, nat_lt, Option, slice_index_or, slice_set}
use Rattle.std.specs.List.{between}
use Rattle.std.specs.List.Sorted.{IsPermutation}
use Rattle.crack_arena.specs.Arena.{Cell, Handle, no_handle}
use Rattle.crack_arena.specs.Rows.{no_payload, unknown}
use Rattle.crack_row.specs.declared.Row.{Row}
use Rattle.crack_tags.specs.declared.label.Label.{Label}
use Rattle.crack_column.specs.declared.tag.Tag.{Tag}
use Rattle.crack_arena.specs.Memories.{Memory, memory_at, Agrees}
use Rattle.crack_column.specs.Column.{IsDividedAt}
use Rattle.crack_column.specs.Places.{memory_of, tag_handle}
use Rattle.crack_column.specs.Keeps.{remembered_key, unread_in}
use Rattle.crack_column.specs.Sifts.{below_bound, queued, made_way}
use Rattle.crack_column.specs.Drains.{drained_once, drawn_once, is_under, doomed_key, doomed_handle}
use Rattle.crack_column.specs.declared.draining.Doomed.{Doomed}
use Rattle.crack_row.specs.declared.InnerBound.{InnerBound}

-- the tag's row is unknown, or the tag has the key and the payload of the row that its handle reads in these cells,
-- both 0 if the handle reads none
abbrev pub KnowsRow : List (Cell Row) → Tag → Type 0
KnowsRow cells t = Agrees cells (tag_handle t) (memory_of t)

-- the tag has the key and the payload of the row that its handle reads in these cells, both 0 if the handle reads none
abbrev pub Read : List (Cell Row) → Tag → Type 0
Read cells t = memory_of t ≡ memory_at cells (tag_handle t)

-- the tag of a handle, and of what is remembered about the handle's row
abbrev pub tag_for : Handle → Memory → Tag
tag_for h m = record { key = m.key; payload = m.payload; handle = h }

-- the tag without what it remembers: its row is unknown
abbrev pub forgotten : Tag → Tag
forgotten t = record t { key = unknown; payload = no_payload }

-- the default tag for places outside a list
abbrev pub no_tag : Tag
no_tag = record { key = 0; payload = no_payload; handle = no_handle }

-- the tags after this one replaced the tag at the place, or was appended if the place is the number of tags
abbrev pub tag_put_at : List Tag → ℕ → Tag → List Tag
tag_put_at ts place t = take place ts ++ t ∷ drop (place + 1) ts

-- the tags after the tag at the place `low` was copied to the place `gap`, and then `t` stored at `low`
abbrev pub shifted : List Tag → ℕ → ℕ → Tag → List Tag
shifted ts gap low t = slice_set (slice_set ts gap (slice_index_or ts low no_tag)) low t

-- the tags after that at `upper` was copied to `gap`, then that at `place` to `upper`, and `t` stored at `place`
abbrev pub turned : List Tag → ℕ → ℕ → ℕ → Tag → List Tag
turned ts gap upper place t =
    let filled = slice_set ts gap (slice_index_or ts upper no_tag) in
    slice_set (slice_set filled upper (slice_index_or filled place no_tag)) place t

-- a crack at `bound` turned `tags` into `tags'`. The unknown rows of the tags at `from..to` were read from `cells`,
-- and `learned` of them became known. These tags were reordered: those with keys below the bound come before `place`,
-- the others from it on. All other tags are unchanged
pub record TurnsTags (cells : List (Cell Row)) (bound from to : ℕ) (tags tags' : List Tag) (place learned : ℕ) : Type 0 where
  pub stretch : List Tag
  pub are : tags' ≡ take from tags ++ stretch ++ drop to tags
  pub kept : IsPermutation (map forgotten (between from to tags)) (map forgotten stretch)
  pub read : All (Read cells) stretch
  pub low : from ≤ place
  pub high : place ≤ to
  pub divided : IsDividedAt bound (map remembered_key stretch) (place - from)
  pub fewer : unread_in stretch + learned ≡ unread_in (between from to tags)

-- the label of a tag
abbrev pub label_of : Tag → Label
label_of t = record { key = t.key; handle = t.handle }

-- the handle of a label
abbrev pub label_handle : Label → Handle
label_handle l = l.handle

-- a sift turned `tags` into `tags'`: the tags at `from..to` were sifted through the piece at `start..from`, as in
-- Sifts.antt. The sifted tags with keys below the bound, `below` in number, come first, from `start` on. After them
-- comes the piece, as in `queued`; its tags moved `moved` times. All other tags are unchanged
pub record SiftsTags (bound start from to : ℕ) (tags tags' : List Tag) (below moved : ℕ) : Type 0 where
  pub are : tags' ≡ take start tags ++ (below_bound remembered_key bound (between from to tags) ++ queued remembered_key bound (between from to tags) (between start from tags)) ++ drop to tags
  pub below_is : below ≡ length (below_bound remembered_key bound (between from to tags))
  pub moved_is : moved ≡ made_way remembered_key bound (between from to tags) (between start from tags)

-- the pull of the doomed row `d` changed a piece with the bounds `low` and `high` (none for the last piece), as in
-- `drained_once`. The piece was at `start..end` of `handles`, and is at `start'..end'` of `handles'`; `pulled` of its
-- rows moved. It begins one place earlier if the key of `d` is below `low`, otherwise where it began
pub record DrainsOnce (low : ℕ) (high : Option InnerBound) (d : Doomed) (start end : ℕ) (handles handles' : List Handle) (start' end' pulled : ℕ) : Type 0 where
  pub piece : between start' end' handles' ≡ drained_once doomed_key doomed_handle low (λ e. is_under high e.key) d (between start end handles)
  pub turned : start' + cond (nat_lt d.key low) 1 0 ≡ start
  pub pulled_is : pulled ≡ drawn_once doomed_key doomed_handle low (λ e. is_under high e.key) d (between start end handles)
