-- How a column is stored that holds its row aside in hand: that row's tag is in a field of its own.
use Rattle.std.specs.Prelude.{ℕ, List, slice_set}
use Rattle.crack_column.specs.declared.tag.Tag.{Tag}

-- the tags after the tag in hand replaced the one at the place `len`, the first after the column's places
abbrev pub tags_with : List Tag → ℕ → Tag → List Tag
tags_with tags len hand = slice_set tags len hand
