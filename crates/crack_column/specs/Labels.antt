-- How tags are stored: labels in one list, payloads in another.
use Rattle.std.specs.Prelude.{ℕ, List, [], ◌∷◌}
use Rattle.crack_row.specs.declared.Payload.{Payload}
use Rattle.crack_tags.specs.declared.label.Label.{Label}
use Rattle.crack_column.specs.declared.tag.Tag.{Tag}

-- the tag of this label and this payload
abbrev pub tag_of : Label → Payload → Tag
tag_of l payload = record { key = l.key; payload = payload; handle = l.handle }

-- the tags of labels and payloads, paired place by place, as far as there are both
abbrev pub tags_of : List Label → List Payload → List Tag
tags_of (l ∷ labels) (payload ∷ payloads) = tag_of l payload ∷ tags_of labels payloads
tags_of _ _ = []

-- a list of tags, and how many tags fit in the memory that was taken, these included
pub record TagVector : Type 0 where
  pub items : List Tag
  pub capacity : ℕ
