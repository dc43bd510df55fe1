use Rattle.std.proofs.Common.{List, ap, ◌∙◌, arith}
use Rattle.crack_column.specs.declared.tag.Tag.{Tag}
use Rattle.crack_column.specs.Labels.{TagVector}
use Rattle.crack_column.proofs.PlaceLaws.{set-is_put, push-is_put}
use Rattle.crack_column.proofs.tags.Tags.put.Goals as goal

-- the list after other tags took the place of its tags
abbrev with_tags : TagVector → List Tag → TagVector
with_tags v tags = record v { items = tags }

pub returns-then-place-len : goal.returns-then-place-len
returns-then-place-len c =
    c.set.ensures ∙ ap (with_tags c.args.self.now) (set-is_put c.args.self.now.items c.args.place c.args.tag (omega arith))

pub returns-else-place-len : goal.returns-else-place-len
returns-else-place-len c =
    c.push_reserved.ensures ∙ ap (with_tags c.args.self.now) (push-is_put c.args.self.now.items c.args.place c.args.tag (omega (arith, c.requires.within)))
