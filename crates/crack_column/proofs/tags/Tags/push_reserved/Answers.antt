use Rattle.std.proofs.Common.{◌<◌, length, refl, arith}
use Rattle.crack_column.proofs.LabelLaws.{length-tags_of, append-tags_of}
use Rattle.crack_column.proofs.tags.Tags.push_reserved.Goals as goal

pub push_reserved-requires : goal.push_reserved-requires
push_reserved-requires c =
    let room : length c.args.self.now.items < c.args.self.now.capacity = c.requires in
    omega (arith, rw (← c.self.view_is) at room, length-tags_of c.self.inside.labels.items c.self.inside.payloads.items c.self.invariant)

pub push_reserved-requires-2 : goal.push_reserved-requires-2
push_reserved-requires-2 c =
    let room : length c.args.self.now.items < c.args.self.now.capacity = c.requires in
    omega (arith, rw (← c.self.view_is) at room, length-tags_of c.self.inside.labels.items c.self.inside.payloads.items c.self.invariant, c.self.invariant)

pub returns : goal.returns
returns c = rw (← c.self.view_is, c.push_reserved.ensures.items, c.push_reserved-2.ensures.items, c.label.ensures, append-tags_of c.self.inside.labels.items _ c.self.inside.payloads.items _ c.self.invariant, c.push_reserved.ensures.capacity, c.push_reserved-2.ensures.capacity) refl
