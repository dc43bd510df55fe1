use Rattle.std.proofs.Common.{◌<◌, length, refl, arith}
use Rattle.crack_column.specs.Inside.{label_of}
use Rattle.crack_column.proofs.LabelLaws.{length-tags_of, set-tags_of}
use Rattle.crack_column.proofs.tags.Tags.set.Goals as goal

pub index_mut-requires : goal.index_mut-requires
index_mut-requires c =
    let there : c.args.place < length c.args.self.now.items = c.requires in
    omega (arith, rw (← c.self.view_is) at there, length-tags_of c.self.inside.labels.items c.self.inside.payloads.items c.self.invariant)

pub index_mut-requires-2 : goal.index_mut-requires-2
index_mut-requires-2 c =
    let there : c.args.place < length c.args.self.now.items = c.requires in
    omega (arith, rw (← c.self.view_is) at there, length-tags_of c.self.inside.labels.items c.self.inside.payloads.items c.self.invariant, c.self.invariant)

pub returns : goal.returns
returns c =
    let ls = c.self.inside.labels.items in
    let ps = c.self.inside.payloads.items in
    rw (← c.self.view_is, ← set-tags_of ls ps c.args.place (label_of c.args.tag) c.args.tag.payload, c.label.ensures) refl
