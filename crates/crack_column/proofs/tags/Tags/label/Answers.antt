use Rattle.std.proofs.Common.{◌<◌, length, ◌∙◌, arith}
use Rattle.std.proofs.lemmas.List.{get_or_default}
use Rattle.crack_column.proofs.LabelLaws.{no_label, length-tags_of, get_or-tags_of}
use Rattle.crack_column.proofs.tags.Tags.label.Goals as goal

pub index-requires : goal.index-requires
index-requires c =
    let there : c.args.place < length c.args.self.now.items = c.requires in
    omega (arith, rw (← c.self.view_is) at there, length-tags_of c.self.inside.labels.items c.self.inside.payloads.items c.self.invariant)

pub returns : goal.returns
returns c =
    let ls = c.self.inside.labels.items in
    let ps = c.self.inside.payloads.items in
    let place = c.args.place in
    let there : place < length c.args.self.now.items = c.requires in
    let inside : place < length ls = omega (arith, rw (← c.self.view_is) at there, length-tags_of ls ps c.self.invariant) in
    rw (← c.self.view_is, get_or-tags_of ls ps place c.self.invariant) (c.index.ensures ∙ get_or_default ls place c.index.result.now no_label inside)
