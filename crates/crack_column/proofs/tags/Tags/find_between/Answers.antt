use Rattle.std.proofs.Common.{◌≡◌, ◌≤◌, length, map, arith}
use Rattle.std.specs.List.{between}
use Rattle.std.proofs.lemmas.List.Edits.{length-between}
use Rattle.crack_column.specs.Places.{tag_handle}
use Rattle.crack_column.specs.Labels.{tags_of}
use Rattle.crack_column.specs.Inside.{label_handle}
use Rattle.crack_column.proofs.LabelLaws.{length-tags_of, between-tags_of, handles-tags_of}
use Rattle.crack_column.proofs.tags.Tags.find_between.Goals as goal

pub offset_bounds-deref-from : goal.offset_bounds-deref-from
offset_bounds-deref-from c =
    let within : c.args.to ≤ length c.args.self.now.items = c.requires.within in
    omega (arith, rw (← c.self.view_is) at within, length-tags_of c.self.inside.labels.items c.self.inside.payloads.items c.self.invariant, c.self.invariant, c.requires.order)

pub slice_bounds-find-end : goal.slice_bounds-find-end
slice_bounds-find-end c =
    let within : c.args.to ≤ length c.args.self.now.items = c.requires.within in
    omega (arith, rw (← c.self.view_is) at within, length-tags_of c.self.inside.labels.items c.self.inside.payloads.items c.self.invariant, c.self.invariant, c.requires.order)

pub returns : goal.returns
returns c =
    let ls = c.self.inside.labels.items in
    let ps = c.self.inside.payloads.items in
    let from = c.args.from in
    let to = c.args.to in
    let within : to ≤ length c.args.self.now.items = c.requires.within in
    let end : to ≤ length ls = omega (arith, rw (← c.self.view_is) at within, length-tags_of ls ps c.self.invariant) in
    let beside : length (between from to ps) ≡ length (between from to ls) = omega (arith, length-between ls from to end, length-between ps from to (omega (arith, end, c.self.invariant))) in
    let same : map tag_handle (between from to (tags_of ls ps)) ≡ map label_handle (between from to ls) =
    rw (← between-tags_of from to ls ps) (handles-tags_of (between from to ls) (between from to ps) beside) in
    let found = rw c.deref.ensures.value at c.find.ensures in
    rw (← c.self.view_is, same) found
