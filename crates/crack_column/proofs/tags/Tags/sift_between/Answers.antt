use Rattle.std.proofs.Common.{◌≤◌, length, arith}
use Rattle.std.proofs.lemmas.List.Edits.{length-between}
use Rattle.crack_column.proofs.LabelLaws.{length-tags_of}
use Rattle.crack_column.proofs.SiftLaws.{SiftsTags-parts}
use Rattle.crack_column.proofs.tags.Tags.sift_between.Goals as goal

pub offset_bounds-deref_mut-start : goal.offset_bounds-deref_mut-start
offset_bounds-deref_mut-start c =
    let within : c.args.to ≤ length c.args.self.now.items = c.requires.within in
    omega (arith, rw (← c.self.view_is) at within, length-tags_of c.self.inside.labels.items c.self.inside.payloads.items c.self.invariant, c.self.invariant, c.requires.order, c.requires.behind)

pub slice_bounds-sift-end : goal.slice_bounds-sift-end
slice_bounds-sift-end c =
    let within : c.args.to ≤ length c.args.self.now.items = c.requires.within in
    omega (arith, rw (← c.self.view_is) at within, length-tags_of c.self.inside.labels.items c.self.inside.payloads.items c.self.invariant, c.self.invariant, c.requires.order, c.requires.behind)

pub offset_bounds-deref_mut-start-2 : goal.offset_bounds-deref_mut-start-2
offset_bounds-deref_mut-start-2 c =
    let within : c.args.to ≤ length c.args.self.now.items = c.requires.within in
    omega (arith, rw (← c.self.view_is) at within, length-tags_of c.self.inside.labels.items c.self.inside.payloads.items c.self.invariant, c.self.invariant, c.requires.order, c.requires.behind)

pub slice_bounds-sift-end-2 : goal.slice_bounds-sift-end-2
slice_bounds-sift-end-2 c =
    let within : c.args.to ≤ length c.args.self.now.items = c.requires.within in
    omega (arith, rw (← c.self.view_is) at within, length-tags_of c.self.inside.labels.items c.self.inside.payloads.items c.self.invariant, c.self.invariant, c.requires.order, c.requires.behind)

pub returns-clause-sifts : goal.returns-clause-sifts
returns-clause-sifts c =
    let ls = c.self.inside.labels.items in
    let ps = c.self.inside.payloads.items in
    let within : c.args.to ≤ length c.args.self.now.items = c.requires.within in
    let end : c.args.to ≤ length ls = omega (arith, rw (← c.self.view_is) at within, length-tags_of ls ps c.self.invariant) in
    rw (← c.self.view_is, c.deref_mut.ensures.value, c.deref_mut-2.ensures.value) (SiftsTags-parts c.args.bound c.args.start c.args.from c.args.to ls c.sift.new.labels ps c.sift.new.payloads _ _ c.sift.result.0 c.sift.result.1 c.requires.order c.requires.behind end c.self.invariant (omega arith) (omega arith) (omega (arith, c.sift.auto.labels, c.deref_mut.ensures.len, end, length-between ls c.args.start c.args.to end)) (omega (arith, c.sift.auto.payloads, c.deref_mut-2.ensures.len, end, c.self.invariant)) (rw (c.deref_mut.ensures.value, c.deref_mut-2.ensures.value) at c.sift.ensures.tags) (rw (c.deref_mut.ensures.value, c.deref_mut-2.ensures.value) at c.sift.ensures.below) (rw (c.deref_mut.ensures.value, c.deref_mut-2.ensures.value) at c.sift.ensures.moved))
