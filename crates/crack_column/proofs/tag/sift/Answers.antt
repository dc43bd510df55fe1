use mir.Val.{bool_byte}
use Rattle.std.proofs.Common.{◌≡◌, ◌<◌, ◌≤◌, ◌+◌, inl, inr, length, arith, refl, sym, get_or, nat_lt}
use Rattle.std.proofs.lemmas.Bool.{cases_lt, lt-ltb, le-ltb}
use Rattle.crack_column.specs.Inside.{no_tag}
use Rattle.crack_column.specs.Labels.{tag_of, tags_of}
use Rattle.crack_column.proofs.LabelLaws.{length-tags_of, same_read, tag_at}
use Rattle.crack_column.proofs.Sifting.{IsSifting-start, IsSifting-above, IsSifting-below, IsSifted-all}
use Rattle.crack_column.proofs.tag.sift.Goals.{then-labels-gap, else-labels-gap}
use Rattle.crack_column.proofs.tag.sift.Goals as goal

pub tags-init : goal.tags-init
tags-init c =
    let ls = c.args.labels.now in
    let ps = c.args.payloads.now in
    IsSifting-start c.args.bound (tags_of ls ps) c.args.from (omega (arith, c.requires.within, length-tags_of ls ps c.requires.beside))

pub overflow_add-moved : goal.overflow_add-moved
overflow_add-moved c =
    let low = c.tags.low in
    let gap = c.tags.gap in
    let so_far = c.tags.invariant in
    let order : low ≤ gap = omega (arith, so_far.low_is, so_far.gap_is) in
    let small : c.tags.moved + bool_byte (nat_lt low gap) ≤ gap = elim (cases_lt low gap) [
      | inl l ↦ rw (lt-ltb low gap l) (omega (arith, so_far.few, l))
      | inr l ↦ rw (le-ltb low gap l) (omega (arith, so_far.few, order))
    ] in
    record { fits = omega (arith, small, c.tags-test.true, c.tags.auto.gap, c.tags.auto.gap-end) }

pub tags-preserved : goal.tags-preserved
tags-preserved c =
    let was = tags_of c.args.labels.now c.args.payloads.now in
    let ls = c.tags.labels in
    let ps = c.tags.payloads in
    let gap = c.tags.gap in
    let low = c.tags.low in
    let beside : length ps ≡ length ls = omega (arith, c.requires.beside) in
    let label = get_or ls gap c.index-labels-gap.result in
    let next = tag_of label (get_or ps gap no_tag.payload) in
    let there : gap < length ls = omega (arith, c.tags-test.true) in
    let is = tag_at ls ps gap c.index-labels-gap.result beside there in
    let inside : gap < length was = omega (arith, c.tags-test.true, length-tags_of c.args.labels.now c.args.payloads.now c.requires.beside) in
    elim c.if-labels-gap.branch [
      | then-labels-gap w ↦
          let same = sym (same_read ls gap c.index-labels-gap.result w.index-labels-gap-then-labels-gap.result there w.index-labels-gap-then-labels-gap.is) in
          rw (w.labels-is, w.payloads-is, w.low-is, w.moved-is) (rw (w.shift.ensures, same) (IsSifting-below c.args.bound was (tags_of ls ps) c.args.from gap low c.tags.moved next inside is c.tags.invariant (bool_byte (nat_lt low gap)) w.if-labels-gap.true (λ l. rw (lt-ltb low gap l) refl) (λ l. rw (le-ltb low gap l) refl)))
      | else-labels-gap w ↦ rw (w.labels-is, w.payloads-is, w.low-is, w.moved-is) (IsSifting-above c.args.bound was (tags_of ls ps) c.args.from gap low c.tags.moved next inside is c.tags.invariant w.if-labels-gap.false)
    ]

pub returns-clause-tags : goal.returns-clause-tags
returns-clause-tags c =
    let was = tags_of c.args.labels.now c.args.payloads.now in
    let done = IsSifted-all c.args.bound was (tags_of c.tags.labels c.tags.payloads) c.args.from c.tags.gap c.tags.low c.tags.moved (omega (arith, c.tags-test.false, length-tags_of c.args.labels.now c.args.payloads.now c.requires.beside)) c.tags.invariant in
    done.tags_are

pub returns-clause-below : goal.returns-clause-below
returns-clause-below c =
    let was = tags_of c.args.labels.now c.args.payloads.now in
    let done = IsSifted-all c.args.bound was (tags_of c.tags.labels c.tags.payloads) c.args.from c.tags.gap c.tags.low c.tags.moved (omega (arith, c.tags-test.false, length-tags_of c.args.labels.now c.args.payloads.now c.requires.beside)) c.tags.invariant in
    done.low_is

pub returns-clause-moved : goal.returns-clause-moved
returns-clause-moved c =
    let was = tags_of c.args.labels.now c.args.payloads.now in
    let done = IsSifted-all c.args.bound was (tags_of c.tags.labels c.tags.payloads) c.args.from c.tags.gap c.tags.low c.tags.moved (omega (arith, c.tags-test.false, length-tags_of c.args.labels.now c.args.payloads.now c.requires.beside)) c.tags.invariant in
    done.moved_is
