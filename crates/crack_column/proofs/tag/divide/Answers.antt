use Rattle.std.proofs.Common.{◌≡◌, ◌<◌, ◌+◌, length, arith, refl, get_or, inl, inr, add-zero}
use Rattle.std.proofs.lemmas.Bool.{cases_lt, lt-ltb, le-ltb}
use Rattle.crack_column.specs.Inside.{no_tag}
use Rattle.crack_column.specs.Labels.{tag_of, tags_of}
use Rattle.crack_column.proofs.LabelLaws.{length-tags_of, same_read, tag_read}
use Rattle.crack_column.proofs.Passes.{IsPartway, IsPartway-start, IsPartway-step, permuted_all, divided_all}
use Rattle.crack_column.proofs.tag.divide.Goals as goal

pub tags-init : goal.tags-init
tags-init c =
    let ls = c.args.labels.now in
    let ps = c.args.payloads.now in
    IsPartway-start c.args.bound (tags_of ls ps) (tag_of c.index-labels-0.result (get_or ps 0 no_tag.payload)) (tag_read ls ps 0 c.index-labels-0.result c.requires.beside (omega arith) c.index-labels-0.is)

pub shift-requires-clause-order : goal.shift-requires-clause-order
shift-requires-clause-order c = c.tags.invariant.split.within

pub tags-preserved : goal.tags-preserved
tags-preserved c =
    let ls = c.tags.labels in
    let ps = c.tags.payloads in
    let gap = c.tags.gap in
    let low = c.tags.low in
    let beside : length ps ≡ length ls = omega (arith, c.requires.beside) in
    let label = c.index-labels-gap-in-tags.result in
    let next = tag_of label (get_or ps (gap + 1) no_tag.payload) in
    let there : gap + 1 < length ls = omega arith in
    let inside : gap + 1 < length (tags_of ls ps) = omega (arith, there, length-tags_of ls ps beside) in
    let is = tag_read ls ps (gap + 1) label beside there c.index-labels-gap-in-tags.is in
    let same = same_read ls (gap + 1) c.index-labels-gap.result label there c.index-labels-gap-in-tags.is in
    let was = tags_of c.args.labels.now c.args.payloads.now in
    let first = tag_of c.index-labels-0.result (get_or c.args.payloads.now 0 no_tag.payload) in
    elim (cases_lt next.key c.args.bound) [
      | inl l ↦ rw (c.shift.ensures, same, lt-ltb next.key c.args.bound l) (IsPartway-step c.args.bound was (tags_of ls ps) first next low gap (low + 1) inside is (inl (l, refl)) c.tags.invariant)
      | inr l ↦ rw (c.shift.ensures, same, le-ltb next.key c.args.bound l, add-zero) (IsPartway-step c.args.bound was (tags_of ls ps) first next low gap low inside is (inr (l, refl)) c.tags.invariant)
    ]

pub shift-requires-2-clause-order : goal.shift-requires-2-clause-order
shift-requires-2-clause-order c = omega (arith, c.tags.invariant.split.within)

pub returns-clause-kept : goal.returns-clause-kept
returns-clause-kept c =
    let ls = c.tags.labels in
    let ps = c.tags.payloads in
    let beside : length ps ≡ length ls = omega (arith, c.requires.beside) in
    let was = tags_of c.args.labels.now c.args.payloads.now in
    let first = tag_of c.index-labels-0.result (get_or c.args.payloads.now 0 no_tag.payload) in
    let is_last : c.tags.gap ≡ c.in-Some.last = omega arith in
    rw c.shift-2.ensures (permuted_all c.args.bound was (tags_of ls ps) first c.tags.low c.in-Some.last (omega (arith, length-tags_of ls ps beside)) (rw is_last at c.tags.invariant))

pub returns-clause-divided : goal.returns-clause-divided
returns-clause-divided c =
    let ls = c.tags.labels in
    let ps = c.tags.payloads in
    let beside : length ps ≡ length ls = omega (arith, c.requires.beside) in
    let was = tags_of c.args.labels.now c.args.payloads.now in
    let first = tag_of c.index-labels-0.result (get_or c.args.payloads.now 0 no_tag.payload) in
    let is_last : c.tags.gap ≡ c.in-Some.last = omega arith in
    let end : c.in-Some.last + 1 ≡ length (tags_of ls ps) = omega (arith, length-tags_of ls ps beside) in
    let so_far : IsPartway c.args.bound was (tags_of ls ps) first c.tags.low c.in-Some.last = rw is_last at c.tags.invariant in
    elim (cases_lt first.key c.args.bound) [
      | inl l ↦ rw (c.shift-2.ensures, lt-ltb first.key c.args.bound l) (divided_all c.args.bound was (tags_of ls ps) first c.tags.low c.in-Some.last (c.tags.low + 1) end (inl (l, refl)) so_far)
      | inr l ↦ rw (c.shift-2.ensures, le-ltb first.key c.args.bound l, add-zero) (divided_all c.args.bound was (tags_of ls ps) first c.tags.low c.in-Some.last c.tags.low end (inr (l, refl)) so_far)
    ]
