use Rattle.std.proofs.Common.{◌≡◌, ◌<◌, ◌+◌, length, arith, get_or, ltb}
use mir.Val.{bool_byte}
use Rattle.crack_column.specs.Inside.{no_tag}
use Rattle.crack_column.specs.Labels.{tag_of, tags_of}
use Rattle.crack_column.proofs.LabelLaws.{length-tags_of, same_read, tag_read}
use Rattle.crack_column.proofs.Thirds.{IsThirds, Belongs-is, Belongs-within, IsThirdway-start, IsThirdway-step, IsThirds-last}
use Rattle.crack_column.proofs.tag.divide_three.Goals as goal
use Rattle.crack_column.proofs.tag.divide_three.Goals.{After-payloads-2-1}

pub tags-init : goal.tags-init
tags-init c =
    let ls = c.args.labels.now in
    let ps = c.args.payloads.now in
    IsThirdway-start c.args.low c.args.high (tags_of ls ps) (tag_of c.index-labels-0.result (get_or ps 0 no_tag.payload)) (tag_read ls ps 0 c.index-labels-0.result c.requires.beside (omega arith) c.index-labels-0.is)

pub turn-requires-clause-low : goal.turn-requires-clause-low
turn-requires-clause-low c =
    let next = tag_of (get_or c.tags.labels (c.tags.gap + 1) c.index-labels-gap.result) (get_or c.tags.payloads (c.tags.gap + 1) no_tag.payload) in
    rw c.place_of-place.ensures (Belongs-within c.args.low c.args.high next c.tags.middle c.tags.upper _ _ _ c.tags.invariant.order (Belongs-is c.args.low c.args.high next c.tags.middle c.tags.upper))

pub turn-requires-clause-order : goal.turn-requires-clause-order
turn-requires-clause-order c = c.tags.invariant.higher.within

pub tags-preserved : goal.tags-preserved
tags-preserved c =
    let ls = c.tags.labels in
    let ps = c.tags.payloads in
    let gap = c.tags.gap in
    let beside : length ps ≡ length ls = omega (arith, c.requires.beside) in
    let label = c.index-labels-gap-in-tags.result in
    let next = tag_of label (get_or ps (gap + 1) no_tag.payload) in
    let there : gap + 1 < length ls = omega arith in
    let inside : gap + 1 < length (tags_of ls ps) = omega (arith, there, length-tags_of ls ps beside) in
    let is = tag_read ls ps (gap + 1) label beside there c.index-labels-gap-in-tags.is in
    let same = same_read ls (gap + 1) c.index-labels-gap.result label there c.index-labels-gap-in-tags.is in
    let was = tags_of c.args.labels.now c.args.payloads.now in
    let first = tag_of c.index-labels-0.result (get_or c.args.payloads.now 0 no_tag.payload) in
    rw (c.turn.ensures, c.place_of-place.ensures, same) (IsThirdway-step c.args.low c.args.high was (tags_of ls ps) first next c.tags.middle c.tags.upper gap _ _ _ c.requires.bounds inside is (Belongs-is c.args.low c.args.high next c.tags.middle c.tags.upper) c.tags.invariant)

pub turn-requires-2-clause-low : goal.turn-requires-2-clause-low
turn-requires-2-clause-low c =
    let first = tag_of c.index-labels-0.result (get_or c.args.payloads.now 0 no_tag.payload) in
    rw c.place_of-place-2.ensures (Belongs-within c.args.low c.args.high first c.tags.middle c.tags.upper _ _ _ c.tags.invariant.order (Belongs-is c.args.low c.args.high first c.tags.middle c.tags.upper))

pub turn-requires-2-clause-order : goal.turn-requires-2-clause-order
turn-requires-2-clause-order c = omega (arith, c.tags.invariant.higher.within)

thirds : (c : After-payloads-2-1) → IsThirds c.args.low c.args.high (tags_of c.args.labels.now c.args.payloads.now) (tags_of c.turn-2.new.labels c.turn-2.new.payloads)
    (c.tags.middle + bool_byte (ltb c.index-labels-0.result.key c.args.low)) (c.tags.upper + bool_byte (ltb c.index-labels-0.result.key c.args.high))
thirds c =
    let ls = c.tags.labels in
    let ps = c.tags.payloads in
    let beside : length ps ≡ length ls = omega (arith, c.requires.beside) in
    let was = tags_of c.args.labels.now c.args.payloads.now in
    let first = tag_of c.index-labels-0.result (get_or c.args.payloads.now 0 no_tag.payload) in
    let is_last : c.tags.gap ≡ c.in-Some.last = omega arith in
    rw (c.turn-2.ensures, c.place_of-place-2.ensures) (IsThirds-last c.args.low c.args.high was (tags_of ls ps) first c.tags.middle c.tags.upper c.in-Some.last _ _ _ c.requires.bounds (omega (arith, length-tags_of ls ps beside)) (Belongs-is c.args.low c.args.high first c.tags.middle c.tags.upper) (rw is_last at c.tags.invariant))

pub returns-clause-kept : goal.returns-clause-kept
returns-clause-kept c = (thirds c).kept

pub returns-clause-low : goal.returns-clause-low
returns-clause-low c = (thirds c).lower

pub returns-clause-high : goal.returns-clause-high
returns-clause-high c = (thirds c).higher

pub returns-clause-order : goal.returns-clause-order
returns-clause-order c = (thirds c).order
