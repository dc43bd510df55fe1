use Rattle.std.proofs.Common.{◌≡◌, ◌<◌, length, take, get_or, sym, ap, ◌∙◌, arith}
use Rattle.std.proofs.lemmas.Int.{ints, to_z-of_z}
use Rattle.std.proofs.lemmas.List.{take_all}
use Rattle.std.proofs.lemmas.List.Sums.{fold_more}
use Rattle.crack_arena.specs.Rows.{amount_at}
use Rattle.crack_column.specs.Places.{tag_handle}
use Rattle.crack_column.specs.Inside.{no_tag}
use Rattle.crack_column.specs.Labels.{tags_of}
use Rattle.crack_column.proofs.LabelLaws.{length-tags_of, tag_read}
use Rattle.crack_column.proofs.tag.sum_read.Goals as goal

pub tags-preserved : goal.tags-preserved
tags-preserved c =
    let ls = c.args.labels.now in
    let ps = c.args.payloads.now in
    let ts = tags_of ls ps in
    let i = c.tags.i in
    let is = c.with_payload.ensures ∙ sym (tag_read ls ps i c.index-labels-i.result c.requires.beside (omega arith) c.index-labels-i.is) in
    let inside : i < length ts = omega (arith, length-tags_of ls ps c.requires.beside) in
    let value : c.amount-sum.result ≡ amount_at c.args.arena.now.cells (tag_handle (get_or ts i no_tag)) = c.amount-sum.ensures.value ∙ ap (λ t. amount_at c.args.arena.now.cells (tag_handle t)) is in
    (grind (arith, ints, to_z-of_z, fold_more, value, inside), omega (arith, ints, c.amount-sum.ensures.least, c.tags.invariant), omega (arith, ints, c.amount-sum.ensures.most, c.tags.invariant))

pub amount-sum-requires : goal.amount-sum-requires
amount-sum-requires c =
    let ls = c.args.labels.now in
    let ps = c.args.payloads.now in
    let is = c.with_payload.ensures ∙ sym (tag_read ls ps c.tags.i c.index-labels-i.result c.requires.beside (omega arith) c.index-labels-i.is) in
    rw is (c.requires.known c.tags.i no_tag (omega (arith, length-tags_of ls ps c.requires.beside)))

pub returns-clause-value : goal.returns-clause-value
returns-clause-value c =
    let all : take c.tags.i (tags_of c.args.labels.now c.args.payloads.now) ≡ tags_of c.args.labels.now c.args.payloads.now = take_all c.tags.i (tags_of c.args.labels.now c.args.payloads.now) (omega (arith, length-tags_of c.args.labels.now c.args.payloads.now c.requires.beside)) in
    rw all at c.tags.invariant.0
