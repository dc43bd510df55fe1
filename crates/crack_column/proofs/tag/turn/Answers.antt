use Rattle.std.proofs.Common.{set, length-set, arith}
use Rattle.crack_column.proofs.LabelLaws.{label_read, turned-tags_of}
use Rattle.crack_column.proofs.tag.turn.Goals as goal

pub returns : goal.returns
returns c =
    let ls = c.args.labels.now in
    let upper = label_read ls c.args.upper c.index-labels-upper.result (omega (arith, c.requires.order, c.requires.within)) c.index-labels-upper.is in
    let place = label_read (set ls c.args.gap c.index-labels-upper.result) c.args.place c.index-labels-place.result (omega (arith, c.requires.low, c.requires.order, c.requires.within, length-set ls c.args.gap c.index-labels-upper.result)) c.index-labels-place.is in
    rw (place, upper) (turned-tags_of ls c.args.payloads.now c.args.gap c.args.upper c.args.place c.args.label c.args.payload c.requires.beside)
