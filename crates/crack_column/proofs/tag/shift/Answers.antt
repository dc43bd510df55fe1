use Rattle.std.proofs.Common.{arith}
use Rattle.crack_column.proofs.LabelLaws.{label_read, shifted-tags_of}
use Rattle.crack_column.proofs.tag.shift.Goals as goal

pub returns : goal.returns
returns c =
    rw (label_read c.args.labels.now c.args.low c.index-labels-low.result (omega (arith, c.requires.order, c.requires.within)) c.index-labels-low.is) (shifted-tags_of c.args.labels.now c.args.payloads.now c.args.gap c.args.low c.args.label c.args.payload c.requires.beside)
