use Rattle.std.proofs.Common.{arith}
use Rattle.crack_column.proofs.LabelLaws.{length-tags_of}
use Rattle.crack_column.proofs.tags.Tags.len.Goals as goal

pub returns-clause-value : goal.returns-clause-value
returns-clause-value c = rw (← c.self.view_is) (omega (arith, length-tags_of c.self.inside.labels.items c.self.inside.payloads.items c.self.invariant))

pub returns-clause-room : goal.returns-clause-room
returns-clause-room c = rw (← c.self.view_is) (omega (arith, length-tags_of c.self.inside.labels.items c.self.inside.payloads.items c.self.invariant, c.self.invariant))
