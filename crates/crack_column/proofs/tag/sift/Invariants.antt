use Rattle.crack_column.specs.Labels.{tags_of}
use Rattle.crack_column.proofs.Sifting.{IsSifting}
use Rattle.crack_column.proofs.tag.sift.Given as goal

abbrev pub invariant-tags : goal.invariant-tags
invariant-tags l = IsSifting l.bound (tags_of l.initial.labels l.initial.payloads) (tags_of l.labels l.payloads) l.from l.gap l.low l.moved
