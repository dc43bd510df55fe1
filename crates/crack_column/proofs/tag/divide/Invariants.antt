use Rattle.crack_column.specs.Labels.{tag_of, tags_of}
use Rattle.crack_column.proofs.Passes.{IsPartway}
use Rattle.crack_column.proofs.tag.divide.Given as goal

abbrev pub invariant-tags : goal.invariant-tags
invariant-tags l = IsPartway l.bound (tags_of l.initial.labels l.initial.payloads) (tags_of l.labels l.payloads) (tag_of l.first l.first_payload) l.low l.gap
