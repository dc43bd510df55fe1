use Rattle.crack_column.specs.Labels.{tags_of}
use Rattle.crack_column.proofs.Passes.{IsLearned}
use Rattle.crack_column.proofs.tag.learn.Given as goal

abbrev pub invariant-tags : goal.invariant-tags
invariant-tags l = IsLearned l.arena.cells (tags_of l.initial.labels l.initial.payloads) (tags_of l.labels l.payloads) l.learned l.i
