use Rattle.std.proofs.Common.{arith}
use Rattle.crack_arena.proofs.Times.{times-nil}
use Rattle.crack_arena.specs.Rows.{unknown}
use Rattle.crack_column.proofs.column.CrackerColumn.new.Goals as goal

pub invariant_of-result : goal.invariant_of-result
invariant_of-result c = rw c.new.ensures.items (record { within = omega arith; few = omega arith; counted = times-nil unknown })
