use Rattle.std.proofs.Common.{rules}
use Rattle.crack_part.proofs.passes.Passes.due.Goals as goal

pub returns-then-is_some : goal.returns-then-is_some
returns-then-is_some c = search rules

pub returns-then-are_dear : goal.returns-then-are_dear
returns-then-are_dear c = search rules

pub returns-else-are_dear : goal.returns-else-are_dear
returns-else-are_dear c = search rules
