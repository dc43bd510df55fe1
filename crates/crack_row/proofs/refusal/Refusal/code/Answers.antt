use Rattle.std.proofs.Common.{rules}
use Rattle.crack_row.proofs.refusal.Refusal.code.Goals as goal

pub returns-in-BadRange : goal.returns-in-BadRange
returns-in-BadRange c = search rules
