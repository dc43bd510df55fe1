use Rattle.std.proofs.Common.{rules}
use Rattle.crack_row.proofs.command.Command.key.Goals as goal

pub returns-in-Some-Place : goal.returns-in-Some-Place
returns-in-Some-Place c = search rules

pub returns-in-Some-Remove : goal.returns-in-Some-Remove
returns-in-Some-Remove c = search rules
