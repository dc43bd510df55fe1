use Rattle.std.proofs.Common.{rules}
use Rattle.crack_row.proofs.command.Command.range.Goals as goal

pub returns-in-Count : goal.returns-in-Count
returns-in-Count c = search rules
