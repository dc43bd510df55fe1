use Rattle.std.proofs.Common.{rules}
use Rattle.crack_row.proofs.command.Command.change.Goals as goal

pub returns-in-Insert : goal.returns-in-Insert
returns-in-Insert c = search rules

pub returns-in-Delete : goal.returns-in-Delete
returns-in-Delete c = search rules

pub returns-in-Update : goal.returns-in-Update
returns-in-Update c = search rules
