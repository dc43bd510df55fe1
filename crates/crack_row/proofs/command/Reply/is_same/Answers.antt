use Rattle.std.proofs.Common.{rules}
use Rattle.crack_row.proofs.command.Reply.is_same.Goals as goal

pub returns-in-Gone-Gone : goal.returns-in-Gone-Gone
returns-in-Gone-Gone c = search rules
