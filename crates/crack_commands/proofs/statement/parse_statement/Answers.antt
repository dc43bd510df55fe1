use Rattle.std.proofs.Common.{sym, ◌∙◌}
use Rattle.crack_commands.proofs.Splitting.{said_first}
use Rattle.crack_commands.proofs.statement.parse_statement.Goals as goal

pub returns : goal.returns
returns c = c.parse_named.ensures ∙ sym (said_first c.args.line.now _ _ c.next_word.ensures)
