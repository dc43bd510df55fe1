use Rattle.std.proofs.Common.{rules}
use Rattle.crack_commands.proofs.Splitting.{first_is, others_are}
use Rattle.crack_commands.proofs.statement.parse_update.Goals as goal

pub returns-in-Some : goal.returns-in-Some
returns-in-Some c = rw (first_is _ _ _ c.next_word.ensures, others_are _ _ _ c.next_word.ensures) (search rules)

pub returns-in-None : goal.returns-in-None
returns-in-None c = rw (first_is _ _ _ c.next_word.ensures) (search rules)
