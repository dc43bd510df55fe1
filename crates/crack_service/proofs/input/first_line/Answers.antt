use Rattle.std.proofs.Common.{rules}
use Rattle.crack_service.proofs.input.first_line.Goals as goal

pub returns-in-Some : goal.returns-in-Some
returns-in-Some c = search rules
