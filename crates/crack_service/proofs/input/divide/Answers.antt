use Rattle.std.proofs.Common.{rules}
use Rattle.crack_service.proofs.input.divide.Goals as goal

pub lines-init : goal.lines-init
lines-init c = search rules
