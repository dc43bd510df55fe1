use Rattle.std.proofs.Common.{rules}
use Rattle.crack_pending.proofs.codes.Codes.leave_hole.Goals as goal

pub returns-then-spot-len : goal.returns-then-spot-len
returns-then-spot-len c = search rules
