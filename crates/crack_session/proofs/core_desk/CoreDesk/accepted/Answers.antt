use Rattle.std.proofs.Common.{rules}
use Rattle.crack_session.proofs.core_desk.CoreDesk.accepted.Goals as goal

pub returns : goal.returns
returns c = search rules
