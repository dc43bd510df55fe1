use Rattle.std.proofs.Common.{rules}
use Rattle.crack_service.proofs.input.empty_shares.Goals as goal

pub workers-init : goal.workers-init
workers-init c = search rules
