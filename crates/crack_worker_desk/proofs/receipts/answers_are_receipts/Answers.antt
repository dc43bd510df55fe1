use Rattle.crack_worker_desk.proofs.Receipting.{answers-receipted}
use Rattle.crack_worker_desk.proofs.receipts.answers_are_receipts.Goals as goal

pub returns : goal.returns
returns g c = λ owner table calls old new were. answers-receipted owner table (g.G.Gate.may_refuse c.args.gate.now) calls old new were
