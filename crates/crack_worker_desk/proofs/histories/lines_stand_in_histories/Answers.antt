use Rattle.crack_worker_desk.proofs.Lines.{lines}
use Rattle.crack_worker_desk.proofs.histories.lines_stand_in_histories.Goals as goal

pub returns : goal.returns
returns g c = lines g.J.Naming.owner g.G.Gate.may_refuse _ (λ d. d.table.now) (λ d. d.gate.now) (λ d. d.worker) (λ d call e led. led) c.args.desk.now
