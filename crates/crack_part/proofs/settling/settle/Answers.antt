use Rattle.std.proofs.Common.{inl, inr, refl}
use Rattle.std.proofs.lemmas.Result.{on_ok_weaker, on_err_weaker}
use Rattle.crack_part.proofs.PointLemmas.{on_err}
use Rattle.crack_part.proofs.settling.settle.Goals as goal

pub returns-clause-settled : goal.returns-clause-settled
returns-clause-settled c = on_ok_weaker c.crack_and_merge.result
    (λ does. record {
      ready = c.make_ready.new.store;
      readies = c.in_ok-make_ready.ensures.ready;
      does = record { notes = c.coarsen.ensures.noted; does = rw c.coarsen.ensures.coarse at does };
    })
    c.crack_and_merge.ensures.settled

pub returns-clause-stopped : goal.returns-clause-stopped
returns-clause-stopped c = on_err_weaker c.crack_and_merge.result
    (λ does. inr (record {
      ready = c.make_ready.new.store;
      readies = c.in_ok-make_ready.ensures.ready;
      does = record { notes = c.coarsen.ensures.noted; does = rw c.coarsen.ensures.coarse at does };
    }))
    c.crack_and_merge.ensures.stopped

pub returns-in_err-make_ready-clause-stopped : goal.returns-in_err-make_ready-clause-stopped
returns-in_err-make_ready-clause-stopped c =
    let stopped = c.in_err-make_ready.ensures.stopped in
    on_err c.from_residual.result (inl (stopped.0, stopped.1, refl))
