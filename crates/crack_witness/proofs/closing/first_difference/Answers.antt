use Rattle.std.proofs.Common.{◌∙◌, subst, arith}
use Rattle.std.proofs.lemmas.List.Elements.{All-more}
use Rattle.crack_witness.specs.Witnesses.{WorkerState, WitnessedState, HasSeen}
use Rattle.crack_witness.proofs.Lists.{all_of}
use Rattle.crack_witness.proofs.closing.first_difference.Goals as goal

pub workers-preserved : goal.workers-preserved
workers-preserved g c =
    let value = c.deref-worker-items.ensures.value in
    let here : HasSeen g.J.Naming.owner c.worker-item.result c.workers.part = record { covered = c.agrees.ensures.covered; mine = c.agrees.ensures.mine c.if-not-agrees.false } in
    let agree : HasSeen g.J.Naming.owner c.worker-item.result c.args.part.now = subst (λ (w : WitnessedState). HasSeen g.J.Naming.owner c.worker-item.result w) c.workers.invariant.same here in
    record {
      same = c.agrees.ensures.same ∙ c.workers.invariant.same;
      agree = All-more (λ (a : WorkerState). HasSeen g.J.Naming.owner a c.args.part.now) c.args.workers.now.items c.workers.worker-index c.worker-item.result (rw value at c.workers-test.true) c.workers.invariant.agree (rw (← (rw value at c.worker-item.is)) agree);
    }

pub returns-clause-none : goal.returns-clause-none
returns-clause-none g c = all_of (λ (a : WorkerState). HasSeen g.J.Naming.owner a c.args.part.now) c.args.workers.now.items c.workers.worker-index (omega arith) c.workers.invariant.agree
