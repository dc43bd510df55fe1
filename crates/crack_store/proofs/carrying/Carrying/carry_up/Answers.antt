use Rattle.std.proofs.Common.{arith}
use Rattle.crack_state.specs.Steps.{pushed_on, ceiling_of, PushesOn}
use Rattle.crack_store.proofs.WayLemmas.{pushes_then, bounds_above-pushes}
use Rattle.crack_store.proofs.carrying.Carrying.carry_up.Goals as goal

pub walks-init : goal.walks-init
walks-init c = rw c.end_at_once.ensures.same (PushesOn.stays c.args.self.now)

pub returns-in-Some-clause-pushes : goal.returns-in-Some-clause-pushes
returns-in-Some-clause-pushes c = rw c.end_at_once.ensures.same (PushesOn.stays c.args.self.now)

pub returns-in-Some-carry_end-clause-pushes : goal.returns-in-Some-carry_end-clause-pushes
returns-in-Some-carry_end-clause-pushes c = pushes_then (ceiling_of c.args.ceiling) c.args.self.now c.walks.self c.ascend.new.self c.walks.invariant c.ascend.ensures

pub walks-preserved : goal.walks-preserved
walks-preserved c =
    let at = c.ascend.new.self in
    let ceiling = ceiling_of c.args.ceiling in
    let goes_on = c.in_default-carry_end.ensures in
    rw c.push_on.ensures.after (pushes_then ceiling c.args.self.now at (pushed_on at) (pushes_then ceiling c.args.self.now c.walks.self at c.walks.invariant c.ascend.ensures) (PushesOn.pushes at (pushed_on at) goes_on.lasting goes_on.below goes_on.room (PushesOn.stays (pushed_on at))))

pub walks-smaller : goal.walks-smaller
walks-smaller c = omega (arith, c.push_on.ensures.nearer, bounds_above-pushes (ceiling_of c.args.ceiling) c.walks.self c.ascend.new.self c.ascend.ensures c.recall_invariant.ensures)
