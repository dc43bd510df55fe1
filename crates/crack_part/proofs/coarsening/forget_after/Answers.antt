use Rattle.std.proofs.Common.{length, refl, ap, ◌∙◌, arith}
use Rattle.crack_index.proofs.RemoveLaws.{length-removed}
use Rattle.crack_state.specs.State.{State}
use Rattle.crack_part.proofs.ForgetLaws.{IsOnWay-start, IsOnWay-found, IsOnWay-end, JoinsOnWay-start, JoinsOnWay-found, JoinsOnWay-end, Known-joined, noted-end}
use Rattle.crack_index.specs.Passes.{pass_above}
use Rattle.crack_part.specs.KnownSums.{Known}
use Rattle.crack_part.specs.declared.coarsening.TheConstants.{FEW_ROWS}
use Rattle.crack_part.proofs.coarsening.forget_after.Goals as goal

pub bounds-init : goal.bounds-init
bounds-init c =
    let first = c.pass_after-pass.ensures ∙ ap (λ n. pass_above c.args.key.0 FEW_ROWS n c.args.store.now.marks) c.most_met.ensures in record {
      on = IsOnWay-start c.args.key c.args.store.now c.pass_after-pass.result first;
      joins = JoinsOnWay-start c.args.key c.args.store.now c.pass_after-pass.result c.args.known.now.pieces first;
      since = refl;
      knows = λ plain knows. knows;
    }

pub bounds-smaller : goal.bounds-smaller
bounds-smaller c =
    omega (arith, ap (λ (s : State). length s.marks) c.in-Some.ensures.forgotten, length-removed c.in-Some.bound.0 c.bounds.store.marks c.in-Some.ensures.there)

pub bounds-preserved : goal.bounds-preserved
bounds-preserved c = record {
  on = IsOnWay-found c.args.key c.args.store.now c.bounds.pass c.bounds.store c.in-Some.bound c.forget_few.new.pass c.forget_few.new.self c.bounds.invariant.on c.in-Some.ensures.found c.in-Some.ensures.forgotten;
  joins = JoinsOnWay-found c.args.key c.args.store.now c.bounds.pass c.bounds.store c.in-Some.bound c.forget_few.new.pass c.forget_few.new.self c.args.known.now.pieces c.bounds.known.pieces c.join.new.self.pieces c.bounds.invariant.on c.in-Some.ensures.found c.in-Some.ensures.forgotten (ap (λ (k : Known). k.pieces) c.join.ensures.joins) c.bounds.invariant.joins;
  since = ap (λ (k : Known). k.since) c.join.ensures.joins ∙ c.bounds.invariant.since;
  knows = λ plain knows. c.join.ensures.knows plain (c.bounds.invariant.knows plain knows);
}

pub returns-clause-coarse : goal.returns-clause-coarse
returns-clause-coarse c =
    (IsOnWay-end c.args.key c.args.store.now c.bounds.pass c.bounds.store c.forget_few.new.pass c.forget_few.new.self c.bounds.invariant.on c.in_default.ensures.found c.in_default.ensures.none).0

pub returns-clause-noted : goal.returns-clause-noted
returns-clause-noted c =
    let end = IsOnWay-end c.args.key c.args.store.now c.bounds.pass c.bounds.store c.forget_few.new.pass c.forget_few.new.self c.bounds.invariant.on c.in_default.ensures.found c.in_default.ensures.none in
    noted-end c.args.key c.args.store.now c.forget_few.new.self c.args.passes.now c.note.new.self c.stopped.result _ end.0 c.note.ensures c.stopped.ensures end.1

pub returns-clause-joins : goal.returns-clause-joins
returns-clause-joins c =
    let pieces = JoinsOnWay-end c.args.key c.args.store.now c.bounds.pass c.bounds.store c.forget_few.new.pass c.args.known.now.pieces c.bounds.known.pieces c.bounds.invariant.on c.in_default.ensures.found c.bounds.invariant.joins in
    Known-joined c.args.known.now c.bounds.known _ pieces c.bounds.invariant.since
