use Rattle.std.proofs.Common.{Some, drop, refl, sym, ◌∙◌, arith}
use Rattle.std.proofs.lemmas.Bool.{true≢false}
use Rattle.crack_store.specs.Sweepings.{IsSweepReady}
use Rattle.crack_store.proofs.SweepWalks.{none-below, Sweeps-off, IsReady-on}
use Rattle.crack_store.proofs.sweeping.SweepPlacer.place.Goals as goal
use Rattle.crack_store.proofs.sweeping.SweepPlacer.place.Goals.{After-number-self}

-- none of the rows is below the bound
ready : (c : After-number-self) → IsSweepReady (record c.args.self.now { low = c.number-self.result; start = c.args.mark.position; count = 0 })
ready c =
    let v = c.args.self.now in
    IsReady-on v c.number-self.result c.args.mark.position c.requires (omega (arith, c.if-position-self.false)) (omega (arith, c.if-number-self.false, c.number.ensures, c.number-self.ensures)) (omega (arith, c.is_up_to.ensures.0 c.if-is_up_to.true, c.number-self.ensures))

pub returns-then-is_up_to-clause-places : goal.returns-then-is_up_to-clause-places
returns-then-is_up_to-clause-places c = λ low high order.
    let v = c.args.self.now in
    record {
      made = 0;
      sweeps = Sweeps-off v.arena.now.cells v.pending_out.now.handles v.low (Some c.args.mark.bound) v.start c.args.mark.position v.from v.column.handles low high c.requires.within (none-below v.arena.now.cells v.pending_out.now.handles v.low v.floor.0 (drop v.from v.column.handles) (omega (arith, order, c.is_up_to.ensures.0 c.if-is_up_to.true)) (c.requires.above (omega (arith, order, c.is_up_to.ensures.0 c.if-is_up_to.true))));
      place_is = omega arith;
      low_is = c.number-self.ensures;
      start_is = refl;
      from_is = refl;
      out_is = refl;
      arena_is = refl;
      moved_is = omega (arith, c.requires.small);
      ready = ready (goal.at.returns-then-is_up_to-clause-places c).After-number-self;
    }

pub returns-then-is_up_to-clause-ready : goal.returns-then-is_up_to-clause-ready
returns-then-is_up_to-clause-ready c = ready (goal.at.returns-then-is_up_to-clause-ready c).After-number-self

pub returns-clause-ready : goal.returns-clause-ready
returns-clause-ready c = record {
  order = omega (arith, c.if-self-position.false);
  within = omega (arith, c.sweep_turned-made.ensures.length, c.requires.within);
  remembers = c.sweep_turned-made.ensures.remembers;
  counted = c.sweep_turned-made.ensures.counts ∙ rw c.number-self-2.ensures refl;
  above = λ below. absurd (true≢false (sym (c.is_up_to.ensures.1 (omega (arith, below, c.number-self-2.ensures))) ∙ c.if-is_up_to.false));
  small = omega (arith, c.saturating_add-self.ensures);
}

pub returns-clause-places : goal.returns-clause-places
returns-clause-places c = λ low high order. record {
  made = c.sweep_turned-made.result.0;
  sweeps = c.sweep_turned-made.ensures.sweeps;
  place_is = refl;
  low_is = c.number-self-2.ensures;
  start_is = refl;
  from_is = refl;
  out_is = refl;
  arena_is = refl;
  moved_is = c.saturating_add-self.ensures;
  ready = returns-clause-ready c;
}
