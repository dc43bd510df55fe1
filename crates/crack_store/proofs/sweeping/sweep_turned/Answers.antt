use Rattle.std.proofs.Common.{sym, ◌∙◌}
use Rattle.crack_store.proofs.SweepWalks.{Sweeps-off}
use Rattle.crack_store.proofs.sweeping.sweep_turned.Goals as goal

pub returns-then-count-eq0-clause-sweeps : goal.returns-then-count-eq0-clause-sweeps
returns-then-count-eq0-clause-sweeps c = Sweeps-off c.args.arena.now.cells c.args.pending_out.now.handles c.args.bounds.0 c.args.bounds.1 c.args.places.0 c.args.places.1 c.args.from c.args.column.now.handles c.requires.order c.requires.before c.requires.within (sym c.requires.counted ∙ c.if-count-eq0.true)
