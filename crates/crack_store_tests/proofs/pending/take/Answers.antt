use Rattle.crack_store_tests.proofs.pending.take.Goals as goal

pub returns : goal.returns
returns g c = c.take-handle.ensures.remembered c.args.arena.now.cells c.requires
