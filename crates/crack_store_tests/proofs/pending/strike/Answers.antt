use Rattle.crack_store_tests.proofs.pending.strike.Goals as goal

pub returns : goal.returns
returns g c = c.strike.ensures.remembered c.args.arena.now.cells c.requires
