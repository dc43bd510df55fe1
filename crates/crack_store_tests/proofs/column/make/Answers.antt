use Rattle.crack_store_tests.proofs.column.make.Goals as goal

pub returns-in-Pop : goal.returns-in-Pop
returns-in-Pop c = record { remembered = c.pops.ensures.remembered c.args.arena.now.cells c.requires.remembered }

pub returns-in-PopRemembered : goal.returns-in-PopRemembered
returns-in-PopRemembered c = record { remembered = c.pop_remembered.ensures.remembered c.args.arena.now.cells c.requires.remembered }
