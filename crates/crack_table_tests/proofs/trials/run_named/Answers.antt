use Rattle.crack_table_tests.proofs.trials.run_named.Goals as goal

pub run-requires : goal.run-requires
run-requires g c = λ place w is. (c.in_ok-table.ensures.workers.numbered place w is).unseen
