use Rattle.crack_server_tests.proofs.tables.serve_named.Goals as goal

pub ask_early-requires : goal.ask_early-requires
ask_early-requires g c = λ place a is. (c.in_ok-table.ensures.workers.numbered place a is).unseen
