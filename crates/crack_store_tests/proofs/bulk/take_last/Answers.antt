use Rattle.crack_store_tests.proofs.bulk.take_last.Goals as goal

pub put_back-requires-clause-room : goal.put_back-requires-clause-room
put_back-requires-clause-room g c = rw c.lift_last-carrying.ensures.after c.in_default.ensures.pending_in
