use Rattle.crack_store_tests.proofs.pending.assert_steps.Goals as goal

pub make_all-requires : goal.make_all-requires
make_all-requires g c = c.requires c.put_all-first_row.new.arena.cells
