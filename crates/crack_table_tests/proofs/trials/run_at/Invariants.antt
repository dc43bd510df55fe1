use Rattle.std.proofs.Common.{slice_index_or}
use Rattle.crack_table_tests.proofs.trials.run_at.Given as goal

-- the book that was just opened, and its owners
abbrev pub ghosts-run_named : goal.ghosts-run_named
ghosts-run_named g a = record { book = a.table.opened.book; owner = λ part. slice_index_or a.table.opened.ids part 0 }
