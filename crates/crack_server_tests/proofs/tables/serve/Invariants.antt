use Rattle.std.proofs.Common.{slice_index_or}
use Rattle.crack_server_tests.proofs.tables.serve.Given as goal

-- the book that was just opened, and its owners
abbrev pub ghosts-serve_named : goal.ghosts-serve_named
ghosts-serve_named g a = record { book = a.table.opened.book; owner = λ part. slice_index_or a.table.opened.ids part 0 }
