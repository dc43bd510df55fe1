use Rattle.std.proofs.Common.{slice_index_or}
use Rattle.crack_bench.proofs.histories.runs.carry_out.Given as goal

-- the book that was just opened, and its owners
abbrev pub ghosts-carry_out_named : goal.ghosts-carry_out_named
ghosts-carry_out_named g a = record { book = a.table.opened.book; owner = λ part. slice_index_or a.table.opened.ids part 0 }
