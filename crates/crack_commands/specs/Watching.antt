-- The texts of statistics, for monitoring.
use Rattle.std.specs.Prelude.{ℕ, List, ◌++◌, Option, None, Some, codes, decimal}
use Rattle.crack_plain.specs.declared.statistics.Statistics.{Statistics}
use Rattle.crack_commands.specs.declared.watching.Traffic.{Traffic}
use Rattle.crack_commands.specs.Texts.{line_text}

-- a line of a name, which ends with a space, and its number
abbrev pub named_text : List ℕ → ℕ → List ℕ
named_text name number = name ++ decimal number ++ codes "\n"

-- the lines with the numbers of rows, pending insertions, pending deletions and pieces
abbrev pub row_numbers : Statistics → List ℕ
row_numbers s = named_text (codes "rows ") s.rows ++ named_text (codes "pending_insertions ") s.pending_insertions ++ named_text (codes "pending_deletions ") s.pending_deletions ++ named_text (codes "pieces ") s.pieces

-- the lines with the numbers of cells, free cells, commands accepted, and commands accepted since the last checkpoint
abbrev pub cell_numbers : Statistics → List ℕ
cell_numbers s = named_text (codes "cells ") s.cells ++ named_text (codes "free_cells ") s.free_cells ++ named_text (codes "commands_accepted ") s.commands_accepted ++ named_text (codes "commands_since_checkpoint ") s.commands_since_checkpoint

-- the lines with the numbers of connected clients and of sessions begun
abbrev pub client_numbers : Traffic → List ℕ
client_numbers t = named_text (codes "clients ") t.clients ++ named_text (codes "sessions ") t.sessions

-- the lines with the statements answered per second, the longest time that the statements of one read took, in
-- microseconds, and the seconds since the server's start
abbrev pub time_numbers : Traffic → List ℕ
time_numbers t = named_text (codes "statements_per_second ") t.statements_per_second ++ named_text (codes "longest_microseconds ") t.longest_microseconds ++ named_text (codes "uptime_seconds ") t.uptime_seconds

-- the lines of a server's traffic, those of its clients and sessions before those of its statements and times
abbrev pub traffic_text : Traffic → List ℕ
traffic_text t = client_numbers t ++ time_numbers t

-- a line with the number of the lines that follow, the lines of the statistics of a table or a partition, and then
-- those of the server's traffic, unless it is `None`
abbrev pub numbers_text : Statistics → Option Traffic → List ℕ
numbers_text s None = line_text (codes "stats ") (decimal 8) ++ row_numbers s ++ cell_numbers s
numbers_text s (Some t) = line_text (codes "stats ") (decimal 13) ++ row_numbers s ++ cell_numbers s ++ traffic_text t
