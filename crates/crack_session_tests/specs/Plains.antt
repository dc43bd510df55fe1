-- What private clauses alone cite.
-- The bounds of a plain table.
use Rattle.std.specs.Prelude.{false, None, Some, nat_le, if◌then◌else◌}
use Rattle.crack_row.specs.declared.refusal.Refusal.TheVariants.{HistoryFull}
use Rattle.crack_plain.specs.Plain.{accepted_of}
use Rattle.crack_core.specs.Steps.{Bounds}

-- a plain table accepts this many commands in total, whatever checkpoints are made in between, and no checkpoint is
-- ever due; it has no cells, so their limit is a number of commands that it never accepts
abbrev pub plain_bounds : Bounds
plain_bounds = record { stop = λ table. if nat_le 4294967295 (accepted_of table) then Some (HistoryFull 4294967295) else None; cells = 4294967296; taken = accepted_of; due = λ table. false }
