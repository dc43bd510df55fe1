-- The histories of partitions, and the receipts of workers, which an audit compares.
use Rattle.std.specs.Prelude.{ℕ, List, map}
use Rattle.std.specs.List.{flat_map}
use Rattle.crack_row.specs.declared.command.Entry.{Entry}
use Rattle.crack_witness.specs.declared.receipt.Receipt.{Receipt}
use Rattle.crack_witness.specs.Histories.{history_of}
use Rattle.crack_witness.specs.Witnesses.{WorkerState, WitnessedState, receipts_in}

-- the history of a partition since its opening
abbrev pub history_in : (ℕ → ℕ) → WitnessedState → List Entry
history_in owner w = history_of (owner w.part) w.log

-- the history of each partition, in order; an audited partition lists its own
abbrev pub histories_of : (ℕ → ℕ) → List WitnessedState → List (List Entry)
histories_of owner parts = map (history_in owner) parts

-- the receipts of all workers, in order, as one list
abbrev pub receipts_of : List WorkerState → List Receipt
receipts_of workers = flat_map receipts_in workers
