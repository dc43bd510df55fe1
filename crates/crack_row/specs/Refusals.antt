-- The numbers of the refusals.
use Rattle.std.specs.Prelude.{ℕ}
use Rattle.crack_row.specs.declared.refusal.Refusal.{Refusal}
use Rattle.crack_row.specs.declared.refusal.Refusal.TheVariants.{BadStatement, BadRange, KeyOutside, NoSuchPartition, HistoryFull, GateGaveUp, OutOfMemory, NoCell, LifeOver, BadSplits, TooManyPartitions, BadWorkerCount, BadLimit, WorkersMissing, StrangeReceipt, ReadFault, WriteFault, BadRecord}

-- the number of a refusal, which comes first in its text; no refusal has the number 3
abbrev pub code_of : Refusal → ℕ
code_of BadStatement = 1
code_of BadRange = 2
code_of KeyOutside = 4
code_of NoSuchPartition = 5
code_of (HistoryFull length) = 6
code_of GateGaveUp = 7
code_of OutOfMemory = 8
code_of NoCell = 9
code_of LifeOver = 10
code_of BadSplits = 11
code_of TooManyPartitions = 12
code_of BadWorkerCount = 13
code_of BadLimit = 14
code_of (WorkersMissing missing) = 15
code_of (StrangeReceipt part position) = 16
code_of ReadFault = 17
code_of WriteFault = 18
code_of (BadRecord number) = 19
