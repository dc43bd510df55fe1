-- What a table answers to a worker.
use Rattle.std.specs.Prelude.{◌≡◌, ℕ, ◌+◌, ◌<◌, ◌≤◌, ◌⊎◌, [], ◌∷◌, ◌++◌, length, Some, Result, IfOk, OnOk, OnErr, slice_index_or, slice_set}
use Rattle.std.specs.List.{sum}
use mathlib.Core.List.{IsPrefix}
use Rattle.crack_row.specs.declared.command.Command.{Command}
use Rattle.crack_row.specs.declared.command.Reply.{Reply}
use Rattle.crack_row.specs.declared.refusal.Refusal.{Refusal}
use Rattle.crack_row.specs.declared.refusal.Refusal.TheVariants.{NoSuchPartition, GateGaveUp, OutOfMemory, StrangeReceipt}
use Rattle.crack_plain.specs.Plain.{IsSmall}
use Rattle.crack_part.specs.Parts.{Part}
use Rattle.crack_part.specs.Refusals.{refusal_of}
use Rattle.crack_witness.specs.Audits.{and_one}
use Rattle.crack_witness.specs.Histories.{calls_at, AreHistories}
use Rattle.crack_witness.specs.Witnesses.{WorkerState, IsGiven}
use Rattle.crack_table.specs.Tables.{TableState, AnswersAt, with_limit}
use Rattle.crack_table.specs.declared.TheConstants.{GATE_TURNS}

-- Why a worker's command may be refused by an existing partition: `GateGaveUp`, only if the gate may refuse at each
-- turn, as `may_refuse` says; `OutOfMemory`; a cause for which a partition in some state refuses it (`refusal_of`),
-- but with the table's limit in `HistoryFull`; `StrangeReceipt`, with `part` and the number of the worker's replies
-- there; `NoSuchPartition`, only if the worker knows of no partition with this number.
abbrev pub MayRefuse : TableState → (ℕ → Type 0) → ℕ → Command → WorkerState → Refusal → Type 0
MayRefuse table may_refuse part command worker e =
    ((e ≡ GateGaveUp) × ((turn : ℕ) → turn < GATE_TURNS → may_refuse turn))
    ⊎ ((e ≡ OutOfMemory)
    ⊎ (((p : Part) × (cause : Refusal) × (refusal_of p command ≡ Some cause) × (e ≡ with_limit table.limits.history cause))
    ⊎ ((e ≡ StrangeReceipt part (slice_index_or worker.counts part 0)) ⊎ ((e ≡ NoSuchPartition) × (length worker.seen_by_part ≤ part)))))

-- The worker `old` asks partition `part`, and is `new` then. If it is answered, what it now sees of the partition's
-- history ends with its entry, after all that it had seen before; of its own entries there it sees those of its
-- replies. Each reply in a history that it sees is that of the plain rows after the entries before it. With an audit
-- it has one more receipt. A refusal leaves it unchanged: `NoSuchPartition` if there is no such partition, else as
-- `MayRefuse` says.
pub record AsksTable (owner : ℕ → ℕ) (table : TableState) (may_refuse : ℕ → Type 0) (part : ℕ) (command : Command) (result : Result Reply Refusal) (old new : WorkerState) : Type 0 where
  pub given : IfOk result (λ reply. IsGiven owner part (record { worker = old.worker; command = command; reply = reply }) old.seen new.seen)
  pub mine : IfOk result (λ reply. calls_at owner part old.worker new.seen ≡ calls_at owner part old.worker (slice_index_or old.seen_by_part part []) ++ record { worker = old.worker; command = command; reply = reply } ∷ [])
  pub receipts : IfOk result (λ reply. (position : ℕ) × (new.receipts ≡ and_one old.receipts (record { part = part; position = position; worker = old.worker; command = command; reply = reply })))
  pub seen_by_part : OnOk result (new.seen_by_part ≡ slice_set old.seen_by_part part new.seen)
  pub legal : OnOk result (AreHistories new.seen)
  pub small : IfOk result IsSmall
  pub at : AnswersAt table part (MayRefuse table may_refuse part command old) result
  pub seen : IsPrefix old.seen new.seen
  pub replies : OnOk result (sum new.counts ≡ sum old.counts + 1)
  pub worker : new.worker ≡ old.worker
  pub err : OnErr result (new ≡ old)
