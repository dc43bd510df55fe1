-- What contracts see of an opened book, of witnessed partitions and of their workers. A book is the list of the events
-- of all partitions, which exists only in proofs; a partition's owner is its number there, which `owner` gives. An
-- entry is an answered command. `w` is a partition with its history, and `a` a worker.
use Rattle.std.specs.Prelude.{◌≡◌, ◌≢◌, Bool, ℕ, ◌+◌, ◌<◌, ◌≤◌, ◌⊎◌, List, [], ◌∷◌, ◌++◌, length, sum_by, take, All, Any, AllPairs, Option, Some, IfSome, unwrap_or, slice_index_or, replicate}
use mathlib.Core.List.{IsPrefix}
use Rattle.logbook.specs.Pages.{Book}
use Rattle.crack_row.specs.declared.command.Entry.{Entry}
use Rattle.crack_row.specs.declared.refusal.Refusal.{Refusal}
use Rattle.crack_row.specs.declared.command.Command.{Command}
use Rattle.crack_row.specs.declared.refusal.Refusal.TheVariants.{NoSuchPartition, OutOfMemory, StrangeReceipt}
use Rattle.crack_witness.specs.declared.receipt.Receipt.{Receipt}
use Rattle.crack_plain.specs.Past.{Past, accepted_in, inserted_in, deleted_in, IsLegal}
use Rattle.crack_plain.specs.Plain.{accepted_of}
use Rattle.crack_part.specs.Parts.{Part, state_of, table_of}
use Rattle.crack_part.specs.Refusals.{refusal_of}
use Rattle.crack_witness.specs.declared.event.Event.{Event}
use Rattle.crack_witness.specs.Audits.{empty_list}
use Rattle.crack_witness.specs.Histories.{history_of, calls_by, calls_at, AreHistories, AreEmpty, IsPastOf, past_in}

-- a new book, and the number of each partition's owner in it
pub record OpenedState : Type 0 where
  pub book : Book
  pub ids : List ℕ

-- no two of the numbers are the same
abbrev pub AreDistinct : List ℕ → Type 0
AreDistinct ids = AllPairs (λ (one other : ℕ). one ≢ other) ids

-- `book` is the opened book, and the owner of each partition is the one at the partition's number in `opened.ids`
pub record AreNames (book : Book) (owner : ℕ → ℕ) (opened : OpenedState) : Type 0 where
  pub book_is : book ≡ opened.book
  pub owner_is : (part : ℕ) → owner part ≡ slice_index_or opened.ids part 0

-- of the partitions with numbers below `count`, no two have the same owner, and so the same history
abbrev pub OwnersDiffer : (ℕ → ℕ) → ℕ → Type 0
OwnersDiffer owner count = (one other : ℕ) → one < other → other < count → owner one ≢ owner other

-- a partition with its number, the events that its history writer has seen, the number of workers whose
-- entries it counts, and the list of its entries, if there is an audit
pub record WitnessedState : Type 0 where
  pub part : ℕ
  pub log : List Event
  pub held : Part
  pub workers : ℕ
  pub entries : Option (List Entry)

-- a partition's past: the base that its last checkpoint makes of its history, and the entries since
abbrev pub past_of : (ℕ → ℕ) → WitnessedState → Past
past_of owner w = past_in (history_of (owner w.part) w.log) (table_of w.held)

-- A partition's plain rows are those after its history, which has as many entries as the partition accepted commands.
-- Each reply in a history is that of the plain rows after the entries before it. Each entry is by a worker that the
-- partition counts, and the list of an audit is the history. The past is possible (`IsLegal`): each key in it is one
-- of the partition's, and the limits bound the entries since the last checkpoint and all accepted commands.
pub record IsWhole (owner : ℕ → ℕ) (w : WitnessedState) : Type 0 where
  pub legal : AreHistories w.log
  pub kept : IsPastOf (history_of (owner w.part) w.log) (table_of w.held)
  pub known : All (λ (e : Entry). e.worker < w.workers) (history_of (owner w.part) w.log)
  pub listed : IfSome w.entries (λ entries. entries ≡ history_of (owner w.part) w.log)
  pub past : IsLegal w.held.keys w.held.limits (past_of owner w)

-- A past has as many commands as the partition accepted, and as many insertions as the partition gave serials. There
-- are as many live rows as were inserted in the past minus those deleted.
pub record HasTotals (past : Past) (held : Part) : Type 0 where
  pub accepted : accepted_in past ≡ accepted_of (table_of held)
  pub inserted : inserted_in past ≡ held.next
  pub rows : length (state_of held).rows + deleted_in past ≡ held.next

-- `w` is the partition `held` with the number `part` and no entry yet, which counts the entries of this many workers;
-- with an audit its list of entries is empty, else there is none
pub record IsNewAt (owner : ℕ → ℕ) (workers : ℕ) (audited : Bool) (part : ℕ) (held : Part) (w : WitnessedState) : Type 0 where
  pub part_is : w.part ≡ part
  pub held_is : w.held ≡ held
  pub workers_is : w.workers ≡ workers
  pub empty : history_of (owner part) w.log ≡ []
  pub entries_are : w.entries ≡ empty_list audited

-- `ws` has for each partition of `ps` one that is new by `IsNewAt`, in order. The first has the number `number`, and
-- the others the next numbers. They count the entries of `workers` workers. The lists are equally long.
abbrev pub AreNewFrom : (ℕ → ℕ) → ℕ → Bool → ℕ → List Part → List WitnessedState → Type 0
AreNewFrom owner workers audited number [] [] = Unit {0}
AreNewFrom owner workers audited number (p ∷ ps) (w ∷ ws) = IsNewAt owner workers audited number p w × AreNewFrom owner workers audited (number + 1) ps ws
AreNewFrom owner workers audited number _ _ = ⊥

-- the partition counts the worker's entries, and its history has `count` of them
pub record IsInStep (owner : ℕ → ℕ) (w : WitnessedState) (worker count : ℕ) : Type 0 where
  pub one : worker < w.workers
  pub same : length (calls_by worker (history_of (owner w.part) w.log)) ≡ count

-- why a partition may refuse a command of the worker with this number, which has received `count` replies there:
-- `StrangeReceipt`, only if the partition's history, that of its owner, hasn't `count` entries of the worker, or the
-- worker's number isn't below the number of workers whose entries the partition counts; or `OutOfMemory`; or as the
-- partition refuses the command
abbrev pub MayRefuseIt : (ℕ → ℕ) → WitnessedState → ℕ → ℕ → Command → Refusal → Type 0
MayRefuseIt owner w worker count command e =
    ((e ≡ StrangeReceipt w.part count) × (IsInStep owner w worker count → ⊥))
    ⊎ ((e ≡ OutOfMemory) ⊎ (refusal_of w.held command ≡ Some e))

-- a worker: its number, the events that it has seen, those that it had seen after its last reply from each
-- partition, the number of its replies from each partition, and its receipts in the order in which it asked, if
-- there is an audit
pub record WorkerState : Type 0 where
  pub worker : ℕ
  pub seen : List Event
  pub seen_by_part : List (List Event)
  pub counts : List ℕ
  pub receipts : Option (List Receipt)

-- `a` is the worker with this number, for `parts` partitions, and has seen no entry and received no reply; with an
-- audit its list of receipts is empty, else there is none
pub record IsNewWorker (number parts : ℕ) (audited : Bool) (a : WorkerState) : Type 0 where
  pub worker_is : a.worker ≡ number
  pub unseen : AreEmpty a.seen
  pub seen_by_part_are : a.seen_by_part ≡ replicate parts a.seen
  pub counts_are : a.counts ≡ replicate parts 0
  pub receipts_are : a.receipts ≡ empty_list audited

-- in the events `new` the partition's history ends with the entry; in the events `old`, seen earlier, the history is
-- a prefix of the entries before that one
pub record IsGiven (owner : ℕ → ℕ) (part : ℕ) (entry : Entry) (old new : List Event) : Type 0 where
  pub before : List Entry
  pub ends : history_of (owner part) new ≡ before ++ entry ∷ []
  pub begins : IsPrefix (history_of (owner part) old) before

-- of the worker's entries, a partition's history has exactly those for which the worker received replies
abbrev pub HasJustItsOwn : (ℕ → ℕ) → WorkerState → WitnessedState → Type 0
HasJustItsOwn owner a w = calls_at owner w.part a.worker w.log ≡ calls_at owner w.part a.worker (slice_index_or a.seen_by_part w.part [])

-- what a worker has seen of a partition's history is a prefix of it, and of the worker's entries the history has
-- exactly those for which the worker received replies
pub record HasSeen (owner : ℕ → ℕ) (a : WorkerState) (w : WitnessedState) : Type 0 where
  pub covered : IsPrefix (history_of (owner w.part) a.seen) (history_of (owner w.part) w.log)
  pub mine : calls_at owner w.part a.worker w.log ≡ calls_at owner w.part a.worker (slice_index_or a.seen_by_part w.part [])

-- of the worker's entries, a partition's history hasn't exactly those for which the worker received replies; or the
-- worker knows of no partition with this number; or the partition doesn't count the worker's entries
abbrev pub Differs : (ℕ → ℕ) → WorkerState → WitnessedState → Type 0
Differs owner a w = w.part < length a.seen_by_part → a.worker < w.workers → HasJustItsOwn owner a w → ⊥

-- the number of a worker's replies from partition `part`; 0 if it knows of no such partition
abbrev pub replies_at : WorkerState → ℕ → ℕ
replies_at a part = slice_index_or a.counts part 0

-- the partition has the number `part` and counts the worker's entries, and its history has as many of them as the
-- worker received replies there
abbrev pub KnowsHistory : (ℕ → ℕ) → WorkerState → ℕ → WitnessedState → Type 0
KnowsHistory owner a part w = (w.part ≡ part) × IsInStep owner w a.worker (replies_at a part)

-- Why the partition `w` may refuse a command that a worker asks of partition `part`: `NoSuchPartition`, only if the
-- worker knows of none with this number; `StrangeReceipt`, with `part` and the number of the worker's replies there,
-- only if `w` has another number, doesn't count the worker's entries, or has another number of them in its history;
-- `OutOfMemory`; or as the partition refuses the command.
abbrev pub MayRefuseAt : (ℕ → ℕ) → WitnessedState → ℕ → Command → WorkerState → Refusal → Type 0
MayRefuseAt owner w part command a e =
    ((e ≡ NoSuchPartition) × (length a.seen_by_part ≤ part))
    ⊎ (((e ≡ StrangeReceipt part (replies_at a part)) × (KnowsHistory owner a part w → ⊥))
    ⊎ ((e ≡ OutOfMemory) ⊎ (refusal_of w.held command ≡ Some e)))

-- the number of a worker's replies from all partitions
abbrev pub replies_to : WorkerState → ℕ
replies_to a = sum_by (λ (n : ℕ). n) a.counts

-- a worker's receipts; the empty list without an audit
abbrev pub receipts_in : WorkerState → List Receipt
receipts_in a = unwrap_or a.receipts []

-- why workers and partitions may not agree: `StrangeReceipt`, with the number of the first partition that differs from
-- a worker (`Differs`), and the number of replies that a worker from which it differs received there
pub record MayDiffer (owner : ℕ → ℕ) (workers : List WorkerState) (parts : List WitnessedState) (e : Refusal) : Type 0 where
  pub place : ℕ
  pub at : WitnessedState
  pub there : place < length parts
  pub is_at : slice_index_or parts place at ≡ at
  pub earlier : All (λ (w : WitnessedState). All (λ (a : WorkerState). HasSeen owner a w) workers) (take place parts)
  pub position : ℕ
  pub differs : Any (λ (a : WorkerState). Differs owner a at × (position ≡ replies_at a at.part)) workers
  pub cause : e ≡ StrangeReceipt at.part position
