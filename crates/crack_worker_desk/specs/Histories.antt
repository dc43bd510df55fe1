-- The answers of a session over a worker's desk, once the worker is gathered: compared with the table's partitions
-- `parts`, whose owners `owner` gives. A partition's history has the entries of all commands that it answered.
use Rattle.std.specs.Prelude.{◌≡◌, ℕ, ◌==◌, List, [], ◌++◌, map, All, Contains, slice_index_or}
use Rattle.std.specs.List.{filter}
use Rattle.crack_row.specs.declared.Bound.{Bound}
use Rattle.crack_row.specs.declared.command.Command.{Command}
use Rattle.crack_row.specs.declared.command.Entry.{Entry}
use Rattle.crack_row.specs.declared.command.Policy.{Policy}
use Rattle.crack_row.specs.declared.command.Reply.{Reply}
use Rattle.crack_commands.specs.Grammar.{Reading}
use Rattle.crack_session.specs.declared.answer.Answer.{Answer}
use Rattle.crack_session.specs.Calls.{Call, Calls, AreMadeOf, AreAnswersOf}
use Rattle.crack_table.specs.Tables.{TableState}
use Rattle.crack_plain.specs.Plain.{AreReplies, no_rows}
use Rattle.crack_witness.specs.Histories.{calls_by}
use Rattle.crack_witness.specs.Witnesses.{WorkerState, WitnessedState}
use Rattle.crack_table.specs.Audits.{histories_of}
use Rattle.crack_table.specs.Gather.{AreGathered}
use Rattle.crack_worker_desk.specs.Leads.{answers_in}

-- this worker is one of the workers that were gathered with these partitions of the table (`AreGathered`)
abbrev pub IsGathered : (ℕ → ℕ) → TableState → List WitnessedState → WorkerState → Type 0
IsGathered owner table parts worker = (workers : List WorkerState) × Contains workers worker × AreGathered owner table.splits table.limits table.workers workers parts

-- the entries that the answered commands among these calls have at partition `part`, in order; `worker` is the number
-- of the worker that made the calls
abbrev pub entries_at : ℕ → ℕ → List Call → List Entry
entries_at worker part calls = map (λ (a : ℕ × Command × Reply). record { worker = worker; command = a.1; reply = a.2 }) (filter (λ (a : ℕ × Command × Reply). a.0 == part) (answers_in calls))

-- Each reply in the histories is that of the plain rows after the entries before it. For each partition, the entries
-- of the worker's answered calls there stand in its history, in order, with no other entry of the worker between them.
pub record StandIn (owner : ℕ → ℕ) (parts : List WitnessedState) (worker : ℕ) (calls : List Call) : Type 0 where
  pub legal : All (AreReplies no_rows) (histories_of owner parts)
  pub stand : (part : ℕ) → (before : List Entry) × (after : List Entry) × (calls_by worker (slice_index_or (histories_of owner parts) part []) ≡ before ++ entries_at worker part calls ++ after)

-- the answers to these lines, the first under this policy, at a table with these splits, are made of the answers to
-- some calls of the worker with this number, which are entries of the partitions' histories, as `StandIn` says
abbrev pub AreOfHistories : (ℕ → ℕ) → List WitnessedState → ℕ → List Bound → Policy → List Reading → List Answer → Type 0
AreOfHistories owner parts worker splits policy readings answers = (calls : List Call) × StandIn owner parts worker calls × AreMadeOf splits policy readings answers calls

-- The answers of a session over a desk consist of replies in the histories, if the desk's worker is gathered later.
-- The desk is `old` before the session, `new` after it, and `last` when its worker is gathered; `leads` says what a
-- call does to it, and `table` and `worker` give its table and its worker.
abbrev pub AreLinesOfHistories : {D : Type 0} → (D → Call → D → Type 0) → (D → TableState) → (D → WorkerState) → (ℕ → ℕ) → D → Type 0
AreLinesOfHistories {D} leads table worker owner last = (old new : D) (later : List Call) (parts : List WitnessedState) (policy : Policy) (readings : List Reading) (answers : List Answer)
    → Calls leads new later last → IsGathered owner (table last) parts (worker last)
    → AreAnswersOf leads (table old).splits policy old new readings answers
    → AreOfHistories owner parts (worker old).worker (table old).splits policy readings answers
