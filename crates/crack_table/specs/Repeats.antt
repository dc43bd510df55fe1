-- One thread repeats the answers to the workers of a gathered table.
use Rattle.std.specs.Prelude.{◌≡◌, ◌⊎◌, ℕ, ◌<◌, ◌==◌, List, [], ◌∷◌, ◌++◌, length, map, All, Option, Some, None, IfSome, Result, Ok, Err, slice_get, if◌then◌else◌}
use Rattle.crack_row.specs.declared.Bound.{Bound}
use Rattle.crack_row.specs.declared.command.Command.{Command}
use Rattle.crack_row.specs.declared.command.Entry.{Entry}
use Rattle.crack_row.specs.declared.command.Reply.{Reply}
use Rattle.crack_row.specs.declared.limit.Limits.{Limits}
use Rattle.crack_row.specs.declared.refusal.Refusal.{Refusal}
use Rattle.crack_row.specs.declared.refusal.Refusal.TheVariants.{OutOfMemory, NoCell}
use Rattle.crack_plain.specs.Past.{Past, state_after}
use Rattle.crack_plain.specs.Plain.{PlainView}
use Rattle.crack_core.specs.Steps.{mapped}
use Rattle.crack_core.specs.Jobs.{AreExpectedOutcomes}
use Rattle.crack_core.specs.declared.step.Step.{Step}
use Rattle.crack_core.specs.declared.step.Job.TheVariants.{Perform}
use Rattle.crack_core.specs.declared.step.Done.TheVariants.{Replied}
use Rattle.crack_witness.specs.Witnesses.{WitnessedState, past_of}

-- the past of each partition: its base and the entries since
abbrev pub pasts_of : (ℕ → ℕ) → List WitnessedState → List Past
pasts_of owner parts = map (past_of owner) parts

-- the command of an entry
abbrev pub asked : Entry → Command
asked entry = entry.command

-- the commands that a list of steps asks of partition `part`, in order
abbrev pub asked_of : ℕ → List Step → List Command
asked_of part [] = []
asked_of part (step ∷ steps) = if step.part == part then step.command ∷ asked_of part steps else asked_of part steps

-- the replies of partition `part` among the results of a list of steps, up to the first refusal of any partition
abbrev pub replies_of_part : ℕ → List Step → List (Result Reply Refusal) → List Reply
replies_of_part part (step ∷ steps) (Ok reply ∷ results) = if step.part == part then reply ∷ replies_of_part part steps results else replies_of_part part steps results
replies_of_part part _ _ = []

-- the first refusal, if there is one
abbrev pub first_refusal : List (Result Reply Refusal) → Option Refusal
first_refusal [] = None
first_refusal (Ok reply ∷ results) = first_refusal results
first_refusal (Err e ∷ results) = Some e

-- a past as it was after its last checkpoint: the base alone
abbrev pub at_base : Past → Past
at_base past = record { base = past.base; tail = [] }

-- the plain table after a past: its rows, how many commands the base counts, and how many entries the history has
abbrev pub table_of_past : Past → PlainView
table_of_past past = record { state = state_after past; checkpointed = past.base.checkpointed; since = length past.tail }

-- the plain table of a past as it was after its last checkpoint
abbrev pub table_at_base : Past → PlainView
table_at_base past = table_of_past (at_base past)

-- the reply of an entry
abbrev pub said : Entry → Reply
said entry = entry.reply

-- each step asks one of the partitions, and the steps ask of each one the commands of its past's history, in order
pub record AreAsked (pasts : List Past) (steps : List Step) : Type 0 where
  pub there : All (λ (step : Step). step.part < length pasts) steps
  pub commands : (part : ℕ) (past : Past) → slice_get pasts part ≡ Some past → asked_of part steps ≡ map asked past.tail

-- The results are those of the steps. Each partition's replies up to the first refusal of any partition are the first
-- of its past's history, in order; all of them if none is refused. The first refusal is `OutOfMemory` or `NoCell`.
pub record AreRepeated (pasts : List Past) (steps : List Step) (results : List (Result Reply Refusal)) : Type 0 where
  pub whole : first_refusal results ≡ None → (part : ℕ) (past : Past) → slice_get pasts part ≡ Some past → map said past.tail ≡ replies_of_part part steps results
  pub begun : (part : ℕ) (past : Past) → slice_get pasts part ≡ Some past → (rest : List Reply) × (map said past.tail ≡ replies_of_part part steps results ++ rest)
  pub refused : IfSome (first_refusal results) (λ e. (e ≡ OutOfMemory) ⊎ (e ≡ NoCell))

-- A core repeats the replies of these pasts: its plain tables are at first the bases of the pasts, and its steps ask
-- the pasts' commands, those of each partition in order, with the partitions interleaved in any way. The replies are
-- then those of the pasts, up to the first refusal.
abbrev pub Repeats : List Bound → Limits → List Past → Type 0
Repeats splits limits pasts = (steps : List Step) (results : List (Result Reply Refusal)) → AreAsked pasts steps → AreExpectedOutcomes limits splits (map table_at_base pasts) (map Perform steps) (map (mapped Replied) results) → AreRepeated pasts steps results
