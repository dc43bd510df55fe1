-- The answers to one command, and to queries about a range over all partitions. `limits` are those of each partition,
-- and `splits` the bounds between their keys. `old` are the partitions, or the state, before, `new` those after.
use Rattle.std.specs.Prelude.{◌≡◌, ◌≢◌, ◌⊎◌, ℕ, ◌≤◌, ℤ, pos, Bool, true, List, [], ◌∷◌, length, Option, Result, Ok, Err, IfOk, IfErr, IsSomeAnd, slice_get, sum_by, if◌then◌else◌}
use Rattle.std.specs.Option.{option_map_or}
use Rattle.crack_row.specs.Ranges.{Range}
use Rattle.crack_row.specs.Rows.{total_by}
use Rattle.crack_row.specs.declared.Bound.{Bound}
use Rattle.crack_row.specs.declared.Key.{Key}
use Rattle.crack_row.specs.declared.Payload.{Payload}
use Rattle.crack_row.specs.declared.Row.{Row}
use Rattle.crack_row.specs.declared.RowNo.{RowNo}
use Rattle.crack_row.specs.declared.limit.Limits.{Limits}
use Rattle.crack_row.specs.declared.command.Command.{Command}
use Rattle.crack_row.specs.declared.command.Command.TheVariants.{Insert, Delete, Update, Count, Sum, Select}
use Rattle.crack_row.specs.declared.command.Policy.{Policy}
use Rattle.crack_row.specs.declared.command.Policy.TheVariants.{Gradual}
use Rattle.crack_row.specs.declared.command.Reply.{Reply}
use Rattle.crack_row.specs.declared.command.Reply.TheVariants.{Placed, Gone, Changed, NoRow, Counted, Summed, Rows}
use Rattle.crack_row.specs.declared.refusal.Refusal.{Refusal}
use Rattle.crack_row.specs.declared.refusal.Refusal.TheVariants.{OutOfMemory, HistoryFull, NoCell}
use Rattle.crack_plain.specs.Plain.{PlainView}
use Rattle.crack_part.specs.Parts.{Part}
use Rattle.crack_part.specs.Upkeep.{is_automatic}
use Rattle.crack_core.specs.Cores.{CoreState}
use Rattle.crack_core.specs.Routes.{route, parts_of}
use Rattle.crack_core.specs.Steps.{bounds_from, mapped, IsOutcomeAt, tables_of, tables_after}
use Rattle.crack_core.specs.Jobs.{DoesStep}
use Rattle.crack_core.specs.declared.step.Step.{Step}
use Rattle.crack_core.specs.declared.asking.Query.{Query}
use Rattle.crack_core.specs.declared.asking.Query.TheVariants.{CountRows, SumPayloads, SelectRows}
use Rattle.crack_core.specs.declared.turns.PartReply.{PartReply}

-- the step that asks the partition with this number this command, and merges pending rows for it by this policy
abbrev pub step_at : Policy → ℕ → Command → Step
step_at policy part command = record { part = part; command = command; policy = policy }

-- what an outcome must be if upkeep is automatic: it isn't `HistoryFull`, and it is `NoCell` only if `table`, the
-- asked partition's plain table before the call, exists and has at least as many rows as the limits allow cells
abbrev pub Lasts : Limits → Option PlainView → Result Reply Refusal → Type 0
Lasts limits table outcome = ((entries : ℕ) → outcome ≢ Err (HistoryFull entries)) × (outcome ≡ Err NoCell → IsSomeAnd table (λ (t : PlainView). limits.cells ≤ length t.state.rows))

-- One partition is asked by `step`. The outcome is one that `IsOutcomeAt` allows and, if upkeep is automatic, one that
-- `Lasts` allows. An answered command changes its partition's plain rows and is counted there, a refusal changes no
-- plain table, and stores change as `DoesStep` says.
pub record Asks (limits : Limits) (splits : List Bound) (step : Step) (outcome : Result Reply Refusal) (old new : List Part) : Type 0 where
  pub comes_out : IsOutcomeAt (bounds_from limits) splits (tables_of old) step.part step.command outcome
  pub leaves : tables_of new ≡ tables_after (bounds_from limits) (tables_of old) step.part step.command outcome
  pub makes : DoesStep splits limits step outcome old new
  pub lasts : is_automatic limits.upkeep ≡ true → Lasts limits (slice_get (tables_of old) step.part) outcome

-- a row is inserted into the partition of its key; the result is its row number, or why it is refused
pub record Inserts (limits : Limits) (splits : List Bound) (key : Key) (payload : Payload) (result : Result RowNo Refusal) (old new : List Part) : Type 0 where
  pub asks : Asks limits splits (step_at Gradual (route splits key.0) (Insert key payload)) (mapped (λ (row : RowNo). Placed row.serial) result) old new
  pub part : IfOk result (λ row. row.part ≡ route splits key.0)

-- the row with this number is deleted; the result is that row as it was, `None` if there is none, or a refusal
abbrev pub Deletes : Limits → List Bound → RowNo → Result (Option Row) Refusal → List Part → List Part → Type 0
Deletes limits splits row result old new = Asks limits splits (step_at Gradual row.part (Delete row.serial)) (mapped (λ (row : Option Row). option_map_or Gone row NoRow) result) old new

-- the row with this number, if it exists, gets this key and payload; the result is whether it exists, or a refusal
abbrev pub Updates : Limits → List Bound → RowNo → Key → Payload → Result Bool Refusal → List Part → List Part → Type 0
Updates limits splits row key payload result old new = Asks limits splits (step_at Gradual row.part (Update row.serial key payload)) (mapped (λ (found : Bool). if found then Changed else NoRow) result) old new

-- the command by which a partition is asked this query about this range
abbrev pub asking : Query → Range → Command
asking CountRows range = Count range
asking SumPayloads range = Sum range
asking SelectRows range = Select range

-- the core's partition with this number executes this command, with this outcome; splits and limits are unchanged
abbrev pub AsksCore : CoreState → ℕ → Command → Policy → Result Reply Refusal → CoreState → Type 0
AsksCore old part command policy outcome new = Asks old.limits old.splits (step_at policy part command) outcome old.parts new.parts × (new.splits ≡ old.splits) × (new.limits ≡ old.limits)

-- The partitions in the list, each given with its part of a range, are asked in order. The result is their replies, or
-- the first refusal, after which no other partition is asked. The first argument, `Asks`, is the effect of asking one:
-- it relates the number and the part, the outcome, and the states before and after.
abbrev pub InTurn : {S : Type 0} → (ℕ × Range → Result Reply Refusal → S → S → Type 0) → S → List (ℕ × Range) → Result (List PartReply) Refusal → S → Type 0
InTurn Asks old [] result new = (result ≡ Ok []) × (new ≡ old)
InTurn {S} Asks old (part ∷ parts) result new =
    ((reply : Reply) × (between : S) × Asks part (Ok reply) old between × (rest : Result (List PartReply) Refusal) × InTurn Asks between parts rest new × (result ≡ mapped (λ replies. record { part = part.0; reply = reply } ∷ replies) rest))
    ⊎ ((e : Refusal) × Asks part (Err e) old new × (result ≡ Err e))

-- These partitions are asked in order (`InTurn`), with the result `said`: each, under one policy, the command that
-- `question` makes of its part of the range. The effect of one call is `asks`, as in the trait `AskPart`.
abbrev pub AsksEach : {S : Type 0} → (S → ℕ → Command → Policy → Result Reply Refusal → S → Type 0) → Policy → (Range → Command) → S → List (ℕ × Range) → Result (List PartReply) Refusal → S → Type 0
AsksEach {S} asks policy question old parts said new = InTurn (λ (part : ℕ × Range) (outcome : Result Reply Refusal) (between after : S). asks between part.0 (question part.1) policy outcome after) old parts said new

-- These partitions are asked in order (`InTurn`), with the result `said`: each, under one policy, the command that
-- `question` makes of its part of the range. The effect of one call is `Asks`.
abbrev pub AsksInTurn : Limits → List Bound → Policy → (Range → Command) → List Part → List (ℕ × Range) → Result (List PartReply) Refusal → List Part → Type 0
AsksInTurn limits splits policy question old parts said new = InTurn (λ (part : ℕ × Range) (outcome : Result Reply Refusal) (between after : List Part). Asks limits splits (step_at policy part.0 (question part.1)) outcome between after) old parts said new

-- The partitions that `parts_of` gives for `range` are asked in order, under `policy`, each the command that
-- `question` makes of its part. The result is a value that `comes_to` relates to their replies; or the first refusal;
-- or `OutOfMemory` before any is asked.
pub record ReadsParts {X : Type 0} (limits : Limits) (splits : List Bound) (policy : Policy) (question : Range → Command) (comes_to : List PartReply → X → Type 0) (range : Range) (result : Result X Refusal) (old new : List Part) : Type 0 where
  pub ok : IfOk result (λ x. (said : List PartReply) × AsksInTurn limits splits policy question old (parts_of splits range) (Ok said) new × comes_to said x)
  pub err : IfErr result (λ e. AsksInTurn limits splits policy question old (parts_of splits range) (Err e) new ⊎ ((e ≡ OutOfMemory) × (new ≡ old)))

-- how many rows the reply to a count or a select has; 0 for any other reply
abbrev pub counted : Reply → ℕ
counted (Counted count) = count
counted (Rows rows) = length rows
counted _ = 0

-- the sum in the reply to a sum; 0 for any other reply
abbrev pub summed : Reply → ℤ
summed (Summed sum) = sum
summed _ = pos 0

-- how many rows these replies count or list in total; a reply of another kind adds 0
abbrev pub total_rows : List PartReply → ℕ
total_rows replies = sum_by (λ (r : PartReply). counted r.reply) replies

-- the total of the sums in these replies; a reply of another kind adds 0
abbrev pub total_sum : List PartReply → ℤ
total_sum replies = total_by (λ (r : PartReply). summed r.reply) replies

-- a range's rows are counted under this policy: the result is the total of its partitions' counts, or a refusal
abbrev pub CountsRange : Limits → List Bound → Policy → Range → Result ℕ Refusal → List Part → List Part → Type 0
CountsRange limits splits policy range result old new = ReadsParts limits splits policy (λ part. Count part) (λ said count. count ≡ total_rows said) range result old new

-- a range's payloads are summed under this policy: the result is the total of its partitions' sums, or a refusal
abbrev pub Sums : Limits → List Bound → Policy → Range → Result ℤ Refusal → List Part → List Part → Type 0
Sums limits splits policy range result old new = ReadsParts limits splits policy (λ part. Sum part) (λ said sum. sum ≡ total_sum said) range result old new
