-- What a session answers to a statement, and the text of the answer. `bounds` is what the table's limits mean for a
-- partition, `splits` are the table's splits, `tables` and `new` the plain tables of all partitions before and after.
use Rattle.std.specs.Fmt.{signed_decimal}
use Rattle.std.specs.List.{flat_map, list_any}
use Rattle.std.specs.Prelude.{◌≡◌, ℕ, Bool, false, List, [], ◌∷◌, ◌++◌, ◌⊎◌, Option, None, Result, Ok, Err, codes, decimal, slice_get, ◌==◌}
use Rattle.crack_row.specs.Ranges.{Range}
use Rattle.crack_row.specs.Refusals.{code_of}
use Rattle.crack_row.specs.declared.Bound.{Bound}
use Rattle.crack_row.specs.declared.command.Command.{Command}
use Rattle.crack_row.specs.declared.command.Command.TheVariants.{Insert as AskInsert, Delete as AskDelete, Update as AskUpdate}
use Rattle.crack_row.specs.declared.command.Reply.{Reply}
use Rattle.crack_row.specs.declared.layout.Layout.{Layout as PartLayout}
use Rattle.crack_row.specs.declared.refusal.Refusal.{Refusal}
use Rattle.crack_row.specs.declared.refusal.Refusal.TheVariants.{OutOfMemory, BadStatement}
use Rattle.crack_plain.specs.Plain.{PlainView, checkpointed_table}
use Rattle.crack_plain.specs.Watching.{AreNumbersOf, no_statistics, together}
use Rattle.crack_plain.specs.declared.statistics.Statistics.{Statistics}
use Rattle.crack_commands.specs.Grammar.{Reading}
use Rattle.crack_commands.specs.Watching.{numbers_text}
use Rattle.crack_commands.specs.declared.watching.Traffic.{Traffic}
use Rattle.crack_commands.specs.Texts.{line_text, reply_text, row_text, layout_text, policy_text, refusal_text}
use Rattle.crack_commands.specs.declared.statement.Statement.{Statement}
use Rattle.crack_commands.specs.declared.statement.Statement.TheVariants.{Insert, Delete, Update, Count, Sum, Select, Layout, Checkpoint, Watch, WatchPart, Policy, Ping, End}
use Rattle.crack_commands.specs.declared.statement.ClosingLine.{ClosingLine}
use Rattle.crack_commands.specs.declared.statement.ClosingLine.TheVariants.{Quit, Http}
use Rattle.crack_session.specs.declared.answer.Answer.{Answer}
use Rattle.crack_session.specs.declared.answer.Answer.TheVariants.{Replied, Counted, Summed, Listed, Laid, CheckpointMade, Numbers, Set, Pong, Refused, Bye}
use Rattle.crack_core.specs.declared.turns.PartReply.{PartReply}
use Rattle.crack_core.specs.Asking.{InTurn, asking}
use Rattle.crack_core.specs.Listing.{rows_listed}
use Rattle.crack_core.specs.declared.asking.Query.{Query}
use Rattle.crack_core.specs.declared.asking.Query.TheVariants.{CountRows, SumPayloads, SelectRows}
use Rattle.crack_session.specs.Queries.{joint_answer}
use Rattle.crack_core.specs.Routes.{keys_of_part, route, parts_of}
use Rattle.crack_core.specs.Steps.{Bounds, IsOutcomeAt, IsLayoutOutcome, IsStatisticsOutcome, IsCheckpointOutcome, tables_after, changed_at}

-- the answer to an outcome: what the function makes of its value, or `Refused` with its refusal
abbrev pub answer_from : {X : Type 0} → (X → Answer) → Result X Refusal → Answer
answer_from answer (Ok x) = answer x
answer_from answer (Err e) = Refused e

-- The partition `part` executes a command, as `IsOutcomeAt` and `tables_after` say: `answer` is its reply or refusal.
pub record IsAsked (bounds : Bounds) (splits : List Bound) (tables : List PlainView) (part : ℕ) (command : Command) (answer : Answer) (new : List PlainView) : Type 0 where
  pub outcome : Result Reply Refusal
  pub comes_out : IsOutcomeAt bounds splits tables part command outcome
  pub answer_is : answer ≡ answer_from (Replied part) outcome
  pub new_is : new ≡ tables_after bounds tables part command outcome

-- the partitions in `parts` execute a query in turn, each over the range beside its number: `outcome` has their
-- replies, or the first refusal, after which no partition is asked
abbrev pub QueriesInTurn : Bounds → List Bound → Query → List PlainView → List (ℕ × Range) → Result (List PartReply) Refusal → List PlainView → Type 0
QueriesInTurn bounds splits query tables parts outcome new = InTurn (λ (part : ℕ × Range) (reply : Result Reply Refusal) (before after : List PlainView). IsOutcomeAt bounds splits before part.0 (asking query part.1) reply × (after ≡ tables_after bounds before part.0 (asking query part.1) reply)) tables parts outcome new

-- The partitions in `parts` execute a query in turn (`QueriesInTurn`): `answer` is their `joint_answer`, or the first
-- refusal.
pub record IsJoined (bounds : Bounds) (splits : List Bound) (tables : List PlainView) (query : Query) (parts : List (ℕ × Range)) (answer : Answer) (new : List PlainView) : Type 0 where
  pub outcome : Result (List PartReply) Refusal
  pub asked : QueriesInTurn bounds splits query tables parts outcome new
  pub answer_is : answer ≡ answer_from (joint_answer query) outcome

-- A query is asked of the partitions in the list, each over the range beside its number. A single one executes it as
-- one command (`IsAsked`). Several execute it in turn (`IsJoined`); or, if no memory is found for their replies, none
-- does, the answer is `OutOfMemory`, and the tables are unchanged.
abbrev pub AsksParts : Bounds → List Bound → List PlainView → Query → List (ℕ × Range) → Answer → List PlainView → Type 0
AsksParts bounds splits tables query (part ∷ []) answer new = IsAsked bounds splits tables part.0 (asking query part.1) answer new
AsksParts bounds splits tables query parts answer new = IsJoined bounds splits tables query parts answer new ⊎ ((answer ≡ Refused OutOfMemory) × (new ≡ tables))

-- The layout of partition `part` is requested: the answer is a layout of its keys with as many rows as its plain table
-- has, or a refusal (`IsLayoutOutcome`).
pub record IsLaidOut (splits : List Bound) (tables : List PlainView) (part : ℕ) (answer : Answer) : Type 0 where
  pub outcome : Result PartLayout Refusal
  pub comes_out : IsLayoutOutcome (keys_of_part splits part) (slice_get tables part) outcome
  pub answer_is : answer ≡ answer_from (Laid part) outcome

-- The statistics of the partition `part` are requested: `answer` has statistics with the numbers of rows and of
-- commands of its plain table, or is the refusal `NoSuchPartition`.
pub record IsWatched (tables : List PlainView) (part : ℕ) (answer : Answer) : Type 0 where
  pub outcome : Result Statistics Refusal
  pub comes_out : IsStatisticsOutcome (slice_get tables part) outcome
  pub answer_is : answer ≡ answer_from (λ statistics. Numbers statistics None) outcome

-- both lists are equally long, and the statistics at a place have the numbers of rows and commands of its table
abbrev pub AreNumbersOfEach : List PlainView → List Statistics → Type 0
AreNumbersOfEach [] [] = Unit {0}
AreNumbersOfEach (table ∷ tables) (one ∷ each) = AreNumbersOf table one × AreNumbersOfEach tables each
AreNumbersOfEach tables each = ⊥

-- the statistics `sum`, with each of the listed statistics added
abbrev pub added_up : Statistics → List Statistics → Statistics
added_up sum [] = sum
added_up sum (one ∷ each) = added_up (together sum one) each

-- The statistics of all partitions are requested: `answer` has the sum of one statistics for each partition, as
-- `AreNumbersOfEach` requires them, and any `Traffic` of a server, or `None`.
pub record AreWatched (tables : List PlainView) (answer : Answer) : Type 0 where
  pub each : List Statistics
  pub right : AreNumbersOfEach tables each
  pub traffic : Option Traffic
  pub answer_is : answer ≡ Numbers (added_up no_statistics each) traffic

-- A checkpoint of the partition `part` is made: `answer` has the number of commands that it accepted since its previous
-- one, and this number is 0 in the plain tables `new`; or `answer` is a refusal, and `new` are the old tables.
pub record IsCheckpointAnswer (tables : List PlainView) (part : ℕ) (answer : Answer) (new : List PlainView) : Type 0 where
  pub outcome : Result ℕ Refusal
  pub comes_out : IsCheckpointOutcome (slice_get tables part) outcome
  pub answer_is : answer ≡ answer_from CheckpointMade outcome
  pub new_is : new ≡ changed_at checkpointed_table tables part outcome

-- the answer to a line that ends a session: `Bye` to `quit`, and the refusal `BadStatement` to a line of HTTP
abbrev pub farewell : ClosingLine → Answer
farewell Quit = Bye
farewell Http = Refused BadStatement

-- `answer` is an answer to a statement: an insert goes to the partition of its key, a delete or update to that in its
-- row number, and a query to each that holds a part of its range; no other statement changes rows
abbrev pub IsAnswerTo : Bounds → List Bound → List PlainView → Statement → Answer → List PlainView → Type 0
IsAnswerTo bounds splits tables (Insert key payload) answer new = IsAsked bounds splits tables (route splits key.0) (AskInsert key payload) answer new
IsAnswerTo bounds splits tables (Delete row) answer new = IsAsked bounds splits tables row.part (AskDelete row.serial) answer new
IsAnswerTo bounds splits tables (Update row key payload) answer new = IsAsked bounds splits tables row.part (AskUpdate row.serial key payload) answer new
IsAnswerTo bounds splits tables (Count range) answer new = AsksParts bounds splits tables CountRows (parts_of splits range) answer new
IsAnswerTo bounds splits tables (Sum range) answer new = AsksParts bounds splits tables SumPayloads (parts_of splits range) answer new
IsAnswerTo bounds splits tables (Select range) answer new = AsksParts bounds splits tables SelectRows (parts_of splits range) answer new
IsAnswerTo bounds splits tables (Layout part) answer new = IsLaidOut splits tables part answer × (new ≡ tables)
IsAnswerTo bounds splits tables (Checkpoint part) answer new = IsCheckpointAnswer tables part answer new
IsAnswerTo bounds splits tables Watch answer new = AreWatched tables answer × (new ≡ tables)
IsAnswerTo bounds splits tables (WatchPart part) answer new = IsWatched tables part answer × (new ≡ tables)
IsAnswerTo bounds splits tables (Policy policy) answer new = (answer ≡ Set policy) × (new ≡ tables)
IsAnswerTo bounds splits tables Ping answer new = (answer ≡ Pong) × (new ≡ tables)
IsAnswerTo bounds splits tables (End ending) answer new = (answer ≡ farewell ending) × (new ≡ tables)

-- `answer` is an answer to a parsed line: if the line was refused, it is this refusal, and no table changes; else it
-- is an answer to the statement (`IsAnswerTo`)
abbrev pub IsAnswer : Bounds → List Bound → List PlainView → Reading → Answer → List PlainView → Type 0
IsAnswer bounds splits tables (Err e) answer new = (answer ≡ Refused e) × (new ≡ tables)
IsAnswer bounds splits tables (Ok statement) answer new = IsAnswerTo bounds splits tables statement answer new

-- whether a refusal is for lack of room: `HistoryFull`, `OutOfMemory`, `NoCell` or `LifeOver`
abbrev pub is_short : Refusal → Bool
is_short refusal = list_any (λ code. code == code_of refusal) (6 ∷ 8 ∷ 9 ∷ 10 ∷ [])

-- whether an answer is a refusal for lack of room
abbrev pub is_short_answer : Answer → Bool
is_short_answer (Refused e) = is_short e
is_short_answer _ = false

-- the text of an answer, as the session writes it
unfoldable pub answer_text : Answer → List ℕ
answer_text (Replied part reply) = reply_text part reply
answer_text (Counted total) = line_text (codes "count ") (decimal total)
answer_text (Summed total) = line_text (codes "sum ") (signed_decimal total)
answer_text (Listed total lists) = line_text (codes "rows ") (decimal total) ++ flat_map (λ (r : PartReply). flat_map (row_text r.part) (rows_listed r.reply)) lists
answer_text (Laid part layout) = layout_text part layout
answer_text (CheckpointMade count) = line_text (codes "folded ") (decimal count)
answer_text (Numbers statistics traffic) = numbers_text statistics traffic
answer_text (Set policy) = policy_text policy
answer_text Pong = codes "pong\n"
answer_text (Refused e) = refusal_text e
answer_text Bye = codes "bye\n"
