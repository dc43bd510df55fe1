-- The calls of a desk, and the answers that a session makes of their outcomes, whether or not the rows are known. A
-- desk is what executes the commands of a session: a table of one thread, or a worker of a shared table.
use Rattle.std.specs.Prelude.{◌≡◌, ℕ, ◌+◌, List, [], ◌∷◌, ◌++◌, ◌⊎◌, length, Option, None, Result, Ok, Err}
use Rattle.crack_row.specs.Ranges.{Range}
use Rattle.crack_row.specs.declared.Bound.{Bound}
use Rattle.crack_row.specs.declared.command.Command.{Command}
use Rattle.crack_row.specs.declared.command.Command.TheVariants.{Insert as AskInsert, Delete as AskDelete, Update as AskUpdate, Count as AskCount, Sum as AskSum, Select as AskSelect}
use Rattle.crack_row.specs.declared.command.Policy.{Policy as MergePolicy}
use Rattle.crack_row.specs.declared.command.Reply.{Reply}
use Rattle.crack_row.specs.declared.layout.Layout.{Layout as PartLayout}
use Rattle.crack_row.specs.declared.refusal.Refusal.{Refusal}
use Rattle.crack_row.specs.declared.refusal.Refusal.TheVariants.{OutOfMemory}
use Rattle.crack_plain.specs.Watching.{no_statistics}
use Rattle.crack_plain.specs.declared.statistics.Statistics.{Statistics}
use Rattle.crack_commands.specs.Grammar.{Reading}
use Rattle.crack_commands.specs.declared.watching.Traffic.{Traffic}
use Rattle.crack_commands.specs.declared.statement.Statement.{Statement}
use Rattle.crack_commands.specs.declared.statement.Statement.TheVariants.{Insert, Delete, Update, Count, Sum, Select, Layout, Checkpoint, Watch, WatchPart, Policy, Ping, End}
use Rattle.crack_core.specs.Routes.{route, parts_of}
use Rattle.crack_session.specs.declared.answer.Answer.{Answer}
use Rattle.crack_session.specs.declared.answer.Answer.TheVariants.{Replied, Counted, Summed, Listed, Laid, CheckpointMade, Numbers, Set, Pong, Refused}
use Rattle.crack_core.specs.declared.turns.PartReply.{PartReply}
use Rattle.crack_core.specs.Asking.{InTurn, total_rows, total_sum}
use Rattle.crack_session.specs.Answers.{answer_from, added_up, farewell}

-- a call of a desk, and its outcome: the partition with this number executes a command under a policy, is checkpointed,
-- or returns its layout (`Looked`) or statistics (`Measured`); or a server's traffic is requested (`Surveyed`)
pub data Call : Type 0 where
  Asked : ℕ → Command → MergePolicy → Result Reply Refusal → Call
  Checkpointed : ℕ → Result ℕ Refusal → Call
  Looked : ℕ → Result PartLayout Refusal → Call
  Measured : ℕ → Result Statistics Refusal → Call
  Surveyed : Option Traffic → Call

-- these calls, in order, lead from the state `old` of a desk to `new`; `leads` says what one call does
abbrev pub Calls : {D : Type 0} → (D → Call → D → Type 0) → D → List Call → D → Type 0
Calls leads old [] new = new ≡ old
Calls {D} leads old (call ∷ calls) new = (between : D) × leads old call between × Calls leads between calls new

-- `calls` is one call: `part` executes this command under this policy; the answer is its reply or its refusal
abbrev pub IsOneAsked : MergePolicy → ℕ → Command → Answer → List Call → Type 0
IsOneAsked policy part command answer calls = (outcome : Result Reply Refusal) × (calls ≡ Asked part command policy outcome ∷ []) × (answer ≡ answer_from (Replied part) outcome)

-- `calls` are those in which the partitions in `parts` execute a query in turn, each the command that `question` makes
-- of the range beside its number; `outcome` has the replies, or the first refusal, after which none is asked
abbrev pub AreAskedInTurn : MergePolicy → (Range → Command) → List (ℕ × Range) → Result (List PartReply) Refusal → List Call → Type 0
AreAskedInTurn policy question parts outcome calls = InTurn (λ (part : ℕ × Range) (reply : Result Reply Refusal) (before after : List Call). after ≡ before ++ Asked part.0 (question part.1) policy reply ∷ []) [] parts outcome calls

-- `calls` are those in which the partitions in `parts` execute a query in turn (`AreAskedInTurn`), and `answer` is what
-- `join` makes of their replies, or the first refusal; or there is no call, and `answer` is `OutOfMemory`, because no
-- memory was found for the replies
abbrev pub AreSeveralAsked : MergePolicy → (Range → Command) → (List PartReply → Answer) → List (ℕ × Range) → Answer → List Call → Type 0
AreSeveralAsked policy question join parts answer calls = ((outcome : Result (List PartReply) Refusal) × AreAskedInTurn policy question parts outcome calls × (answer ≡ answer_from join outcome)) ⊎ ((answer ≡ Refused OutOfMemory) × (calls ≡ []))

-- the answer to a query is made of exactly these calls, of the partitions in `parts`, each over the range beside its
-- number: one call if there is a single partition (`IsOneAsked`), else as `AreSeveralAsked` says
abbrev pub ArePartsAsked : MergePolicy → (Range → Command) → (List PartReply → Answer) → List (ℕ × Range) → Answer → List Call → Type 0
ArePartsAsked policy question join (part ∷ []) answer calls = IsOneAsked policy part.0 (question part.1) answer calls
ArePartsAsked policy question join parts answer calls = AreSeveralAsked policy question join parts answer calls

-- the calls in which the partitions from `part` on return these statistics, one after the other
abbrev pub measured_from : ℕ → List Statistics → List Call
measured_from part [] = []
measured_from part (one ∷ each) = Measured part (Ok one) ∷ measured_from (part + 1) each

-- `calls` request the statistics of `count` partitions in turn, from 0 up: the result is their sum; or one is refused:
-- then this is the last call, and the refusal is the result
abbrev pub AreMeasured : ℕ → Result Statistics Refusal → List Call → Type 0
AreMeasured count (Ok statistics) calls = (each : List Statistics) × (statistics ≡ added_up no_statistics each) × (length each ≡ count) × (calls ≡ measured_from 0 each)
AreMeasured count (Err e) calls = (each : List Statistics) × (calls ≡ measured_from 0 each ++ Measured (length each) (Err e) ∷ [])

-- The calls `front` had this result. If it is the statistics of a table, `calls` are `front` and a request for the
-- traffic of the server, and the answer has both. If it is a refusal, this is the answer, and `calls` are `front`.
abbrev pub IsSurveyed : Result Statistics Refusal → List Call → Answer → List Call → Type 0
IsSurveyed (Ok statistics) front answer calls = (traffic : Option Traffic) × (answer ≡ Numbers statistics traffic) × (calls ≡ front ++ Surveyed traffic ∷ [])
IsSurveyed (Err e) front answer calls = (answer ≡ Refused e) × (calls ≡ front)

-- `calls` request the statistics of all partitions in turn, and then the traffic of the server: the answer has their
-- sum and the traffic; or the first refusal is the answer and ends the calls
abbrev pub AreAllMeasured : List Bound → Answer → List Call → Type 0
AreAllMeasured splits answer calls = (outcome : Result Statistics Refusal) × (front : List Call) × AreMeasured (length splits + 1) outcome front × IsSurveyed outcome front answer calls

-- the answer to a statement is made of the outcomes of exactly these calls, under this policy: one call of the
-- partition that its key, row number or partition number names; for a range, one of each partition that holds a part of
-- it; for `stats` alone, one of each partition and one for the traffic; none for `policy`, `ping` and a line that ends
-- the session. Counts, sums and statistics are added, and rows are listed one partition after another.
abbrev pub IsMadeOf : List Bound → MergePolicy → Statement → Answer → List Call → Type 0
IsMadeOf splits policy (Insert key payload) answer calls = IsOneAsked policy (route splits key.0) (AskInsert key payload) answer calls
IsMadeOf splits policy (Delete row) answer calls = IsOneAsked policy row.part (AskDelete row.serial) answer calls
IsMadeOf splits policy (Update row key payload) answer calls = IsOneAsked policy row.part (AskUpdate row.serial key payload) answer calls
IsMadeOf splits policy (Count range) answer calls = ArePartsAsked policy (λ part. AskCount part) (λ replies. Counted (total_rows replies)) (parts_of splits range) answer calls
IsMadeOf splits policy (Sum range) answer calls = ArePartsAsked policy (λ part. AskSum part) (λ replies. Summed (total_sum replies)) (parts_of splits range) answer calls
IsMadeOf splits policy (Select range) answer calls = ArePartsAsked policy (λ part. AskSelect part) (λ replies. Listed (total_rows replies) replies) (parts_of splits range) answer calls
IsMadeOf splits policy (Layout part) answer calls = (outcome : Result PartLayout Refusal) × (calls ≡ Looked part outcome ∷ []) × (answer ≡ answer_from (Laid part) outcome)
IsMadeOf splits policy (Checkpoint part) answer calls = (outcome : Result ℕ Refusal) × (calls ≡ Checkpointed part outcome ∷ []) × (answer ≡ answer_from CheckpointMade outcome)
IsMadeOf splits policy Watch answer calls = AreAllMeasured splits answer calls
IsMadeOf splits policy (WatchPart part) answer calls = (outcome : Result Statistics Refusal) × (calls ≡ Measured part outcome ∷ []) × (answer ≡ answer_from (λ statistics. Numbers statistics None) outcome)
IsMadeOf splits policy (Policy other) answer calls = (answer ≡ Set other) × (calls ≡ [])
IsMadeOf splits policy Ping answer calls = (answer ≡ Pong) × (calls ≡ [])
IsMadeOf splits policy (End ending) answer calls = (answer ≡ farewell ending) × (calls ≡ [])

-- the answer to a parsed line is made of exactly these calls: those for its statement, or none if it is no statement
abbrev pub IsReadingMadeOf : List Bound → MergePolicy → Reading → Answer → List Call → Type 0
IsReadingMadeOf splits policy (Err e) answer calls = (answer ≡ Refused e) × (calls ≡ [])
IsReadingMadeOf splits policy (Ok statement) answer calls = IsMadeOf splits policy statement answer calls

-- the session's policy after an answer: the one that a `policy` statement set, or else the one before it
abbrev pub policy_after : MergePolicy → Answer → MergePolicy
policy_after policy (Set next) = next
policy_after policy _ = policy

-- the answers to parsed lines are made of exactly these calls, in order, under this policy until an answer sets another
abbrev pub AreMadeOf : List Bound → MergePolicy → List Reading → List Answer → List Call → Type 0
AreMadeOf splits policy [] [] calls = calls ≡ []
AreMadeOf splits policy (reading ∷ readings) (answer ∷ answers) calls = (here : List Call) × (rest : List Call) × (calls ≡ here ++ rest) × IsReadingMadeOf splits policy reading answer here × AreMadeOf splits (policy_after policy answer) readings answers rest
AreMadeOf splits policy _ _ calls = ⊥

-- the answers to these lines are made of exactly the calls that lead a desk from `old` to `new`, as `AreMadeOf` says
abbrev pub AreAnswersOf : {D : Type 0} → (D → Call → D → Type 0) → List Bound → MergePolicy → D → D → List Reading → List Answer → Type 0
AreAnswersOf leads splits policy old new readings answers = (calls : List Call) × Calls leads old calls new × AreMadeOf splits policy readings answers calls
