-- What private clauses alone cite.
-- `bounds`, `splits`, `tables` and `leads` are those of the trait `Desk`: what the limits mean for a partition, the
-- splits, the plain tables of all partitions (`None` if they aren't known), and the effect of one call.
use Rattle.std.specs.Prelude.{◌≡◌, ℕ, ◌+◌, ◌⊎◌, List, [], ◌∷◌, Option, None, Some, Result}
use Rattle.crack_row.specs.declared.Bound.{Bound}
use Rattle.crack_row.specs.declared.command.Command.{Command}
use Rattle.crack_row.specs.declared.command.Policy.{Policy}
use Rattle.crack_row.specs.declared.command.Reply.{Reply}
use Rattle.crack_row.specs.declared.refusal.Refusal.{Refusal}
use Rattle.crack_plain.specs.Plain.{PlainView}
use Rattle.crack_commands.specs.Grammar.{Reading}
use Rattle.crack_session.specs.declared.answer.Answer.{Answer}
use Rattle.crack_row.specs.Ranges.{Range}
use Rattle.crack_row.specs.declared.refusal.Refusal.TheVariants.{OutOfMemory}
use Rattle.crack_session.specs.declared.answer.Answer.TheVariants.{Refused}
use Rattle.crack_core.specs.declared.turns.PartReply.{PartReply}
use Rattle.crack_core.specs.declared.asking.Query.{Query}
use Rattle.crack_session.specs.Answers.{IsJoined}
use Rattle.crack_session.specs.Calls.{Call, Asked, Calls}
use Rattle.crack_core.specs.Steps.{Bounds, IsOutcomeAt, tables_after}

-- A desk gets from the state `old` to `new` by calls that satisfy `AreSuch`. Its tables, if they are known, change as
-- `IsChange` says. Its bounds and splits stay the same. `leads` is the effect of one call.
pub record AsksDesk {D : Type 0} (bounds : D → Bounds) (splits : D → List Bound) (tables : D → Option (List PlainView)) (leads : D → Call → D → Type 0) (IsChange : Bounds → List Bound → List PlainView → List PlainView → Type 0) (AreSuch : List Bound → List Call → Type 0) (old new : D) : Type 0 where
  pub is : (known : List PlainView) → tables old ≡ Some known → (next : List PlainView) × IsChange (bounds old) (splits old) known next × (tables new ≡ Some next)
  pub bounds_are : bounds new ≡ bounds old
  pub splits_are : splits new ≡ splits old
  pub calls : List Call
  pub were : Calls leads old calls new
  pub made : AreSuch (splits old) calls

-- A desk gets from `old` to `new` by one call: the partition `part` executes a command under a policy, with this
-- outcome. Its tables, if they are known, change as the outcome says. Its bounds and splits stay the same.
pub record AsksOnce {D : Type 0} (bounds : D → Bounds) (splits : D → List Bound) (tables : D → Option (List PlainView)) (leads : D → Call → D → Type 0) (part : ℕ) (command : Command) (policy : Policy) (outcome : Result Reply Refusal) (old new : D) : Type 0 where
  pub comes_out : (known : List PlainView) → tables old ≡ Some known → IsOutcomeAt (bounds old) (splits old) known part command outcome
  pub after : (known : List PlainView) → tables old ≡ Some known → tables new ≡ Some (tables_after (bounds old) known part command outcome)
  pub bounds_are : bounds new ≡ bounds old
  pub splits_are : splits new ≡ splits old
  pub led : leads old (Asked part command policy outcome) new

-- The partitions in `parts` execute a query in turn (`IsJoined`), and the tables become `new`; or none does, for lack
-- of memory for their replies: the answer is `OutOfMemory`, and `new` are the same tables.
abbrev pub AsksSeveral : Bounds → List Bound → List PlainView → Query → List (ℕ × Range) → Answer → List PlainView → Type 0
AsksSeveral bounds splits tables query parts answer new = IsJoined bounds splits tables query parts answer new ⊎ ((answer ≡ Refused OutOfMemory) × (new ≡ tables))

-- a parsed line as a list, empty if the line is blank
abbrev pub of_option : Option Reading → List Reading
of_option None = []
of_option (Some reading) = reading ∷ []
