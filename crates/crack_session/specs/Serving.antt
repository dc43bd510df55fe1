-- The state that `serve` leaves, whatever its devices do. `bounds`, `splits`, `tables` and `leads` are those of the
-- trait `Desk`; `old` and `new` are the desk before and after.
use Rattle.std.specs.Prelude.{◌≡◌, ℕ, ◌+◌, ◌-◌, ◌^◌, ◌≤◌, ◌⊎◌, min, Bool, true, List, [], ◌++◌, length, map, take, Option, Some, if◌then◌else◌}
use Rattle.std.specs.List.{concat, list_any}
use Rattle.std.specs.Io.KnownBytes.{Appends}
use Rattle.crack_row.specs.declared.Bound.{Bound}
use Rattle.crack_row.specs.declared.command.Policy.{Policy}
use Rattle.crack_row.specs.declared.refusal.Refusal.{Refusal}
use Rattle.crack_row.specs.declared.refusal.Refusal.TheVariants.{ReadFault, WriteFault}
use Rattle.crack_plain.specs.Plain.{PlainView}
use Rattle.crack_commands.specs.Grammar.{Reading}
use Rattle.crack_core.specs.Steps.{Bounds}
use Rattle.crack_session.specs.declared.TheConstants.{OUTPUT_BYTES}
use Rattle.crack_session.specs.declared.answer.Answer.{Answer}
use Rattle.crack_session.specs.declared.session.SessionEnd.{SessionEnd}
use Rattle.crack_session.specs.declared.session.Fault.{Fault}
use Rattle.crack_session.specs.declared.session.How.TheVariants.{Quit, InputEnded}
use Rattle.crack_session.specs.Answers.{answer_text}
use Rattle.crack_session.specs.Calls.{Call, AreAnswersOf}
use Rattle.crack_session.specs.Feeding.{IsLeftOf}
use Rattle.crack_session.specs.Readings.{statements, is_last}
use Rattle.crack_session.specs.Sessions.{AreAnswers, first_short, whole_lines}

-- These lines are answered in order, the first under `policy`: the answers are made of exactly the calls that lead the
-- desk from `old` to `new`. If its plain tables are known, `AreAnswers` holds for them and the answers.
pub record AreAllAnswered {D : Type 0} (bounds : D → Bounds) (splits : D → List Bound) (tables : D → Option (List PlainView)) (leads : D → Call → D → Type 0) (policy : Policy) (old new : D) (readings : List Reading) (answers : List Answer) : Type 0 where
  pub made : AreAnswersOf leads (splits old) policy old new readings answers
  pub if_known : (known : List PlainView) → tables old ≡ Some known → (next : List PlainView) × AreAnswers (bounds old) (splits old) known readings answers next × (tables new ≡ Some next)

-- A session ended, as `end` reports. It answered all statements of some bytes, which are the reader's bytes `known` if
-- these are known, and appended the texts of the answers to the writer's contents `out`, which became `written`.
pub record IsServed {D : Type 0} (bounds : D → Bounds) (splits : D → List Bound) (tables : D → Option (List PlainView)) (leads : D → Call → D → Type 0) (policy : Policy) (old new : D) (known out written : Option (List ℕ)) (end : SessionEnd) : Type 0 where
  pub bytes : List ℕ
  pub bytes_are : (all : List ℕ) → known ≡ Some all → bytes ≡ all
  pub answers : List Answer
  pub are : AreAllAnswered bounds splits tables leads policy old new (statements bytes) answers
  pub count_is : end.statements ≡ length answers
  pub how_is : end.how ≡ (if list_any is_last (statements bytes) then Quit else InputEnded)
  pub short_is : end.first_short ≡ first_short answers
  pub written_is : Appends out written (concat (map answer_text answers))

-- A session was cut off: it answered the first statements of some bytes, which are the reader's bytes `known` if these
-- are known. With `ReadFault`, it answered exactly the statements in the whole lines that were read, and wrote all
-- texts of the answers; `left` are the bytes that weren't read. With `WriteFault`, it wrote a prefix of the texts: what
-- is missing is at most what the output holds, and the rest of the last answer's text.
pub record IsCutOff {D : Type 0} (bounds : D → Bounds) (splits : D → List Bound) (tables : D → Option (List PlainView)) (leads : D → Call → D → Type 0) (policy : Policy) (old new : D) (known left out written : Option (List ℕ)) (fault : Fault) : Type 0 where
  pub bytes : List ℕ
  pub bytes_are : (all : List ℕ) → known ≡ Some all → bytes ≡ all
  pub answers : List Answer
  pub are : AreAllAnswered bounds splits tables leads policy old new (take (length answers) (statements bytes)) answers
  pub count_is : fault.done ≡ length answers
  pub short_is : fault.first_short ≡ first_short answers
  pub read : List ℕ
  pub rest : List ℕ
  pub split : bytes ≡ read ++ rest
  pub whole : fault.refusal ≡ ReadFault → (take (length answers) (statements bytes) ≡ statements (whole_lines read)) × ((all : List ℕ) → known ≡ Some all → left ≡ Some rest)
  pub sent : List ℕ
  pub unsent : List ℕ
  pub unwritten : List ℕ
  pub texts_are : concat (map answer_text answers) ≡ sent ++ (unsent ++ unwritten)
  pub written_is : Appends out written sent
  pub few : length unsent ≤ OUTPUT_BYTES
  pub left_is : IsLeftOf [] answers unwritten
  pub all_sent : fault.refusal ≡ ReadFault → (unsent ≡ []) × (unwritten ≡ [])

-- a session was cut off with this refusal for a cause: `WriteFault` if its writer failed, or `ReadFault` if its reader
-- failed or it made `MOST_READS` (1,000,000,000) reads. These took the count of the reader's reads from `reads` to
-- `reads'`, and each brought a byte, so the reader's bytes, `known`, are at least as many if they are known.
abbrev pub IsCause : Refusal → Bool → Bool → ℕ → ℕ → Option (List ℕ) → Type 0
IsCause refusal reader_failed writer_failed reads reads' known = ((refusal ≡ WriteFault) × (writer_failed ≡ true))
    ⊎ ((refusal ≡ ReadFault) × ((reader_failed ≡ true)
    ⊎ ((reads' ≡ min (reads + 1000000000) (2 ^ 64 - 1)) × ((bytes : List ℕ) → known ≡ Some bytes → 1000000000 ≤ length bytes))))
