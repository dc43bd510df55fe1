-- A session that is fed bytes: its state, and what feeding does to it, its desk and its output. `bounds`, `splits`,
-- `tables` and `leads` are those of the trait `Desk`. `old`, `desk` and `out` are the session, its desk and its output
-- before, and `new`, `desk'` and `out'` those after.
use Rattle.std.specs.Prelude.{◌≡◌, ℕ, ◌+◌, ◌-◌, ◌^◌, ◌<◌, min, Bool, true, false, List, [], ◌∷◌, ◌++◌, length, map, drop, Option, None, Some, Ok, ◌==◌, if◌then◌else◌}
use Rattle.std.specs.List.{concat, filter_map, flat_map}
use Rattle.crack_row.specs.declared.Bound.{Bound}
use Rattle.crack_row.specs.declared.refusal.Refusal.TheVariants.{BadStatement}
use Rattle.crack_plain.specs.Plain.{PlainView}
use Rattle.crack_commands.specs.Grammar.{Reading}
use Rattle.crack_commands.specs.Texts.{row_text, piece_text}
use Rattle.crack_commands.specs.declared.statement.ClosingLine.{ClosingLine}
use Rattle.crack_commands.specs.declared.statement.ClosingLine.TheVariants.{Quit, Http}
use Rattle.crack_commands.specs.declared.statement.Statement.TheVariants.{End}
use Rattle.crack_core.specs.Listing.{rows_listed}
use Rattle.crack_core.specs.Steps.{Bounds}
use Rattle.crack_session.specs.declared.TheConstants.{OUTPUT_BYTES}
use Rattle.crack_session.specs.declared.answer.Answer.{Answer}
use Rattle.crack_session.specs.declared.answer.Answer.TheVariants.{Refused as AnsweredRefused}
use Rattle.crack_core.specs.declared.turns.PartReply.{PartReply}
use Rattle.crack_session.specs.declared.session.SessionProgress.{SessionProgress}
use Rattle.crack_session.specs.declared.feeding.Why.{Why}
use Rattle.crack_session.specs.declared.feeding.Why.TheVariants.{Wants, Full, Quit as QuitSaid, Refused}
use Rattle.crack_commands.specs.declared.text.TheConstants.{LONGEST_TEXT}
use Rattle.crack_session.specs.declared.rest.Rest.{Rest}
use Rattle.crack_session.specs.declared.rest.Rest.TheVariants.{Nothing, Rows, Lists, Pieces}
use Rattle.crack_session.specs.Answers.{is_short_answer, answer_text}
use Rattle.crack_session.specs.Calls.{Call, policy_after, AreAnswersOf}
use Rattle.crack_session.specs.Lines.{cut_line}
use Rattle.crack_session.specs.Readings.{reading_of, until_last, broken_off}
use Rattle.crack_session.specs.Sessions.{AreAnswers}

-- the lines that the second list of bytes finishes by line feeds, cut to the bytes that a session keeps (`cut_line`):
-- the first one begins with the first list, `begun`, the unfinished line before
abbrev pub finished_lines : List ℕ → List ℕ → List (List ℕ)
finished_lines begun [] = []
finished_lines begun (b ∷ bs) = if b == 10 then begun ∷ finished_lines [] bs else finished_lines (cut_line (begun ++ b ∷ [])) bs

-- the unfinished line after the second list of bytes, if it was the first list, `begun`, before: the bytes after the
-- last line feed, or `begun` and all bytes if there is none, cut to the bytes that a session keeps (`cut_line`)
abbrev pub unfinished : List ℕ → List ℕ → List ℕ
unfinished begun [] = begun
unfinished begun (b ∷ bs) = if b == 10 then unfinished [] bs else unfinished (cut_line (begun ++ b ∷ [])) bs

-- the readings of the lines that the second list of bytes finishes, without those of blank lines; the first line begins
-- with the first list, `begun`
abbrev pub fed : List ℕ → List ℕ → List Reading
fed begun bytes = filter_map reading_of (finished_lines begun bytes)

-- the number of the first statement that was refused for lack of room: the one already noted, or else `n` if the
-- answer to statement `n` is such a refusal, or else `None`
abbrev pub first_noted : Option ℕ → ℕ → Answer → Option ℕ
first_noted (Some k) n answer = Some k
first_noted None n answer = if is_short_answer answer then Some n else None

-- a session's counts and policy after an answer; the count of statements saturates at 2^64 - 1
abbrev pub progress_after : SessionProgress → Answer → SessionProgress
progress_after p answer = record {
  statements = min (p.statements + 1) (2 ^ 64 - 1);
  first_short = first_noted p.first_short (min (p.statements + 1) (2 ^ 64 - 1)) answer;
  policy = policy_after p.policy answer;
}

-- a session's counts and policy after all of these answers
abbrev pub all_noted : SessionProgress → List Answer → SessionProgress
all_noted p [] = p
all_noted p (answer ∷ answers) = all_noted (progress_after p answer) answers

-- the line that has ended a session: this line if it ends it, else `ending`, which is an earlier line or `None`
abbrev pub ending_after : Option ClosingLine → Reading → Option ClosingLine
ending_after ending (Ok (End last)) = Some last
ending_after ending _ = ending

-- the line that has ended a session after these lines: the last that ends one, else `ending`, an earlier line or `None`
abbrev pub ended_by_any : Option ClosingLine → List Reading → Option ClosingLine
ended_by_any ending [] = ending
ended_by_any ending (reading ∷ readings) = ended_by_any (ending_after ending reading) readings

-- the text of the rows of several partitions, without the first `at` rows of the first partition in the list
abbrev pub lists_from : List PartReply → ℕ → List ℕ
lists_from [] at = []
lists_from (r ∷ rs) at = flat_map (row_text r.part) (drop at (rows_listed r.reply)) ++ flat_map (λ (r : PartReply). flat_map (row_text r.part) (rows_listed r.reply)) rs

-- the bytes that a rest of an answer's text stands for: none, or the lines of rows or pieces from the index `at` on
abbrev pub rest_text : Rest → List ℕ
rest_text Nothing = []
rest_text (Rows part rows at) = flat_map (row_text part) (drop at rows)
rest_text (Lists lists list at) = lists_from (drop list lists) at
rest_text (Pieces layout at) = flat_map piece_text (drop at layout.pieces)

-- what contracts see of a session: the unfinished line, cut to the bytes that are kept (`cut_line`); its counts and
-- policy; the text that isn't appended to the output yet; and the line that has ended the session, if one did
pub record SessionState : Type 0 where
  pub begun : List ℕ
  pub progress : SessionProgress
  pub unwritten : List ℕ
  pub ending : Option ClosingLine

-- whether nothing is left of a text
abbrev pub is_nothing : Rest → Bool
is_nothing Nothing = true
is_nothing _ = false

-- `left` is the end of a text, or all of it: of the last answer's text, or, if there are no answers, of `text`
abbrev pub IsLeftOf : List ℕ → List Answer → List ℕ → Type 0
IsLeftOf text [] left = (front : List ℕ) × (text ≡ front ++ left)
IsLeftOf text (answer ∷ answers) left = IsLeftOf (answer_text answer) answers left

-- A session answers parsed lines in order: the answers are made of exactly the calls of its desk, each under the
-- policy then in force. If the plain tables are known, `AreAnswers` holds. Of the text that was unwritten and the
-- texts of all answers, a beginning is appended to the output; what is left unwritten is an end of the last of them.
pub record AnswersAll {D : Type 0} (bounds : D → Bounds) (splits : D → List Bound) (tables : D → Option (List PlainView)) (leads : D → Call → D → Type 0) (old : SessionState) (readings : List Reading) (desk desk' : D) (out out' : List ℕ) (new : SessionState) : Type 0 where
  pub answers : List Answer
  pub made : AreAnswersOf leads (splits desk) old.progress.policy desk desk' readings answers
  pub if_known : (known : List PlainView) → tables desk ≡ Some known →
      (next : List PlainView) × AreAnswers (bounds desk) (splits desk) known readings answers next × (tables desk' ≡ Some next)
  pub bounds_are : bounds desk' ≡ bounds desk
  pub splits_are : splits desk' ≡ splits desk
  pub progress_is : new.progress ≡ all_noted old.progress answers
  pub added : List ℕ
  pub out_is : out' ≡ out ++ added
  pub texts_are : old.unwritten ++ concat (map answer_text answers) ≡ added ++ new.unwritten
  pub left_is : IsLeftOf old.unwritten answers new.unwritten
  pub ending_is : new.ending ≡ ended_by_any old.ending readings

-- Bytes are fed to a session: it answers the statements in the lines that they finish (`AnswersAll`), keeps the line
-- that they leave unfinished, and takes nothing after a line that ends it.
pub record Feeds {D : Type 0} (bounds : D → Bounds) (splits : D → List Bound) (tables : D → Option (List PlainView)) (leads : D → Call → D → Type 0) (old : SessionState) (bytes : List ℕ) (desk desk' : D) (out out' : List ℕ) (new : SessionState) : Type 0 where
  pub answered : AnswersAll bounds splits tables leads old (fed old.begun bytes) desk desk' out out' new
  pub begun_is : new.begun ≡ unfinished old.begun bytes
  pub last : until_last (fed old.begun bytes) ≡ fed old.begun bytes
  pub none_after : (ending : ClosingLine) → old.ending ≡ Some ending → bytes ≡ []

-- A session, now in the state `s`, stopped for this reason, with `left` of the bytes not taken. `Wants`: none is left,
-- and all texts are appended. `Full`: the output `out` has less than LONGEST_TEXT bytes of room. `QuitSaid` and
-- `Refused`: `quit` and a line of HTTP, respectively, ended it, and all texts are appended.
abbrev pub StoppedFor : Why → ℕ → List ℕ → SessionState → Type 0
StoppedFor Wants left out s = (left ≡ 0) × (s.unwritten ≡ []) × (s.ending ≡ None)
StoppedFor Full left out s = OUTPUT_BYTES < length out + LONGEST_TEXT
StoppedFor QuitSaid left out s = (s.unwritten ≡ []) × (s.ending ≡ Some Quit)
StoppedFor Refused left out s = (s.unwritten ≡ []) × (s.ending ≡ Some Http)

-- the answer to a line that breaks off (`broken_off`): the refusal `BadStatement`; no answer if the line is blank
abbrev pub broken_answers : List ℕ → List Answer
broken_answers line = map (λ (reading : Reading). AnsweredRefused BadStatement) (broken_off line)

-- The input of a session breaks off, because its sender is gone: an unfinished line isn't carried out, but answered as
-- `broken_answers` says. The answer is counted, and its text is appended to the output. No line is unfinished then.
pub record BreaksOff (old : SessionState) (out out' : List ℕ) (new : SessionState) : Type 0 where
  pub out_is : out' ≡ out ++ concat (map answer_text (broken_answers old.begun))
  pub after : new ≡ record old { begun = []; progress = all_noted old.progress (broken_answers old.begun) }
