-- A session as a relation between statements, rows and answers. `bounds`, `splits` and `tables` are as in `Answers`.
use Rattle.std.specs.Prelude.{◌≡◌, ℕ, ◌+◌, List, [], ◌∷◌, ◌++◌, Option, None, Some, option_map, ◌==◌, if◌then◌else◌}
use Rattle.std.specs.List.{list_any}
use Rattle.crack_row.specs.declared.Bound.{Bound}
use Rattle.crack_plain.specs.Plain.{PlainView}
use Rattle.crack_session.specs.declared.answer.Answer.{Answer}
use Rattle.crack_commands.specs.Grammar.{Reading}
use Rattle.crack_session.specs.Answers.{IsAnswer, is_short_answer}
use Rattle.crack_core.specs.Steps.{Bounds}
use Rattle.crack_session.specs.Readings.{statements, until_last, broken_off}

-- `answers` are answers to these parsed lines, one for each and in order; the plain tables are `tables` before the
-- first, and `new` after the last
abbrev pub AreAnswers : Bounds → List Bound → List PlainView → List Reading → List Answer → List PlainView → Type 0
AreAnswers bounds splits tables [] [] new = new ≡ tables
AreAnswers bounds splits tables (reading ∷ readings) (answer ∷ answers) new = (between : List PlainView) × IsAnswer bounds splits tables reading answer between × AreAnswers bounds splits between readings answers new
AreAnswers bounds splits tables _ _ new = ⊥

-- the number, from 1, of the first answer that is a refusal for lack of room; `None` if none is
abbrev pub first_short : List Answer → Option ℕ
first_short [] = None
first_short (answer ∷ answers) = if is_short_answer answer then Some 1 else option_map (λ k. k + 1) (first_short answers)

-- the whole lines: the bytes up to and including the last line feed; no bytes if there is no line feed
abbrev pub whole_lines : List ℕ → List ℕ
whole_lines [] = []
whole_lines (b ∷ bs) = if list_any (λ c. c == 10) (b ∷ bs) then b ∷ whole_lines bs else []

-- the bytes after the last line feed; all of them if there is no line feed
abbrev pub last_line : List ℕ → List ℕ
last_line [] = []
last_line (b ∷ bs) = if list_any (λ c. c == 10) (b ∷ bs) then last_line bs else b ∷ bs

-- the statements of bytes whose sender is gone: those of the whole lines, and then `BadStatement` for bytes after the
-- last line feed, unless they are blank; through the first statement that ends the session
abbrev pub statements_sent : List ℕ → List Reading
statements_sent bytes = until_last (statements (whole_lines bytes) ++ broken_off (last_line bytes))
