-- The statements that a session has answered are the first of all, and their answers are counted.
use Rattle.std.proofs.Common.{◌≡◌, ℕ, suc, ◌+◌, ◌-◌, ◌^◌, ◌≤◌, min, true, false, Option, Some, None, List, [], ◌∷◌, ◌++◌, length, take, eqb, refl, sym, ap, ◌∙◌, subst, ⊎_elim, arith, append-nil, length-append}
use Rattle.std.specs.Prelude.{option_map}
use Rattle.std.specs.List.{filter_map, list_any}
use Rattle.std.proofs.lemmas.Bool.{cases_Bool, false≢true}
use Rattle.std.proofs.lemmas.List.Elements.{filter_map-append}
use Rattle.crack_row.specs.declared.Bound.{Bound}
use Rattle.crack_row.specs.declared.command.Policy.{Policy}
use Rattle.crack_commands.specs.Grammar.{Reading}
use Rattle.crack_commands.specs.declared.statement.ClosingLine.{ClosingLine}
use Rattle.crack_session.specs.declared.answer.Answer.{Answer}
use Rattle.crack_session.specs.declared.session.SessionProgress.{SessionProgress}
use Rattle.crack_session.specs.Answers.{is_short_answer}
use Rattle.crack_session.specs.Calls.{Call, AreMadeOf}
use Rattle.crack_session.specs.Feeding.{finished_lines, unfinished, fed, progress_after, all_noted, first_noted, ending_after, ended_by_any}
use Rattle.crack_session.specs.Input.{has_feed}
use Rattle.crack_session.specs.Lines.{cut_line}
use Rattle.crack_session.specs.Readings.{reading_of, statements, until_last, is_last}
use Rattle.crack_session.specs.Sessions.{first_short, whole_lines}
use Rattle.crack_session.specs.AskingDesks.{of_option}
use Rattle.crack_session.proofs.Pieces.{fed-append, meaning, not_last_noted, last_noted, none_finished}
use Rattle.crack_session.proofs.Whole.{statements_fed, no_meaning}

-- the statements of bytes of which the first are fed
pub statements_front : (all first later : List ℕ) → all ++ 10 ∷ [] ≡ first ++ later → statements all ≡ until_last (fed [] first ++ fed (unfinished [] first) later)
statements_front all first later split =
    sym (statements_fed (unfinished [] all) all refl)
    ∙ ap until_last (sym (fed-append [] all (10 ∷ [])) ∙ ap (fed []) split ∙ fed-append [] first later)

-- statements that nothing follows are the first of them with others
pub until_last-front : (xs ys : List Reading) → until_last xs ≡ xs → (more : List Reading) × (until_last (xs ++ ys) ≡ xs ++ more)
until_last-front [] ys last = (until_last ys, refl)
until_last-front (x ∷ xs) ys last = ⊎_elim
    (λ (e : is_last x ≡ true).
    let none : xs ≡ [] = (let h : x ∷ [] ≡ x ∷ xs = rw e at last in cc) in
    ([], rw e (ap (λ z. x ∷ z) (sym (ap (λ t. t ++ []) none)))))
    (λ (e : is_last x ≡ false).
    let more : until_last xs ≡ xs = (let h : x ∷ until_last xs ≡ x ∷ xs = rw e at last in cc) in
    let rest = until_last-front xs ys more in
    (rest.0, rw e (ap (λ z. x ∷ z) rest.1)))
    (cases_Bool (is_last x))

-- and all, if they end the session
pub until_last-over : (xs ys : List Reading) (last : ClosingLine) → until_last xs ≡ xs → ended_by_any None xs ≡ Some last → until_last (xs ++ ys) ≡ xs
until_last-over [] ys last whole said = absurd (let both : ◌≡◌ {A = Option ClosingLine} None (Some last) = said in cc)
until_last-over (x ∷ xs) ys last whole said = ⊎_elim
    (λ (e : is_last x ≡ true).
    let none : xs ≡ [] = (let h : x ∷ [] ≡ x ∷ xs = rw e at whole in cc) in
    rw e (ap (λ z. x ∷ z) (sym none)))
    (λ (e : is_last x ≡ false).
    let more : until_last xs ≡ xs = (let h : x ∷ until_last xs ≡ x ∷ xs = rw e at whole in cc) in
    let then : ended_by_any None xs ≡ Some last = subst (λ (q : Option ClosingLine). ended_by_any q xs ≡ Some last) (not_last_noted None x e) said in
    rw e (ap (λ z. x ∷ z) (until_last-over xs ys last more then)))
    (cases_Bool (is_last x))

-- whether one of them ends the session
pub any_last : (xs : List Reading) (last : ClosingLine) → ended_by_any None xs ≡ Some last → list_any is_last xs ≡ true
any_last [] last said = absurd (let both : ◌≡◌ {A = Option ClosingLine} None (Some last) = said in cc)
any_last (x ∷ xs) last said = ⊎_elim
    (λ (e : is_last x ≡ true). rw e refl)
    (λ (e : is_last x ≡ false).
    let then : ended_by_any None xs ≡ Some last = subst (λ (q : Option ClosingLine). ended_by_any q xs ≡ Some last) (not_last_noted None x e) said in
    rw e (any_last xs last then))
    (cases_Bool (is_last x))

pub none_last : (xs : List Reading) → until_last xs ≡ xs → ended_by_any None xs ≡ None → list_any is_last xs ≡ false
none_last [] whole said = refl
none_last (x ∷ xs) whole said = ⊎_elim
    (λ (e : is_last x ≡ true).
    let none : xs ≡ [] = (let h : x ∷ [] ≡ x ∷ xs = rw e at whole in cc) in
    let noted = last_noted None x e in
    let over : ended_by_any None (x ∷ xs) ≡ Some noted.0 = ap (ended_by_any (ending_after None x)) none ∙ noted.1 in
    absurd (let both : ◌≡◌ {A = Option ClosingLine} None (Some noted.0) = sym said ∙ over in cc))
    (λ (e : is_last x ≡ false).
    let more : until_last xs ≡ xs = (let h : x ∷ until_last xs ≡ x ∷ xs = rw e at whole in cc) in
    let then : ended_by_any None xs ≡ None = subst (λ (q : Option ClosingLine). ended_by_any q xs ≡ None) (not_last_noted None x e) said in
    rw e (none_last xs more then))
    (cases_Bool (is_last x))

-- there are as many answers as statements, and no more statements than bytes
pub AreMadeOf-count : (splits : List Bound) (policy : Policy) (readings : List Reading) (answers : List Answer) (calls : List Call) → AreMadeOf splits policy readings answers calls → length answers ≡ length readings
AreMadeOf-count splits policy [] [] calls made = refl
AreMadeOf-count splits policy [] (a ∷ answers) calls made = absurd made
AreMadeOf-count splits policy (r ∷ readings) [] calls made = absurd made
AreMadeOf-count splits policy (r ∷ readings) (a ∷ answers) calls made = ap suc (AreMadeOf-count splits _ readings answers made.1 made.4)

few_finished : (begun bytes : List ℕ) → length (finished_lines begun bytes) ≤ length bytes
few_finished begun [] = omega arith
few_finished begun (b ∷ bs) = ⊎_elim
    (λ (e : eqb b 10 ≡ true). rw e (let few = few_finished [] bs in omega (arith, few)))
    (λ (e : eqb b 10 ≡ false). rw e (let few = few_finished (cut_line (begun ++ b ∷ [])) bs in omega (arith, few)))
    (cases_Bool (eqb b 10))

at_most_one : (r : Option Reading) → length (of_option r) ≤ 1
at_most_one None = omega arith
at_most_one (Some r) = omega arith

few_read : (ls : List (List ℕ)) → length (filter_map reading_of ls) ≤ length ls
few_read [] = omega arith
few_read (l ∷ ls) =
    let both = ap length (filter_map-append reading_of (l ∷ []) ls) ∙ length-append (filter_map reading_of (l ∷ [])) (filter_map reading_of ls) in
    let one = ap length (meaning l) in
    let most = at_most_one (reading_of l) in
    let few = few_read ls in
    omega (arith, both, one, most, few)

pub few_fed : (begun bytes : List ℕ) → length (fed begun bytes) ≤ length bytes
few_fed begun bytes = let read = few_read (finished_lines begun bytes) in let few = few_finished begun bytes in omega (arith, read, few)

-- the counts of a session that hasn't as many statements as its numbers can count
pub all_noted-count : (p : SessionProgress) (answers : List Answer) → p.statements + length answers ≤ 2 ^ 64 - 1 → (all_noted p answers).statements ≡ p.statements + length answers
all_noted-count p [] few = omega arith
all_noted-count p (a ∷ answers) few =
    let next : (progress_after p a).statements ≡ p.statements + 1 = omega (arith, few) in
    let rest = all_noted-count (progress_after p a) answers (omega (arith, few, next)) in
    omega (arith, rest, next)

short_stays : (p : SessionProgress) (answers : List Answer) (k : ℕ) → p.first_short ≡ Some k → (all_noted p answers).first_short ≡ Some k
short_stays p [] k is = is
short_stays p (a ∷ answers) k is = short_stays (progress_after p a) answers k (ap (λ (s : Option ℕ). first_noted s (min (p.statements + 1) (2 ^ 64 - 1)) a) is)

later_short : (m n : ℕ) (short : Option ℕ) → m ≡ n + 1 → option_map (λ k. k + m) short ≡ option_map (λ k. k + n) (option_map (λ k. k + 1) short)
later_short m n None is = refl
later_short m n (Some k) is = ap Some (omega (arith, is))

pub all_noted-short : (p : SessionProgress) (answers : List Answer) → p.first_short ≡ None → p.statements + length answers ≤ 2 ^ 64 - 1 → (all_noted p answers).first_short ≡ option_map (λ k. k + p.statements) (first_short answers)
all_noted-short p [] is few = is
all_noted-short p (a ∷ answers) is few =
    let n = min (p.statements + 1) (2 ^ 64 - 1) in
    let next : n ≡ p.statements + 1 = omega (arith, few) in
    let first : (progress_after p a).first_short ≡ first_noted None n a = ap (λ (s : Option ℕ). first_noted s n a) is in
    ⊎_elim
    (λ (e : is_short_answer a ≡ true).
    let here : (progress_after p a).first_short ≡ Some n = first ∙ rw e refl in
    short_stays (progress_after p a) answers n here ∙ rw e (ap Some (omega (arith, next))))
    (λ (e : is_short_answer a ≡ false).
    let here : (progress_after p a).first_short ≡ None = first ∙ rw e refl in
    let rest = all_noted-short (progress_after p a) answers here (omega (arith, few, next)) in
    rest ∙ later_short n p.statements (first_short answers) next ∙ rw e refl)
    (cases_Bool (is_short_answer a))

pub short_from_0 : (short : Option ℕ) → option_map (λ k. k + 0) short ≡ short
short_from_0 None = refl
short_from_0 (Some k) = ap Some (omega arith)

-- the lines that are finished are the whole lines
none_whole : (bytes : List ℕ) → has_feed bytes ≡ false → whole_lines bytes ≡ []
none_whole [] h = refl
none_whole (b ∷ bs) h = rw h refl

finished_whole : (begun bytes : List ℕ) → finished_lines begun (whole_lines bytes) ≡ finished_lines begun bytes
finished_whole begun [] = refl
finished_whole begun (b ∷ bs) = ⊎_elim
    (λ (h : has_feed (b ∷ bs) ≡ true). ⊎_elim
    (λ (e : eqb b 10 ≡ true). rw (h, e) (ap (λ ls. begun ∷ ls) (finished_whole [] bs)))
    (λ (e : eqb b 10 ≡ false). rw (h, e) (finished_whole (cut_line (begun ++ b ∷ [])) bs))
    (cases_Bool (eqb b 10)))
    (λ (h : has_feed (b ∷ bs) ≡ false). ap (finished_lines begun) (none_whole (b ∷ bs) h) ∙ sym (none_finished begun (b ∷ bs) h))
    (cases_Bool (has_feed (b ∷ bs)))

none_unfinished : (begun bytes : List ℕ) → has_feed bytes ≡ true → unfinished begun (whole_lines bytes) ≡ []
none_unfinished begun [] h = absurd (false≢true h)
none_unfinished begun (b ∷ bs) h = ⊎_elim
    (λ (e : eqb b 10 ≡ true). ⊎_elim
    (λ (more : has_feed bs ≡ true). rw (h, e) (none_unfinished [] bs more))
    (λ (more : has_feed bs ≡ false). rw (h, e) (ap (unfinished []) (none_whole bs more)))
    (cases_Bool (has_feed bs)))
    (λ (e : eqb b 10 ≡ false). let more : has_feed bs ≡ true = rw e at h in rw (h, e) (none_unfinished (cut_line (begun ++ b ∷ [])) bs more))
    (cases_Bool (eqb b 10))

pub whole_unfinished : (bytes : List ℕ) → unfinished [] (whole_lines bytes) ≡ []
whole_unfinished bytes = ⊎_elim
    (λ (h : has_feed bytes ≡ true). none_unfinished [] bytes h)
    (λ (h : has_feed bytes ≡ false). ap (unfinished []) (none_whole bytes h))
    (cases_Bool (has_feed bytes))

pub statements_whole : (bytes : List ℕ) → statements (whole_lines bytes) ≡ until_last (fed [] bytes)
statements_whole bytes =
    let u = whole_lines bytes in
    let blank : fed [] (10 ∷ []) ≡ [] = meaning [] ∙ ap of_option no_meaning in
    statements_front u u (10 ∷ []) refl
    ∙ ap (λ k. until_last (fed [] u ++ fed k (10 ∷ []))) (whole_unfinished bytes)
    ∙ ap (λ rs. until_last (fed [] u ++ rs)) blank
    ∙ ap until_last (append-nil (fed [] u) ∙ ap (filter_map reading_of) (finished_whole [] bytes))
