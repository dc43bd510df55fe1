-- Feeding bytes in pieces is feeding the whole.
use Rattle.std.proofs.Common.{◌≡◌, ℕ, ◌+◌, ◌-◌, ◌<◌, ◌≤◌, min, Bool, true, false, cond, Option, Some, None, Ok, Err, List, [], ◌∷◌, ◌++◌, length, map, take, drop, eqb, refl, sym, ap, ◌∙◌, subst, ⊎_elim, arith, append_assoc, append-nil, length-drop}
use Rattle.std.proofs.lemmas.Bool.{cases_Bool, cases_lt, eqb-true, or_parts, false≢true}
use Rattle.std.proofs.Math.Seq.{take-append-add}
use Rattle.std.proofs.lemmas.List.{map-append, take_all}
use Rattle.std.proofs.lemmas.List.Elements.{filter_map-append}
use Rattle.std.proofs.lemmas.List.Folds.{concat-append}
use Rattle.std.specs.List.{concat, filter_map}
use Rattle.crack_row.specs.declared.Bound.{Bound}
use Rattle.crack_plain.specs.Plain.{PlainView}
use Rattle.crack_commands.specs.Grammar.{Reading}
use Rattle.crack_commands.specs.declared.statement.ClosingLine.{ClosingLine}
use Rattle.crack_commands.specs.declared.statement.Statement.TheVariants.{Insert, Delete, Update, Count, Sum, Select, Layout, Checkpoint, Watch, WatchPart, Policy, Ping, End}
use Rattle.crack_core.specs.Steps.{Bounds}
use Rattle.crack_session.specs.declared.answer.Answer.{Answer}
use Rattle.crack_session.specs.declared.session.SessionProgress.{SessionProgress}
use Rattle.crack_session.specs.Answers.{IsAnswer, answer_text}
use Rattle.crack_session.specs.Calls.{Call, IsReadingMadeOf, AreMadeOf, AreAnswersOf}
use Rattle.crack_session.specs.Input.{has_feed}
use Rattle.crack_session.specs.Lines.{cut_line}
use Rattle.crack_session.specs.Readings.{reading_of, until_last, is_last}
use Rattle.crack_session.specs.Sessions.{AreAnswers}
use Rattle.crack_session.specs.AskingDesks.{AsksDesk, of_option}
use Rattle.crack_session.specs.Feeding.{finished_lines, unfinished, fed, progress_after, all_noted, ending_after, ended_by_any, SessionState, IsLeftOf, AnswersAll, Feeds}
use Rattle.crack_session.proofs.Appending.{next_part}
use Rattle.crack_session.proofs.Calling.{Calls-then}
use Rattle.crack_session.proofs.Feeds.{take-take-append}
use Rattle.crack_session.proofs.Following.{reading_kept}

-- the lines of some bytes, and then of others
finished-append : (begun xs ys : List ℕ) → finished_lines begun (xs ++ ys) ≡ finished_lines begun xs ++ finished_lines (unfinished begun xs) ys
finished-append begun [] ys = refl
finished-append begun (b ∷ bs) ys = ⊎_elim
    (λ (e : eqb b 10 ≡ true). rw e (ap (λ ls. begun ∷ ls) (finished-append [] bs ys)))
    (λ (e : eqb b 10 ≡ false). rw e (finished-append (cut_line (begun ++ b ∷ [])) bs ys))
    (cases_Bool (eqb b 10))

unfinished-append : (begun xs ys : List ℕ) → unfinished begun (xs ++ ys) ≡ unfinished (unfinished begun xs) ys
unfinished-append begun [] ys = refl
unfinished-append begun (b ∷ bs) ys = ⊎_elim
    (λ (e : eqb b 10 ≡ true). rw e (unfinished-append [] bs ys))
    (λ (e : eqb b 10 ≡ false). rw e (unfinished-append (cut_line (begun ++ b ∷ [])) bs ys))
    (cases_Bool (eqb b 10))

pub fed-append : (begun xs ys : List ℕ) → fed begun (xs ++ ys) ≡ fed begun xs ++ fed (unfinished begun xs) ys
fed-append begun xs ys = ap (filter_map reading_of) (finished-append begun xs ys) ∙ filter_map-append reading_of (finished_lines begun xs) (finished_lines (unfinished begun xs) ys)

-- bytes without a line feed
pub none_finished : (begun xs : List ℕ) → has_feed xs ≡ false → finished_lines begun xs ≡ []
none_finished begun [] h = refl
none_finished begun (b ∷ bs) h =
    let each = or_parts (eqb b 10) (has_feed bs) h in
    let other : eqb b 10 ≡ false = each.0 in
    rw other (none_finished (cut_line (begun ++ b ∷ [])) bs each.1)

all_unfinished : (begun xs : List ℕ) → has_feed xs ≡ false → cut_line begun ≡ begun → unfinished begun xs ≡ cut_line (begun ++ xs)
all_unfinished begun [] h few = sym few ∙ ap cut_line (sym (append-nil begun))
all_unfinished begun (b ∷ bs) h few =
    let each = or_parts (eqb b 10) (has_feed bs) h in
    let other : eqb b 10 ≡ false = each.0 in
    let twice : cut_line (cut_line (begun ++ b ∷ [])) ≡ cut_line (begun ++ b ∷ []) = ap cut_line (sym (append-nil (cut_line (begun ++ b ∷ [])))) ∙ take-take-append 202 (begun ++ b ∷ []) [] ∙ ap cut_line (append-nil (begun ++ b ∷ [])) in
    rw other (all_unfinished (cut_line (begun ++ b ∷ [])) bs each.1 twice ∙ take-take-append 202 (begun ++ b ∷ []) bs ∙ ap cut_line (append_assoc begun (b ∷ []) bs))

-- a whole line
pub meaning : (line : List ℕ) → filter_map reading_of (line ∷ []) ≡ of_option (reading_of line)
meaning line = by_case (reading_of line)
  where
    by_case : (r : Option Reading) → filter_map (λ (l : List ℕ). r) (line ∷ []) ≡ of_option r
    by_case None = refl
    by_case (Some r) = refl

one_fed : (begun line : List ℕ) → has_feed line ≡ false → cut_line begun ≡ begun → fed begun (line ++ 10 ∷ []) ≡ of_option (reading_of (begun ++ line))
one_fed begun line none few =
    let lines : finished_lines begun (line ++ 10 ∷ []) ≡ cut_line (begun ++ line) ∷ [] =
    finished-append begun line (10 ∷ []) ∙ ap (λ ls. ls ++ unfinished begun line ∷ []) (none_finished begun line none) ∙ ap (λ l. l ∷ []) (all_unfinished begun line none few) in
    ap (filter_map reading_of) lines ∙ meaning (cut_line (begun ++ line)) ∙ ap of_option (reading_kept (begun ++ line))

-- counts and policies after some answers, and then others
all_noted-append : (p : SessionProgress) (us bs : List Answer) → all_noted p (us ++ bs) ≡ all_noted (all_noted p us) bs
all_noted-append p [] bs = refl
all_noted-append p (a ∷ us) bs = all_noted-append (progress_after p a) us bs

pub ended_by_any-append : (ending : Option ClosingLine) (rs qs : List Reading) → ended_by_any ending (rs ++ qs) ≡ ended_by_any (ended_by_any ending rs) qs
ended_by_any-append ending [] qs = refl
ended_by_any-append ending (r ∷ rs) qs = ended_by_any-append (ending_after ending r) rs qs

-- a statement that ends the session is noted
pub last_noted : (ending : Option ClosingLine) (r : Reading) → is_last r ≡ true → (last : ClosingLine) × (ending_after ending r ≡ Some last)
last_noted ending (Err e) h = absurd (false≢true h)
last_noted ending (Ok (Insert k p)) h = absurd (false≢true h)
last_noted ending (Ok (Delete r)) h = absurd (false≢true h)
last_noted ending (Ok (Update r k p)) h = absurd (false≢true h)
last_noted ending (Ok (Count r)) h = absurd (false≢true h)
last_noted ending (Ok (Sum r)) h = absurd (false≢true h)
last_noted ending (Ok (Select r)) h = absurd (false≢true h)
last_noted ending (Ok (Layout p)) h = absurd (false≢true h)
last_noted ending (Ok (Checkpoint p)) h = absurd (false≢true h)
last_noted ending (Ok Watch) h = absurd (false≢true h)
last_noted ending (Ok (WatchPart p)) h = absurd (false≢true h)
last_noted ending (Ok (Policy p)) h = absurd (false≢true h)
last_noted ending (Ok Ping) h = absurd (false≢true h)
last_noted ending (Ok (End last)) h = (last, refl)

pub not_last_noted : (ending : Option ClosingLine) (r : Reading) → is_last r ≡ false → ending_after ending r ≡ ending
not_last_noted ending (Err e) h = refl
not_last_noted ending (Ok (Insert k p)) h = refl
not_last_noted ending (Ok (Delete r)) h = refl
not_last_noted ending (Ok (Update r k p)) h = refl
not_last_noted ending (Ok (Count r)) h = refl
not_last_noted ending (Ok (Sum r)) h = refl
not_last_noted ending (Ok (Select r)) h = refl
not_last_noted ending (Ok (Layout p)) h = refl
not_last_noted ending (Ok (Checkpoint p)) h = refl
not_last_noted ending (Ok Watch) h = refl
not_last_noted ending (Ok (WatchPart p)) h = refl
not_last_noted ending (Ok (Policy p)) h = refl
not_last_noted ending (Ok Ping) h = refl
not_last_noted ending (Ok (End last)) h = absurd (false≢true (sym h))

-- nothing follows a statement that ends the session
pub until_last-then : (ending : Option ClosingLine) (rs qs : List Reading) → until_last rs ≡ rs → until_last qs ≡ qs → ((last : ClosingLine) → ended_by_any ending rs ≡ Some last → qs ≡ []) → until_last (rs ++ qs) ≡ rs ++ qs
until_last-then ending [] qs first second over = second
until_last-then ending (r ∷ rs) qs first second over = ⊎_elim
    (λ (e : is_last r ≡ true).
    let none : rs ≡ [] = (let h : r ∷ [] ≡ r ∷ rs = rw e at first in cc) in
    let said = last_noted ending r e in
    let nothing : qs ≡ [] = over said.0 (ap (ended_by_any (ending_after ending r)) none ∙ said.1) in
    rw e (ap (λ t. r ∷ t) (sym (ap (λ t. t ++ qs) none ∙ nothing))))
    (λ (e : is_last r ≡ false).
    let more : until_last rs ≡ rs = (let h : r ∷ until_last rs ≡ r ∷ rs = rw e at first in cc) in
    rw e (ap (λ t. r ∷ t) (until_last-then (ending_after ending r) rs qs more second over)))
    (cases_Bool (is_last r))

pub until_last-one : (r : Option Reading) → until_last (of_option r) ≡ of_option r
until_last-one None = refl
until_last-one (Some r) = by_test (is_last r)
  where
    by_test : (b : Bool) → cond b (r ∷ []) (r ∷ []) ≡ r ∷ []
    by_test true = refl
    by_test false = refl

-- answers and calls of some statements, and then of others
AreMadeOf-then : (splits : List Bound) (p : SessionProgress) (rs : List Reading) (us : List Answer) (cs : List Call) (qs : List Reading) (bs : List Answer) (ds : List Call) → AreMadeOf splits p.policy rs us cs → AreMadeOf splits (all_noted p us).policy qs bs ds → AreMadeOf splits p.policy (rs ++ qs) (us ++ bs) (cs ++ ds)
AreMadeOf-then splits p [] [] cs qs bs ds made more = subst (λ (c : List Call). AreMadeOf splits p.policy qs bs (c ++ ds)) (sym made) more
AreMadeOf-then splits p [] (a ∷ us) cs qs bs ds made more = absurd made
AreMadeOf-then splits p (r ∷ rs) [] cs qs bs ds made more = absurd made
AreMadeOf-then splits p (r ∷ rs) (a ∷ us) cs qs bs ds made more =
    (made.0, made.1 ++ ds, ap (λ (l : List Call). l ++ ds) made.2 ∙ append_assoc made.0 made.1 ds, made.3, AreMadeOf-then splits (progress_after p a) rs us made.1 qs bs ds made.4 more)

AreAnswers-then : (bounds : Bounds) (splits : List Bound) (tables : List PlainView) (rs : List Reading) (us : List Answer) (between : List PlainView) (qs : List Reading) (bs : List Answer) (new : List PlainView) → AreAnswers bounds splits tables rs us between → AreAnswers bounds splits between qs bs new → AreAnswers bounds splits tables (rs ++ qs) (us ++ bs) new
AreAnswers-then bounds splits tables [] [] between qs bs new are more = subst (λ (t : List PlainView). AreAnswers bounds splits t qs bs new) are more
AreAnswers-then bounds splits tables [] (a ∷ us) between qs bs new are more = absurd are
AreAnswers-then bounds splits tables (r ∷ rs) [] between qs bs new are more = absurd are
AreAnswers-then bounds splits tables (r ∷ rs) (a ∷ us) between qs bs new are more =
    (are.0, are.1, AreAnswers-then bounds splits are.0 rs us between qs bs new are.2 more)

texts-then : (before first between second after : List ℕ) (us bs : List Answer) → before ++ concat (map answer_text us) ≡ first ++ between → between ++ concat (map answer_text bs) ≡ second ++ after → before ++ concat (map answer_text (us ++ bs)) ≡ (first ++ second) ++ after
texts-then before first between second after us bs one two =
    ap (λ t. before ++ t) (ap concat (map-append answer_text us bs) ∙ concat-append (map answer_text us) (map answer_text bs))
    ∙ sym (append_assoc before (concat (map answer_text us)) (concat (map answer_text bs)))
    ∙ ap (λ t. t ++ concat (map answer_text bs)) one
    ∙ append_assoc first between (concat (map answer_text bs))
    ∙ ap (λ t. first ++ t) two
    ∙ sym (append_assoc first second after)

-- what is left of a text, after more is appended
left-more : (text : List ℕ) (us : List Answer) (between more after : List ℕ) → IsLeftOf text us between → between ≡ more ++ after → IsLeftOf text us after
left-more text [] between more after (front, is) rest = (front ++ more, is ∙ ap (λ t. front ++ t) rest ∙ sym (append_assoc front more after))
left-more text (a ∷ us) between more after left rest = left-more (answer_text a) us between more after left rest

-- and after more answers
left-then : (text : List ℕ) (us : List Answer) (between : List ℕ) (bs : List Answer) (after : List ℕ) → IsLeftOf text us between → IsLeftOf between bs after → IsLeftOf text (us ++ bs) after
left-then text [] between [] after left (front, is) = left-more text [] between front after left is
left-then text [] between (b ∷ bs) after left right = right
left-then text (a ∷ us) between bs after left right = left-then (answer_text a) us between bs after left right

module _ {D : Type 0} (bounds : D → Bounds) (splits : D → List Bound) (tables : D → Option (List PlainView)) (leads : D → Call → D → Type 0) where
  -- some statements are answered, and then others
  pub AnswersAll-then : (s0 s1 s2 : SessionState) (rs qs : List Reading) (d0 d1 d2 : D) (o0 o1 o2 : List ℕ) → AnswersAll bounds splits tables leads s0 rs d0 d1 o0 o1 s1 → AnswersAll bounds splits tables leads s1 qs d1 d2 o1 o2 s2 → AnswersAll bounds splits tables leads s0 (rs ++ qs) d0 d2 o0 o2 s2
  AnswersAll-then s0 s1 s2 rs qs d0 d1 d2 o0 o1 o2 a b =
      let policy : s1.progress.policy ≡ (all_noted s0.progress a.answers).policy = ap (λ (p : SessionProgress). p.policy) a.progress_is in
      let more = subst (λ (sp : List Bound). AreMadeOf sp (all_noted s0.progress a.answers).policy qs b.answers b.made.0) a.splits_are (subst (λ p. AreMadeOf (splits d1) p qs b.answers b.made.0) policy b.made.2) in
      record {
        answers = a.answers ++ b.answers;
        made = (a.made.0 ++ b.made.0, Calls-then leads d0 a.made.0 d1 b.made.0 d2 a.made.1 b.made.1, AreMadeOf-then (splits d0) s0.progress rs a.answers a.made.0 qs b.answers b.made.0 a.made.2 more);
        if_known = λ known e.
            let first = a.if_known known e in
            let second = b.if_known first.0 first.2 in
            let here = subst (λ (sp : List Bound). AreAnswers (bounds d0) sp first.0 qs b.answers second.0) a.splits_are (subst (λ (bd : Bounds). AreAnswers bd (splits d1) first.0 qs b.answers second.0) a.bounds_are second.1) in
            (second.0, AreAnswers-then (bounds d0) (splits d0) known rs a.answers first.0 qs b.answers second.0 first.1 here, second.2);
        bounds_are = b.bounds_are ∙ a.bounds_are;
        splits_are = b.splits_are ∙ a.splits_are;
        progress_is = b.progress_is ∙ ap (λ (p : SessionProgress). all_noted p b.answers) a.progress_is ∙ sym (all_noted-append s0.progress a.answers b.answers);
        added = a.added ++ b.added;
        out_is = b.out_is ∙ ap (λ o. o ++ b.added) a.out_is ∙ append_assoc o0 a.added b.added;
        texts_are = texts-then s0.unwritten a.added s1.unwritten b.added s2.unwritten a.answers b.answers a.texts_are b.texts_are;
        left_is = left-then s0.unwritten a.answers s1.unwritten b.answers s2.unwritten a.left_is b.left_is;
        ending_is = b.ending_is ∙ ap (λ (e : Option ClosingLine). ended_by_any e qs) a.ending_is ∙ sym (ended_by_any-append s0.ending rs qs);
      }

  -- bytes are fed, and then others: feeding bytes in pieces is feeding the whole
  pub Feeds-then : (s0 s1 s2 : SessionState) (xs ys : List ℕ) (d0 d1 d2 : D) (o0 o1 o2 : List ℕ) → Feeds bounds splits tables leads s0 xs d0 d1 o0 o1 s1 → Feeds bounds splits tables leads s1 ys d1 d2 o1 o2 s2 → Feeds bounds splits tables leads s0 (xs ++ ys) d0 d2 o0 o2 s2
  Feeds-then s0 s1 s2 xs ys d0 d1 d2 o0 o1 o2 a b =
      let same : fed s1.begun ys ≡ fed (unfinished s0.begun xs) ys = ap (λ k. fed k ys) a.begun_is in
      let both : fed s0.begun (xs ++ ys) ≡ fed s0.begun xs ++ fed s1.begun ys = fed-append s0.begun xs ys ∙ ap (λ q. fed s0.begun xs ++ q) (sym same) in
      let nothing : (last : ClosingLine) → s1.ending ≡ Some last → fed s1.begun ys ≡ [] = λ last e. ap (fed s1.begun) (b.none_after last e) in
      record {
        answered = subst (λ (rs : List Reading). AnswersAll bounds splits tables leads s0 rs d0 d2 o0 o2 s2) (sym both) (AnswersAll-then s0 s1 s2 (fed s0.begun xs) (fed s1.begun ys) d0 d1 d2 o0 o1 o2 a.answered b.answered);
        begun_is = b.begun_is ∙ ap (λ k. unfinished k ys) a.begun_is ∙ sym (unfinished-append s0.begun xs ys);
        last = ap until_last both
            ∙ until_last-then s0.ending (fed s0.begun xs) (fed s1.begun ys) a.last b.last (λ last e. nothing last (a.answered.ending_is ∙ e))
            ∙ sym both;
        none_after = λ last e.
            let none : xs ≡ [] = a.none_after last e in
            let still : s1.ending ≡ Some last = a.answered.ending_is ∙ ap (λ z. ended_by_any s0.ending (fed s0.begun z)) none ∙ e in
            ap (λ z. z ++ ys) none ∙ b.none_after last still;
      }

  -- nothing is fed
  pub AnswersAll-none : (s : SessionState) (d : D) (o : List ℕ) → AnswersAll bounds splits tables leads s [] d d o o s
  AnswersAll-none s d o = record {
    answers = [];
    made = ([], refl, refl);
    if_known = λ known e. (known, refl, e);
    bounds_are = refl;
    splits_are = refl;
    progress_is = refl;
    added = [];
    out_is = sym (append-nil o);
    texts_are = append-nil s.unwritten;
    left_is = ([], refl);
    ending_is = refl;
  }

  pub Feeds-none : (s : SessionState) (d : D) (o : List ℕ) → Feeds bounds splits tables leads s [] d d o o s
  Feeds-none s d o = record { answered = AnswersAll-none s d o; begun_is = refl; last = refl; none_after = λ last e. refl }

  -- what was left of a text is appended
  pub Feeds-write : (s0 s1 s2 : SessionState) (xs : List ℕ) (d0 d1 : D) (o0 o1 o2 : List ℕ) → Feeds bounds splits tables leads s0 xs d0 d1 o0 o1 s1 → s2 ≡ record s1 { unwritten = s2.unwritten } → o2 ++ s2.unwritten ≡ o1 ++ s1.unwritten → length o1 ≤ length o2 → Feeds bounds splits tables leads s0 xs d0 d1 o0 o2 s2
  Feeds-write s0 s1 s2 xs d0 d1 o0 o1 o2 a same texts grows =
      let more = next_part o1 o2 s1.unwritten s2.unwritten texts grows in
      let w = a.answered in
      record {
        answered = record {
          answers = w.answers;
          made = w.made;
          if_known = w.if_known;
          bounds_are = w.bounds_are;
          splits_are = w.splits_are;
          progress_is = ap (λ (s : SessionState). s.progress) same ∙ w.progress_is;
          added = w.added ++ more.0;
          out_is = more.1 ∙ ap (λ o. o ++ more.0) w.out_is ∙ append_assoc o0 w.added more.0;
          texts_are = w.texts_are ∙ ap (λ t. w.added ++ t) more.2 ∙ sym (append_assoc w.added more.0 s2.unwritten);
          left_is = left-more s0.unwritten w.answers s1.unwritten more.0 s2.unwritten w.left_is more.2;
          ending_is = ap (λ (s : SessionState). s.ending) same ∙ w.ending_is;
        };
        begun_is = ap (λ (s : SessionState). s.begun) same ∙ a.begun_is;
        last = a.last;
        none_after = a.none_after;
      }

  -- one statement is answered
  pub AnswersAll-one : (s t : SessionState) (r : Reading) (a : Answer) (d e : D) (o p : List ℕ) → AsksDesk bounds splits tables leads (λ bounds splits tables. IsAnswer bounds splits tables r a) (λ splits calls. IsReadingMadeOf splits s.progress.policy r a calls) d e → s.unwritten ≡ [] → p ++ t.unwritten ≡ o ++ answer_text a → length o ≤ length p → t.progress ≡ progress_after s.progress a → t.ending ≡ ending_after s.ending r → AnswersAll bounds splits tables leads s (r ∷ []) d e o p t
  AnswersAll-one s t r a d e o p asks written text grows counted ended =
      let more = next_part o p (answer_text a) t.unwritten text grows in
      record {
        answers = a ∷ [];
        made = (asks.calls, asks.were, (asks.calls, [], sym (append-nil asks.calls), asks.made, refl));
        if_known = λ known is. let next = asks.is known is in (next.0, (next.0, next.1, refl), next.2);
        bounds_are = asks.bounds_are;
        splits_are = asks.splits_are;
        progress_is = counted;
        added = more.0;
        out_is = more.1;
        texts_are = ap (λ u. u ++ (answer_text a ++ [])) written ∙ append-nil (answer_text a) ∙ more.2;
        left_is = (more.0, more.2);
        ending_is = ended;
      }

  -- another unfinished line makes no difference to answers
  pub AnswersAll-from : (s r t : SessionState) (rs : List Reading) (d e : D) (o p : List ℕ) → AnswersAll bounds splits tables leads r rs d e o p t → r.progress ≡ s.progress → r.unwritten ≡ s.unwritten → r.ending ≡ s.ending → AnswersAll bounds splits tables leads s rs d e o p t
  AnswersAll-from s r t rs d e o p a progress unwritten ending =
      record {
        answers = a.answers;
        made = subst (λ (q : SessionProgress). AreAnswersOf leads (splits d) q.policy d e rs a.answers) progress a.made;
        if_known = a.if_known;
        bounds_are = a.bounds_are;
        splits_are = a.splits_are;
        progress_is = a.progress_is ∙ ap (λ (q : SessionProgress). all_noted q a.answers) progress;
        added = a.added;
        out_is = a.out_is;
        texts_are = ap (λ u. u ++ concat (map answer_text a.answers)) (sym unwritten) ∙ a.texts_are;
        left_is = subst (λ (u : List ℕ). IsLeftOf u a.answers t.unwritten) unwritten a.left_is;
        ending_is = a.ending_is ∙ ap (λ (q : Option ClosingLine). ended_by_any q rs) ending;
      }

  -- a line is finished, and its meaning answered
  pub Feeds-line : (s t : SessionState) (line taken : List ℕ) (rs : List Reading) (d e : D) (o p : List ℕ) → AnswersAll bounds splits tables leads s rs d e o p t → rs ≡ of_option (reading_of (s.begun ++ line)) → t.begun ≡ [] → taken ≡ line ++ 10 ∷ [] → has_feed line ≡ false → length s.begun ≤ 202 → s.ending ≡ None → Feeds bounds splits tables leads s taken d e o p t
  Feeds-line s t line taken rs d e o p answered said begins is none few goes_on =
      let one : fed s.begun taken ≡ of_option (reading_of (s.begun ++ line)) = ap (fed s.begun) is ∙ one_fed s.begun line none (take_all 202 s.begun few) in
      record {
        answered = subst (λ (rs : List Reading). AnswersAll bounds splits tables leads s rs d e o p t) (said ∙ sym one) answered;
        begun_is = begins ∙ sym (ap (unfinished s.begun) is ∙ unfinished-append s.begun line (10 ∷ []));
        last = ap until_last one ∙ until_last-one (reading_of (s.begun ++ line)) ∙ sym one;
        none_after = λ last over. absurd (let both : ◌≡◌ {A = Option ClosingLine} None (Some last) = sym goes_on ∙ over in cc);
      }

  -- no line is finished
  pub Feeds-begun : (s t : SessionState) (xs : List ℕ) (d : D) (o : List ℕ) → t ≡ record s { begun = cut_line (s.begun ++ xs) } → has_feed xs ≡ false → length s.begun ≤ 202 → s.ending ≡ None → Feeds bounds splits tables leads s xs d d o o t
  Feeds-begun s t xs d o same none few goes_on =
      let nothing : fed s.begun xs ≡ [] = ap (filter_map reading_of) (none_finished s.begun xs none) in
      record {
        answered = rw nothing record {
          answers = [];
          made = ([], refl, refl);
          if_known = λ known e. (known, refl, e);
          bounds_are = refl;
          splits_are = refl;
          progress_is = ap (λ (s : SessionState). s.progress) same;
          added = [];
          out_is = sym (append-nil o);
          texts_are = append-nil s.unwritten ∙ sym (ap (λ (s : SessionState). s.unwritten) same);
          left_is = ([], sym (ap (λ (s : SessionState). s.unwritten) same));
          ending_is = ap (λ (s : SessionState). s.ending) same;
        };
        begun_is = ap (λ (s : SessionState). s.begun) same ∙ sym (all_unfinished s.begun xs none (take_all 202 s.begun few));
        last = rw nothing refl;
        none_after = λ last over. absurd (let both : ◌≡◌ {A = Option ClosingLine} None (Some last) = sym goes_on ∙ over in cc);
      }

-- a session's state with another unfinished line
abbrev pub state_with : SessionProgress → List ℕ → Option ClosingLine → List ℕ → SessionState
state_with progress unwritten ending begun = record { begun = begun; progress = progress; unwritten = unwritten; ending = ending }

-- us many bytes are kept us there is room for
pub kept_more : (begun bytes : List ℕ) (count : ℕ) → length begun ≤ 202 → count ≡ min (length bytes) (202 - length begun) → begun ++ take count bytes ≡ cut_line (begun ++ bytes)
kept_more begun bytes count few is =
    let room : 202 ≡ length begun + (202 - length begun) = omega (arith, few) in
    let same : take count bytes ≡ take (202 - length begun) bytes = ⊎_elim
    (λ (l : 202 - length begun < length bytes). let n : count ≡ 202 - length begun = omega (arith, is, l) in ap (λ n. take n bytes) n)
    (λ (l : length bytes ≤ 202 - length begun). take_all count bytes (omega (arith, is, l)) ∙ sym (take_all (202 - length begun) bytes l))
    (cases_lt (202 - length begun) (length bytes)) in
    ap (λ t. begun ++ t) same ∙ sym (ap (λ n. take n (begun ++ bytes)) room ∙ take-append-add begun bytes (202 - length begun))

-- what is left of bytes, after so many
pub whole_rest : (n : ℕ) (bytes : List ℕ) → take (length bytes - n) (drop n bytes) ≡ drop n bytes
whole_rest n bytes = take_all (length bytes - n) (drop n bytes) (let l = length-drop n bytes in omega (arith, l))

-- whether there is a line feed, by the place of the first
pub feed_before : (bytes : List ℕ) (n : ℕ) → (has_feed bytes ≡ false → n ≡ length bytes) → (n ≡ length bytes → ⊥) → has_feed bytes ≡ true
feed_before bytes n none other = ⊎_elim
    (λ (h : has_feed bytes ≡ true). h)
    (λ (h : has_feed bytes ≡ false). absurd (other (none h)))
    (cases_Bool (has_feed bytes))

pub no_feed_before : (bytes : List ℕ) (n : ℕ) → (has_feed bytes ≡ true → n < length bytes) → n ≡ length bytes → has_feed bytes ≡ false
no_feed_before bytes n found all = ⊎_elim
    (λ (h : has_feed bytes ≡ true). absurd (let below = found h in omega (arith, below, all)))
    (λ (h : has_feed bytes ≡ false). h)
    (cases_Bool (has_feed bytes))

-- no line has begun
pub none_begun : (begun : List ℕ) → true ≡ eqb (length begun) 0 → begun ≡ []
none_begun [] e = refl
none_begun (b ∷ bs) e = absurd (let none = eqb-true (length (b ∷ bs)) 0 (sym e) in omega (arith, none))
