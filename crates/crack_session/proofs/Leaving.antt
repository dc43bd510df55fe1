-- How a session over a reader and a writer ends, or is cut off.
use Rattle.std.proofs.Common.{◌≡◌, ℕ, ◌+◌, ◌-◌, ◌*◌, ◌^◌, ◌<◌, ◌≤◌, true, false, cond, Option, Some, None, List, [], ◌∷◌, ◌++◌, length, map, take, drop, refl, sym, ap, ◌∙◌, subst, arith, append-nil, append_assoc, length-append, length-take, take-append-drop}
use Rattle.std.specs.Prelude.{option_map}
use Rattle.std.proofs.lemmas.List.{take_all, take_at}
use Rattle.std.specs.List.{concat, list_any}
use Rattle.std.proofs.KnownBytes.{Appends-trans, Consumes-trans, Consumes-kept}
use Rattle.std.specs.Io.KnownBytes.{Appends, Consumes, IsAtEnd, Keeps}
use Rattle.crack_row.specs.declared.Bound.{Bound}
use Rattle.crack_row.specs.declared.refusal.Refusal.{Refusal}
use Rattle.crack_row.specs.declared.refusal.Refusal.TheVariants.{ReadFault}
use Rattle.crack_plain.specs.Plain.{PlainView}
use Rattle.crack_commands.specs.Grammar.{Reading}
use Rattle.crack_commands.specs.declared.statement.ClosingLine.{ClosingLine}
use Rattle.crack_core.specs.Steps.{Bounds}
use Rattle.crack_session.specs.declared.TheConstants.{OUTPUT_BYTES}
use Rattle.crack_session.specs.declared.answer.Answer.{Answer}
use Rattle.crack_session.specs.declared.session.How.{How}
use Rattle.crack_session.specs.declared.session.How.TheVariants.{Quit, InputEnded}
use Rattle.crack_session.specs.declared.session.SessionProgress.{SessionProgress}
use Rattle.crack_session.specs.Answers.{answer_text}
use Rattle.crack_session.specs.Calls.{Call, AreAnswersOf}
use Rattle.crack_session.specs.Feeding.{SessionState, IsLeftOf, Feeds, fed, unfinished, ended_by_any, all_noted}
use Rattle.crack_session.specs.Readings.{statements, until_last, is_last}
use Rattle.crack_session.specs.Rounds.{IsNewSession}
use Rattle.crack_session.specs.Serving.{AreAllAnswered, IsServed, IsCutOff}
use Rattle.crack_session.specs.Sessions.{AreAnswers, first_short, whole_lines}
use Rattle.crack_session.specs.Turns.{fed_by, IsSentFirst, StopsAs}
use Rattle.crack_session.proofs.Turns.{Feeds-on, IsSentFirst-then}
use Rattle.crack_session.proofs.Running.{AllOf, all_of, Running}
use Rattle.crack_session.proofs.Ended.{statements_front, until_last-front, until_last-over, any_last, none_last, AreMadeOf-count, few_fed, all_noted-count, all_noted-short, short_from_0, statements_whole}

-- the statements in the lines of bytes from the start
abbrev pub fed_from_none : List ℕ → List Reading
fed_from_none bytes = fed [] bytes

-- all bytes of a reader that is at its end were read
all_end : (known0 known : Option (List ℕ)) (used : List ℕ) → Consumes known0 known used → IsAtEnd known → (a : AllOf known0 known used) × (a.all ≡ used)
all_end None known used h end = (record { all = used; rest = []; split = sym (append-nil used); all_is = λ a e. absurd (let both : ◌≡◌ {A = Option (List ℕ)} None (Some a) = e in cc); rest_is = λ a e. absurd (let both : ◌≡◌ {A = Option (List ℕ)} None (Some a) = e in cc) }, refl)
all_end (Some x) None used h end = absurd h
all_end (Some x) (Some y) used h end =
    let whole : x ≡ used = h ∙ ap (λ z. used ++ z) end ∙ append-nil used in
    (record { all = used; rest = []; split = sym (append-nil used); all_is = λ a e. sym whole ∙ (let same : x ≡ a = cc e in same); rest_is = λ a e. ap Some end }, refl)

module _ {D : Type 0} (bounds : D → Bounds) (splits : D → List Bound) (tables : D → Option (List PlainView)) (leads : D → Call → D → Type 0) (s0 : SessionState) (d0 : D) where
  -- what was fed and appended, of all bytes
  pub record Fed (all first later : List ℕ) (s : SessionState) (d : D) (texts : List ℕ) : Type 0 where
    pub split : all ++ 10 ∷ [] ≡ first ++ later
    pub feeds : Feeds bounds splits tables leads s0 first d0 d [] texts s
    pub few : length first ≤ 2 ^ 64 - 1

  module _ (begins : IsNewSession s0) (all first later : List ℕ) (s : SessionState) (d : D) (texts : List ℕ) (f : Fed all first later s d texts) where
    from_none : fed s0.begun first ≡ fed [] first
    from_none = ap (λ b. fed b first) begins.begun

    whole : until_last (fed [] first) ≡ fed [] first
    whole = subst (λ (rs : List Reading). until_last rs ≡ rs) from_none f.feeds.last

    pub as_many : length f.feeds.answered.answers ≡ length (fed [] first)
    as_many = AreMadeOf-count (splits d0) s0.progress.policy (fed s0.begun first) f.feeds.answered.answers f.feeds.answered.made.0 f.feeds.answered.made.2 ∙ ap length from_none

    bounded : s0.progress.statements + length f.feeds.answered.answers ≤ 2 ^ 64 - 1
    bounded = let fewer = few_fed [] first in let few = f.few in let c = as_many in let z = begins.statements_are in omega (arith, fewer, few, c, z)

    pub counted : s.progress.statements ≡ length f.feeds.answered.answers
    counted =
        let sum = all_noted-count s0.progress f.feeds.answered.answers bounded in
        let same = ap (λ (p : SessionProgress). p.statements) f.feeds.answered.progress_is in
        let z = begins.statements_are in
        omega (arith, sum, same, z)

    pub short : s.progress.first_short ≡ first_short f.feeds.answered.answers
    short =
        ap (λ (p : SessionProgress). p.first_short) f.feeds.answered.progress_is
        ∙ all_noted-short s0.progress f.feeds.answered.answers begins.short_is bounded
        ∙ ap (λ (z : ℕ). option_map (λ k. k + z) (first_short f.feeds.answered.answers)) begins.statements_are
        ∙ short_from_0 (first_short f.feeds.answered.answers)

    pub texts_are : concat (map answer_text f.feeds.answered.answers) ≡ texts ++ s.unwritten
    texts_are =
        ap (λ u. u ++ concat (map answer_text f.feeds.answered.answers)) (sym begins.unwritten)
        ∙ f.feeds.answered.texts_are
        ∙ ap (λ o. o ++ s.unwritten) (sym f.feeds.answered.out_is)

    pub answered : (readings : List Reading) → readings ≡ fed [] first → AreAllAnswered bounds splits tables leads s0.progress.policy d0 d readings f.feeds.answered.answers
    answered readings is =
        let same : fed s0.begun first ≡ readings = from_none ∙ sym is in
        record {
          made = subst (λ (rs : List Reading). AreAnswersOf leads (splits d0) s0.progress.policy d0 d rs f.feeds.answered.answers) same f.feeds.answered.made;
          if_known = λ known e. subst (λ (rs : List Reading). (next : List PlainView) × AreAnswers (bounds d0) (splits d0) known rs f.feeds.answered.answers next × (tables d ≡ Some next)) same (f.feeds.answered.if_known known e);
        }

    -- the statements answered are the first of all
    pub first_of_all : take (length f.feeds.answered.answers) (statements all) ≡ fed [] first
    first_of_all =
        let more = until_last-front (fed [] first) (fed (unfinished [] first) later) whole in
        ap (take (length f.feeds.answered.answers)) (statements_front all first later f.split ∙ more.1) ∙ take_at (fed [] first) more.0 (length f.feeds.answered.answers) (sym as_many)

    ending_of : s.ending ≡ ended_by_any None (fed [] first)
    ending_of = f.feeds.answered.ending_is ∙ ap (λ (e : Option ClosingLine). ended_by_any e (fed s0.begun first)) begins.ending ∙ ap (ended_by_any None) from_none

    -- or all, if a line has ended the session, or the input
    pub all_by_line : (last : ClosingLine) → s.ending ≡ Some last → (statements all ≡ fed [] first) × (list_any is_last (statements all) ≡ true)
    all_by_line last said =
        let over = sym ending_of ∙ said in
        let is = statements_front all first later f.split ∙ until_last-over (fed [] first) (fed (unfinished [] first) later) last whole over in
        (is, ap (list_any is_last) is ∙ any_last (fed [] first) last over)

    pub all_by_input : later ≡ [] → s.ending ≡ None → (statements all ≡ fed [] first) × (list_any is_last (statements all) ≡ false)
    all_by_input none said =
        let is = statements_front all first later f.split ∙ ap (λ (l : List ℕ). until_last (fed [] first ++ fed (unfinished [] first) l)) none ∙ ap until_last (append-nil (fed [] first)) ∙ whole in
        (is, ap (list_any is_last) is ∙ none_last (fed [] first) whole (sym ending_of ∙ said))

    pub whole_first : statements (whole_lines first) ≡ fed [] first
    whole_first = statements_whole first ∙ whole

  module _ (known0 out0 : Option (List ℕ)) where
    -- a session after its last read
    pub record Left (t : SessionState) (e : D) (known : Option (List ℕ)) (texts : List ℕ) : Type 0 where
      pub used : List ℕ
      pub of : AllOf known0 known used
      pub first : List ℕ
      pub later : List ℕ
      pub fed : Fed of.all first later t e texts

    -- no read is answered
    pub Left-before : (s : SessionState) (d : D) (known known' out : Option (List ℕ)) (count : ℕ) (r : Running bounds splits tables leads s0 d0 known0 out0 s d known out count) → count ≤ 1000000000 → Keeps known known' → (l : Left s d known' r.texts) × (l.first ≡ l.used)
    Left-before s d known known' out count r few kept =
        let of = all_of known0 known' r.bytes (Consumes-kept known0 known known' r.bytes r.consumed kept) in
        let most = r.most in (
          record {
            used = r.bytes;
            of = of;
            first = r.bytes;
            later = of.rest ++ 10 ∷ [];
            fed = record { split = ap (λ z. z ++ 10 ∷ []) of.split ∙ append_assoc r.bytes of.rest (10 ∷ []); feeds = r.feeds; few = omega (arith, most, few) };
          },
          refl,
        )

    -- or some of it
    pub Left-after : (s t : SessionState) (d e : D) (known known' out : Option (List ℕ)) (count n : ℕ) (chunk texts : List ℕ) (r : Running bounds splits tables leads s0 d0 known0 out0 s d known out count) → count < 1000000000 → Consumes known known' chunk → length chunk ≤ 4096 → (chunk ≡ [] → IsAtEnd known') → Feeds bounds splits tables leads s (take n (fed_by chunk)) d e [] texts t → (l : Left t e known' (r.texts ++ texts)) × (chunk ≡ [] → l.later ≡ drop n (10 ∷ []))
    Left-after s t d e known known' out count n [] texts r below consumed few end feeds =
        let all = subst (Consumes known0 known') (append-nil r.bytes) (Consumes-trans known0 known known' r.bytes [] r.consumed consumed) in
        let of = all_end known0 known' r.bytes all (end refl) in
        let most = r.most in
        let long = length-append r.bytes (take n (10 ∷ [])) in
        let ten : List ℕ = 10 ∷ [] in
        let short = length-take n ten in (
          record {
            used = r.bytes;
            of = of.0;
            first = r.bytes ++ take n (10 ∷ []);
            later = drop n (10 ∷ []);
            fed = record {
              split = ap (λ z. z ++ 10 ∷ []) of.1 ∙ ap (λ z. r.bytes ++ z) (sym (take-append-drop n (10 ∷ []))) ∙ sym (append_assoc r.bytes (take n (10 ∷ [])) (drop n (10 ∷ [])));
              feeds = Feeds-on bounds splits tables leads s0 s t r.bytes (take n (10 ∷ [])) d0 d e r.texts texts r.feeds feeds;
              few = omega (arith, most, below, long, short);
            };
          },
          λ _. refl,
        )
    Left-after s t d e known known' out count n (b ∷ bs) texts r below consumed few end feeds =
        let chunk : List ℕ = b ∷ bs in
        let used = r.bytes ++ chunk in
        let of = all_of known0 known' used (Consumes-trans known0 known known' r.bytes chunk r.consumed consumed) in
        let most = r.most in
        let long = length-append r.bytes (take n chunk) in
        let short = length-take n chunk in (
          record {
            used = used;
            of = of;
            first = r.bytes ++ take n chunk;
            later = drop n chunk ++ (of.rest ++ 10 ∷ []);
            fed = record {
              split = ap (λ z. z ++ 10 ∷ []) of.split ∙ append_assoc used of.rest (10 ∷ []) ∙ append_assoc r.bytes chunk (of.rest ++ 10 ∷ [])
                  ∙ ap (λ z. r.bytes ++ z) (ap (λ z. z ++ (of.rest ++ 10 ∷ [])) (sym (take-append-drop n chunk)) ∙ append_assoc (take n chunk) (drop n chunk) (of.rest ++ 10 ∷ []))
                  ∙ sym (append_assoc r.bytes (take n chunk) (drop n chunk ++ (of.rest ++ 10 ∷ [])));
              feeds = Feeds-on bounds splits tables leads s0 s t r.bytes (take n chunk) d0 d e r.texts texts r.feeds feeds;
              few = omega (arith, most, below, long, short, few);
            };
          },
          λ none. absurd (let both : ◌≡◌ {A = List ℕ} (b ∷ bs) [] = none in cc),
        )

    -- it has ended
    pub served : (begins : IsNewSession s0) (t : SessionState) (e : D) (known out : Option (List ℕ)) (texts : List ℕ) (how : How) (l : Left t e known texts) → Appends out0 out texts → t.unwritten ≡ [] → (statements l.of.all ≡ fed_from_none l.first) × (how ≡ cond (list_any is_last (statements l.of.all)) Quit InputEnded)
        → IsServed bounds splits tables leads s0.progress.policy d0 e known0 out0 out (record { how = how; statements = t.progress.statements; first_short = t.progress.first_short })
    served begins t e known out texts how l sent written ends =
        let whole : concat (map answer_text l.fed.feeds.answered.answers) ≡ texts = texts_are begins l.of.all l.first l.later t e texts l.fed ∙ ap (λ u. texts ++ u) written ∙ append-nil texts in
        record {
          bytes = l.of.all;
          bytes_are = l.of.all_is;
          answers = l.fed.feeds.answered.answers;
          are = answered begins l.of.all l.first l.later t e texts l.fed (statements l.of.all) ends.0;
          count_is = counted begins l.of.all l.first l.later t e texts l.fed;
          how_is = ends.1;
          short_is = short begins l.of.all l.first l.later t e texts l.fed;
          written_is = subst (Appends out0 out) (sym whole) sent;
        }

    -- or was cut off
    pub cut : (begins : IsNewSession s0) (t : SessionState) (e : D) (known out : Option (List ℕ)) (texts : List ℕ) (refusal : Refusal) (l : Left t e known texts) (sent unsent : List ℕ) → Appends out0 out sent → texts ≡ sent ++ unsent → length unsent ≤ OUTPUT_BYTES → (refusal ≡ ReadFault → (l.first ≡ l.used) × (unsent ≡ []) × (t.unwritten ≡ []))
        → IsCutOff bounds splits tables leads s0.progress.policy d0 e known0 known out0 out (record { refusal = refusal; done = t.progress.statements; first_short = t.progress.first_short })
    cut begins t e known out texts refusal l sent unsent wrote parts few read =
        let first = first_of_all begins l.of.all l.first l.later t e texts l.fed in
        record {
          bytes = l.of.all;
          bytes_are = l.of.all_is;
          answers = l.fed.feeds.answered.answers;
          are = answered begins l.of.all l.first l.later t e texts l.fed _ first;
          count_is = counted begins l.of.all l.first l.later t e texts l.fed;
          short_is = short begins l.of.all l.first l.later t e texts l.fed;
          read = l.used;
          rest = l.of.rest;
          split = l.of.split;
          whole = λ is. (first ∙ sym (whole_first begins l.of.all l.first l.later t e texts l.fed) ∙ ap (λ (u : List ℕ). statements (whole_lines u)) (read is).0, l.of.rest_is);
          sent = sent;
          unsent = unsent;
          unwritten = t.unwritten;
          texts_are = texts_are begins l.of.all l.first l.later t e texts l.fed ∙ ap (λ z. z ++ t.unwritten) parts ∙ append_assoc sent unsent t.unwritten;
          written_is = wrote;
          few = few;
          left_is = subst (λ (u : List ℕ). IsLeftOf u l.fed.feeds.answered.answers t.unwritten) begins.unwritten l.fed.feeds.answered.left_is;
          all_sent = λ is. ((read is).1, (read is).2);
        }
