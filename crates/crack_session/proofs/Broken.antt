-- The statements of bytes whose sender is gone are those that the bytes finish, and the refusal of what is left.
use Rattle.std.proofs.Common.{◌≡◌, ℕ, cond, true, false, Option, None, Some, List, [], ◌∷◌, ◌++◌, eqb, refl, sym, ap, ◌∙◌, ⊎_elim, append_assoc, append-nil}
use Rattle.std.proofs.lemmas.Bool.{cases_Bool, false≢true}
use Rattle.std.specs.Option.{is_some}
use Rattle.crack_row.specs.declared.refusal.Refusal.{Refusal}
use Rattle.crack_row.specs.declared.refusal.Refusal.TheVariants.{BadStatement}
use Rattle.crack_commands.specs.Grammar.{Reading}
use Rattle.crack_commands.specs.Texts.{refusal_text}
use Rattle.crack_session.specs.declared.answer.Answer.TheVariants.{Refused}
use Rattle.crack_session.specs.declared.session.SessionProgress.{SessionProgress}
use Rattle.crack_session.specs.Answers.{answer_text}
use Rattle.crack_session.specs.Feeding.{SessionState, BreaksOff, progress_after, unfinished, fed}
use Rattle.crack_session.specs.Input.{has_feed}
use Rattle.crack_session.specs.Lines.{cut_line}
use Rattle.crack_session.specs.Readings.{reading_of, until_last, is_last, broken_off, refused_if_some}
use Rattle.crack_session.specs.Sessions.{last_line, statements_sent}
use Rattle.crack_session.proofs.Ended.{statements_whole}
use Rattle.crack_session.proofs.Feeds.{take-take-append}
use Rattle.crack_session.proofs.Following.{reading_kept}

last_or_all : (bytes : List ℕ) → cond (has_feed bytes) (last_line bytes) bytes ≡ last_line bytes
last_or_all [] = refl
last_or_all (b ∷ bs) = ⊎_elim
    (λ (h : has_feed (b ∷ bs) ≡ true). rw h refl)
    (λ (h : has_feed (b ∷ bs) ≡ false). rw h refl)
    (cases_Bool (has_feed (b ∷ bs)))

-- the unfinished line is the last one, as far as it is kept
unfinished_last : (begun bytes : List ℕ) → unfinished (cut_line begun) bytes ≡ cut_line (cond (has_feed bytes) (last_line bytes) (begun ++ bytes))
unfinished_last begun [] = ap cut_line (sym (append-nil begun))
unfinished_last begun (b ∷ bs) = ⊎_elim
    (λ (e : eqb b 10 ≡ true). rw e (unfinished_last [] bs ∙ ap cut_line (last_or_all bs)))
    (λ (e : eqb b 10 ≡ false).
    let more = ap (λ k. unfinished k bs) (take-take-append 202 begun (b ∷ [])) ∙ unfinished_last (begun ++ b ∷ []) bs in
    ⊎_elim
    (λ (h : has_feed bs ≡ true). rw (e, h) (more ∙ rw h refl))
    (λ (h : has_feed bs ≡ false). rw (e, h) (more ∙ rw h (ap cut_line (append_assoc begun (b ∷ []) bs))))
    (cases_Bool (has_feed bs)))
    (cases_Bool (eqb b 10))

broken_last : (bytes : List ℕ) → broken_off (unfinished [] bytes) ≡ broken_off (last_line bytes)
broken_last bytes = ap refused_if_some (ap reading_of (unfinished_last [] bytes ∙ ap cut_line (last_or_all bytes)) ∙ reading_kept (last_line bytes))

-- statements that end a session end it with others after them too
until_last-again : (xs ys : List Reading) → until_last (until_last xs ++ ys) ≡ until_last (xs ++ ys)
until_last-again [] ys = refl
until_last-again (x ∷ xs) ys = ⊎_elim
    (λ (e : is_last x ≡ true). rw (e, e) refl)
    (λ (e : is_last x ≡ false). rw (e, e) (ap (λ rs. x ∷ rs) (until_last-again xs ys)))
    (cases_Bool (is_last x))

pub statements_broken : (begun bytes : List ℕ) → begun ≡ unfinished [] bytes → until_last (fed [] bytes ++ broken_off begun) ≡ statements_sent bytes
statements_broken begun bytes is =
    ap (λ k. until_last (fed [] bytes ++ broken_off k)) is
    ∙ ap (λ rs. until_last (fed [] bytes ++ rs)) (broken_last bytes)
    ∙ sym (until_last-again (fed [] bytes) (broken_off (last_line bytes)))
    ∙ ap (λ rs. until_last (rs ++ broken_off (last_line bytes))) (sym (statements_whole bytes))

text_of_refusal : (e : Refusal) → refusal_text e ≡ answer_text (Refused e)
unfolding answer_text
text_of_refusal e = refl

counted_in : (old inside : SessionState) (p : SessionProgress) → inside ≡ record old { begun = [] } → p ≡ progress_after inside.progress (Refused BadStatement) → record inside { progress = p } ≡ record old { begun = []; progress = progress_after old.progress (Refused BadStatement) }
counted_in old inside p is counted =
    ap (λ (q : SessionProgress). record inside { progress = q }) counted
    ∙ ap (λ (s : SessionState). record s { progress = progress_after s.progress (Refused BadStatement) }) is

-- a line that isn't blank is refused
pub breaks_some : (old inside : SessionState) (p : SessionProgress) (out out' : List ℕ) (r : Option Reading) → r ≡ reading_of (old.begun ++ []) → is_some r ≡ true → inside ≡ record old { begun = [] } → p ≡ progress_after inside.progress (Refused BadStatement) → out' ≡ out ++ refusal_text BadStatement → BreaksOff old out out' (record inside { progress = p })
breaks_some old inside p out out' None reading some is counted text = absurd (false≢true some)
breaks_some old inside p out out' (Some r) reading some is counted text =
    let read : reading_of old.begun ≡ Some r = ap reading_of (sym (append-nil old.begun)) ∙ sym reading in
    record {
      out_is = rw read (text ∙ ap (λ t. out ++ t) (text_of_refusal BadStatement ∙ sym (append-nil (answer_text (Refused BadStatement)))));
      after = rw read (counted_in old inside p is counted);
    }
