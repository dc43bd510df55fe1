-- The lines that are finished, one after the other, are the lines of all bytes.
use Rattle.std.proofs.Common.{◌≡◌, ℕ, ◌<◌, true, false, None, List, [], ◌∷◌, ◌++◌, length, eqb, refl, sym, ap, ◌∙◌, ⊎_elim, arith, append_assoc, append-nil, length-append}
use Rattle.std.proofs.lemmas.Bool.{cases_Bool, eqb-true}
use Rattle.std.proofs.lemmas.List.Elements.{filter_map-append}
use Rattle.std.specs.List.{filter_map}
use Rattle.crack_session.specs.AskingDesks.{of_option}
use Rattle.crack_session.specs.Feeding.{finished_lines, unfinished, fed}
use Rattle.crack_session.specs.Input.{has_feed, first_line, after_line}
use Rattle.crack_session.specs.Lines.{lines, cut_line}
use Rattle.crack_session.specs.Readings.{reading_of, statements, until_last}
use Rattle.crack_session.proofs.Feeds.{lines-first, first_line-append, after_line-append, has_feed-append, all_first_line, none_after, take-take-append}
use Rattle.crack_session.proofs.Following.{reading_kept}
use Rattle.crack_session.proofs.Pieces.{fed-append, meaning}

pub no_meaning : reading_of [] ≡ None
unfolding reading_of
no_meaning = refl

some_lines : (u : List ℕ) → 0 < length u → lines u ≡ first_line u ∷ lines (after_line u)
some_lines [] some = absurd (omega (arith, some))
some_lines (b ∷ bs) some = lines-first b bs

-- a line without its feed is the last one
last_line : (begun : List ℕ) → has_feed begun ≡ false → filter_map reading_of (lines begun) ≡ of_option (reading_of begun)
last_line [] none = sym (ap of_option no_meaning)
last_line (b ∷ bs) none =
    let u = b ∷ bs in
    ap (filter_map reading_of) (lines-first b bs ∙ ap (λ l. l ∷ lines (after_line u)) (all_first_line u none) ∙ ap (λ r. u ∷ lines r) (none_after u none)) ∙ meaning u

-- a line with its feed, and more bytes
next_line : (begun bs : List ℕ) → has_feed begun ≡ false → filter_map reading_of (lines (begun ++ 10 ∷ bs)) ≡ of_option (reading_of begun) ++ filter_map reading_of (lines bs)
next_line begun bs none =
    let u = begun ++ 10 ∷ bs in
    let some : 0 < length u = (let l = length-append begun (10 ∷ bs) in omega (arith, l)) in
    let first : first_line u ≡ begun = first_line-append begun (10 ∷ bs) none ∙ append-nil begun in
    let after : after_line u ≡ bs = after_line-append begun (10 ∷ bs) none in
    ap (filter_map reading_of) (some_lines u some ∙ ap (λ l. l ∷ lines (after_line u)) first ∙ ap (λ r. begun ∷ lines r) after)
    ∙ filter_map-append reading_of (begun ∷ []) (lines bs)
    ∙ ap (λ rs. rs ++ filter_map reading_of (lines bs)) (meaning begun)

all_lines : (begun bytes : List ℕ) → has_feed begun ≡ false → filter_map reading_of (lines (begun ++ bytes)) ≡ fed (cut_line begun) (bytes ++ 10 ∷ [])
all_lines begun [] none =
    ap (λ u. filter_map reading_of (lines u)) (append-nil begun) ∙ last_line begun none ∙ ap of_option (sym (reading_kept begun)) ∙ sym (meaning (cut_line begun))
all_lines begun (b ∷ bs) none = ⊎_elim
    (λ (e : eqb b 10 ≡ true).
    let ten : b ≡ 10 = eqb-true b 10 e in
    ap (λ (c : ℕ). filter_map reading_of (lines (begun ++ c ∷ bs))) ten
    ∙ next_line begun bs none
    ∙ ap (λ rs. rs ++ filter_map reading_of (lines bs)) (ap of_option (sym (reading_kept begun)) ∙ sym (meaning (cut_line begun)))
    ∙ ap (λ rs. filter_map reading_of (cut_line begun ∷ []) ++ rs) (all_lines [] bs refl)
    ∙ sym (filter_map-append reading_of (cut_line begun ∷ []) (finished_lines [] (bs ++ 10 ∷ [])))
    ∙ rw e refl)
    (λ (e : eqb b 10 ≡ false).
    let more : has_feed (begun ++ b ∷ []) ≡ false = has_feed-append begun (b ∷ []) none ∙ rw e refl in
    ap (λ u. filter_map reading_of (lines u)) (sym (append_assoc begun (b ∷ []) bs))
    ∙ all_lines (begun ++ b ∷ []) bs more
    ∙ ap (λ k. fed k (bs ++ 10 ∷ [])) (sym (take-take-append 202 begun (b ∷ [])))
    ∙ rw e refl)
    (cases_Bool (eqb b 10))

-- the statements of bytes are those that they finish, and then that of the line that is left, once it is ended
pub statements_fed : (begun bytes : List ℕ) → begun ≡ unfinished [] bytes → until_last (fed [] bytes ++ fed begun (10 ∷ [])) ≡ statements bytes
statements_fed begun bytes is =
    ap (λ k. until_last (fed [] bytes ++ fed k (10 ∷ []))) is
    ∙ ap until_last (sym (fed-append [] bytes (10 ∷ [])))
    ∙ ap until_last (sym (all_lines [] bytes refl))
