-- The statements of some bytes, line by line.
use Rattle.std.proofs.Common.{◌≡◌, ℕ, ◌+◌, ◌-◌, ◌<◌, ◌≤◌, Bool, true, false, cond, Some, None, List, [], ◌∷◌, length, take, get_or, refl, sym, ap, ◌∙◌, inl, inr, ⊎_elim, arith, eqb, ltb, length-take}
use Rattle.std.proofs.lemmas.Bool.{cond_both, lt-ltb, cases_lt}
use Rattle.std.proofs.lemmas.List.{take_all, take-take}
use Rattle.std.specs.List.{filter_map}
use Rattle.crack_session.specs.Lines.{without_return, cut_line}
use Rattle.crack_session.specs.Input.{first_line, after_line}
use Rattle.crack_session.specs.Readings.{statements, until_last, reading_of, is_last}
use Rattle.crack_commands.specs.Grammar.{Reading, long_of}
use Rattle.crack_session.proofs.Feeds.{lines-first}

-- a line has the meaning of its kept bytes
shorter_by_one : (xs : List ℕ) → length xs ≤ length (without_return xs) + 1
shorter_by_one xs =
    let cut = length-take (length xs - 1) xs in
    cond_both (eqb (get_or xs (length xs - 1) 0) 13) (take (length xs - 1) xs) xs (λ (t : List ℕ). length xs ≤ length t + 1) (λ e. omega (arith, cut)) (λ e. omega arith)

same_front : (xs : List ℕ) → 201 < length xs → take 200 (without_return xs) ≡ take 200 xs
same_front xs l = cond_both (eqb (get_or xs (length xs - 1) 0) 13) (take (length xs - 1) xs) xs (λ (t : List ℕ). take 200 t ≡ take 200 xs) (λ e. take-take 200 (length xs - 1) xs (omega arith)) (λ e. refl)

too_long : (xs : List ℕ) → 201 < length xs → reading_of xs ≡ Some (long_of (take 200 xs))
unfolding reading_of
too_long xs l = let more = shorter_by_one xs in let test : ltb 200 (length (without_return xs)) ≡ true = lt-ltb _ _ (omega (arith, more)) in rw (test, same_front xs l) refl

pub reading_kept : (raw : List ℕ) → reading_of (cut_line raw) ≡ reading_of raw
reading_kept raw = ⊎_elim
    (λ (l : length raw ≤ 202). ap reading_of (take_all 202 raw l))
    (λ (l : 202 < length raw). let cut = length-take 202 raw in too_long (take 202 raw) (omega (arith, cut)) ∙ ap (λ front. Some (long_of front)) (take-take 200 202 raw (omega arith)) ∙ sym (too_long raw (omega arith)))
    (⊎_elim (λ (l : 202 < length raw). inr l) (λ (l : length raw ≤ 202). inl l) (cases_lt 202 (length raw)))

-- the meaning of the lines of some bytes
statements-blank : (b : ℕ) (bs : List ℕ) → reading_of (first_line (b ∷ bs)) ≡ None → statements (b ∷ bs) ≡ statements (after_line (b ∷ bs))
statements-blank b bs e = ap (λ ls. until_last (filter_map reading_of ls)) (lines-first b bs) ∙ rw e refl

statements-some : (b : ℕ) (bs : List ℕ) (r : Reading) → reading_of (first_line (b ∷ bs)) ≡ Some r → statements (b ∷ bs) ≡ cond (is_last r) (r ∷ []) (r ∷ statements (after_line (b ∷ bs)))
statements-some b bs r e = ap (λ ls. until_last (filter_map reading_of ls)) (lines-first b bs) ∙ rw e refl

cond_cons : (q : Bool) (r : Reading) (rs : List Reading) → cond q (r ∷ []) (r ∷ rs) ≡ r ∷ cond q [] rs
cond_cons true r rs = refl
cond_cons false r rs = refl

-- a line has the meaning of its kept bytes, even if only its beginning is kept
same_reading : (u line : List ℕ) → cut_line line ≡ cut_line (first_line u) → reading_of (first_line u) ≡ reading_of line
same_reading u line k = sym (reading_kept (first_line u)) ∙ ap reading_of (sym k) ∙ reading_kept line

-- after a blank line
pub next_blank : (u line : List ℕ) → 0 < length u → cut_line line ≡ cut_line (first_line u) → reading_of line ≡ None → statements u ≡ statements (after_line u)
next_blank [] line l k e = absurd (omega arith)
next_blank (b ∷ bs) line l k e = statements-blank b bs (same_reading (b ∷ bs) line k ∙ e)

-- after a line that is answered
pub next_some : (u line : List ℕ) (r : Reading) → 0 < length u → cut_line line ≡ cut_line (first_line u) → reading_of line ≡ Some r → statements u ≡ r ∷ cond (is_last r) [] (statements (after_line u))
next_some [] line r l k e = absurd (omega arith)
next_some (b ∷ bs) line r l k e = statements-some b bs r (same_reading (b ∷ bs) line k ∙ e) ∙ cond_cons (is_last r) r (statements (after_line (b ∷ bs)))
