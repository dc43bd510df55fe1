-- The text of bytes that are taken one after the other.
use Rattle.std.proofs.Common.{◌≡◌, ℕ, zero, suc, ◌&&◌, Bool, true, false, cond, eqb, List, [], ◌∷◌, ◌++◌, refl, sym, ap, ◌∙◌, subst, append-nil, append_assoc}
use Rattle.std.proofs.lemmas.Bool.{eqb-true}
use Rattle.csv.specs.Reading.{strip_bom, is_bom}
use Rattle.csv.specs.declared.parser.State.TheVariants as st
use Rattle.crack_csv.specs.Begun.{none_begun, after_bytes, after_byte, finished_records, finished_by}
use Rattle.crack_csv.specs.Loaders.{IsHead, records_in, begun_in}
use Rattle.crack_csv.specs.Taking.{head_after}
use Rattle.crack_csv.proofs.Fed.{after_bytes-append, after_bytes-one, finished-append, finished-one}

-- bytes that don't begin with a byte order mark
no_mark : (a b c : ℕ) (rest : List ℕ) → is_bom a b c ≡ false → strip_bom (a ∷ b ∷ c ∷ rest) ≡ a ∷ b ∷ c ∷ rest
unfolding strip_bom
no_mark a b c rest e = rw e refl

no_second : (a b c : ℕ) → eqb b 0xBB ≡ false → is_bom a b c ≡ false
no_second a b c e = by (eqb a 0xEF)
  where
    by : (p : Bool) → ((p && eqb b 0xBB) && eqb c 0xBF) ≡ false
    by true = rw e refl
    by false = refl

no_first : (a b c : ℕ) → eqb a 0xEF ≡ false → is_bom a b c ≡ false
no_first a b c e = rw e refl

no_third : (c : ℕ) → eqb c 0xBF ≡ false → is_bom 0xEF 0xBB c ≡ false
no_third c e = rw e refl

both_true : (a b : Bool) → (a && b) ≡ true → (a ≡ true) × (b ≡ true)
both_true true b e = (refl, e)
both_true false b e = absurd (cc e)

-- the first bytes of a byte order mark
mark_is : (a b c : ℕ) → is_bom a b c ≡ true → (a ≡ 0xEF) × (b ≡ 0xBB)
mark_is a b c e = let both = both_true (eqb a 0xEF && eqb b 0xBB) (eqb c 0xBF) e in let first = both_true (eqb a 0xEF) (eqb b 0xBB) both.0 in (eqb-true a 0xEF first.0, eqb-true b 0xBB first.1)

-- a first byte that isn't the mark's
pub not_first : (c : ℕ) → eqb c 0xEF ≡ false → IsHead 3 (c ∷ [])
unfolding strip_bom
not_first c e [] = refl
not_first c e (d ∷ []) = refl
not_first c e (d ∷ f ∷ rest) = no_mark c d f rest (no_first c d f e)

pub not_second : (c : ℕ) → eqb c 0xBB ≡ false → IsHead 3 (0xEF ∷ c ∷ [])
unfolding strip_bom
not_second c e [] = refl
not_second c e (d ∷ rest) = no_mark 0xEF c d rest (no_second 0xEF c d e)

pub not_third : (c : ℕ) → eqb c 0xBF ≡ false → IsHead 3 (0xEF ∷ 0xBB ∷ c ∷ [])
unfolding strip_bom
not_third c e more = no_mark 0xEF 0xBB c more (no_third c e) ∙ ap (λ z. z ++ more) (sym (no_mark 0xEF 0xBB c [] (no_third c e)))

pub third : IsHead 3 (0xEF ∷ 0xBB ∷ 0xBF ∷ [])
unfolding strip_bom
third more = refl

pub behind_head : (n : ℕ) (bytes : List ℕ) (c : ℕ) → IsHead (suc (suc (suc n))) bytes → IsHead (suc (suc (suc n))) (bytes ++ c ∷ [])
behind_head n bytes c head more = ap strip_bom (append_assoc bytes (c ∷ []) more) ∙ head (c ∷ more) ∙ sym (append_assoc (strip_bom bytes) (c ∷ []) more) ∙ ap (λ z. z ++ more) (sym (head (c ∷ [])))

-- one more byte of the text
pub begun_more : (bytes : List ℕ) (c : ℕ) → strip_bom (bytes ++ c ∷ []) ≡ strip_bom bytes ++ c ∷ [] → begun_in (bytes ++ c ∷ []) ≡ after_byte (begun_in bytes) c
begun_more bytes c e = ap (after_bytes (none_begun st.StartRecord)) e ∙ after_bytes-append (none_begun st.StartRecord) (strip_bom bytes) (c ∷ []) ∙ after_bytes-one (begun_in bytes) c

pub records_more : (bytes : List ℕ) (c : ℕ) → strip_bom (bytes ++ c ∷ []) ≡ strip_bom bytes ++ c ∷ [] → records_in (bytes ++ c ∷ []) ≡ records_in bytes ++ finished_by (begun_in bytes) c
records_more bytes c e =
    ap (finished_records (none_begun st.StartRecord)) e ∙ finished-append (none_begun st.StartRecord) (strip_bom bytes) (c ∷ []) ∙ ap (λ z. records_in bytes ++ z) (finished-one (begun_in bytes) c)

-- a byte order mark is no part of the text
pub begun_marked : begun_in (0xEF ∷ 0xBB ∷ 0xBF ∷ []) ≡ none_begun st.StartRecord
unfolding strip_bom after_bytes
begun_marked = refl

pub records_marked : records_in (0xEF ∷ 0xBB ∷ 0xBF ∷ []) ≡ records_in (0xEF ∷ 0xBB ∷ [])
unfolding strip_bom finished_records
records_marked = refl

none_in_first : (a : ℕ) → a ≡ 0xEF → records_in (a ∷ []) ≡ []
unfolding strip_bom finished_records
none_in_first a is = rw is refl

none_in_second : (a b : ℕ) → a ≡ 0xEF → b ≡ 0xBB → records_in (a ∷ b ∷ []) ≡ []
unfolding strip_bom finished_records
none_in_second a b first second = rw (first, second) refl

-- the records that bytes finish are the first of those that more bytes finish
pub records_grow : (bytes more : List ℕ) → (rest : List (List (List ℕ))) × (records_in (bytes ++ more) ≡ records_in bytes ++ rest)
unfolding strip_bom finished_records
records_grow [] more = (records_in more, refl)
records_grow (a ∷ []) [] = ([], sym (append-nil (records_in (a ∷ []))))
records_grow (a ∷ []) (b ∷ []) = (finished_records (after_bytes (none_begun st.StartRecord) (a ∷ [])) (b ∷ []), finished-append (none_begun st.StartRecord) (a ∷ []) (b ∷ []))
records_grow (a ∷ []) (b ∷ c ∷ more) = by (is_bom a b c) refl
  where
    by : (t : Bool) → is_bom a b c ≡ t → (rest : List (List (List ℕ))) × (records_in (a ∷ b ∷ c ∷ more) ≡ records_in (a ∷ []) ++ rest)
    by true e = (records_in (a ∷ b ∷ c ∷ more), ap (λ (z : List (List (List ℕ))). z ++ records_in (a ∷ b ∷ c ∷ more)) (sym (none_in_first a (mark_is a b c e).0)))
    by false e = (finished_records (after_bytes (none_begun st.StartRecord) (a ∷ [])) (b ∷ c ∷ more), rw e (finished-append (none_begun st.StartRecord) (a ∷ []) (b ∷ c ∷ more)))
records_grow (a ∷ b ∷ []) [] = ([], sym (append-nil (records_in (a ∷ b ∷ []))))
records_grow (a ∷ b ∷ []) (c ∷ more) = by (is_bom a b c) refl
  where
    by : (t : Bool) → is_bom a b c ≡ t → (rest : List (List (List ℕ))) × (records_in (a ∷ b ∷ c ∷ more) ≡ records_in (a ∷ b ∷ []) ++ rest)
    by true e = (records_in (a ∷ b ∷ c ∷ more), ap (λ (z : List (List (List ℕ))). z ++ records_in (a ∷ b ∷ c ∷ more)) (sym (none_in_second a b (mark_is a b c e).0 (mark_is a b c e).1)))
    by false e = (finished_records (after_bytes (none_begun st.StartRecord) (a ∷ b ∷ [])) (c ∷ more), rw e (finished-append (none_begun st.StartRecord) (a ∷ b ∷ []) (c ∷ more)))
records_grow (a ∷ b ∷ c ∷ bytes) more = by (is_bom a b c)
  where
    by : (t : Bool) → (rest : List (List (List ℕ))) × (finished_records (none_begun st.StartRecord) (cond t (bytes ++ more) (a ∷ b ∷ c ∷ (bytes ++ more))) ≡ finished_records (none_begun st.StartRecord) (cond t bytes (a ∷ b ∷ c ∷ bytes)) ++ rest)
    by true = (finished_records (after_bytes (none_begun st.StartRecord) bytes) more, finished-append (none_begun st.StartRecord) bytes more)
    by false = (finished_records (after_bytes (none_begun st.StartRecord) (a ∷ b ∷ c ∷ bytes)) more, finished-append (none_begun st.StartRecord) (a ∷ b ∷ c ∷ bytes) more)

-- one more byte of the text, which isn't the last of a byte order mark
pub head_step : (h : ℕ) (before : List ℕ) (c : ℕ) → IsHead h before → (h ≡ 2 → eqb c 0xBF ≡ false) → IsHead (head_after h c) (before ++ c ∷ []) × (strip_bom (before ++ c ∷ []) ≡ strip_bom before ++ c ∷ [])
unfolding strip_bom
head_step zero before c head other = rw head (by (eqb c 0xEF) refl)
  where
    by : (t : Bool) → eqb c 0xEF ≡ t → IsHead (cond t 1 3) (c ∷ []) × (strip_bom (c ∷ []) ≡ c ∷ [])
    by true e = (ap (λ z. z ∷ []) (eqb-true c 0xEF e), refl)
    by false e = (not_first c e, refl)
head_step (suc zero) before c head other = rw head (by (eqb c 0xBB) refl)
  where
    by : (t : Bool) → eqb c 0xBB ≡ t → IsHead (cond t 2 3) (0xEF ∷ c ∷ []) × (strip_bom (0xEF ∷ c ∷ []) ≡ 0xEF ∷ c ∷ [])
    by true e = (ap (λ z. 0xEF ∷ z ∷ []) (eqb-true c 0xBB e), refl)
    by false e = (not_second c e, refl)
head_step (suc (suc zero)) before c head other = rw head (not_third c (other refl), no_mark 0xEF 0xBB c [] (no_third c (other refl)))
head_step (suc (suc (suc n))) before c head other = (behind_head n before c head, head (c ∷ []))

-- the last byte of a byte order mark
pub marked : (h : ℕ) (before : List ℕ) (c : ℕ) → h ≡ 2 → c ≡ 0xBF → IsHead h before → IsHead 3 (before ++ c ∷ []) × (begun_in (before ++ c ∷ []) ≡ none_begun st.StartRecord) × (records_in (before ++ c ∷ []) ≡ records_in before)
marked h before c two last head =
    let is : before ≡ 0xEF ∷ 0xBB ∷ [] = subst (λ n. IsHead n before) two head in
    rw (is, last) (third, begun_marked, records_marked)
