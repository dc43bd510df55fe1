-- Line feeds and lines.
use Rattle.std.proofs.Common.{◌≡◌, ℕ, ◌+◌, ◌<◌, ◌≤◌, true, false, eqb, Some, None, List, [], ◌∷◌, ◌++◌, length, take, drop, get_or, refl, sym, ap, ◌∙◌, arith, ⊎_elim, add-one, drop-cons, suc, zero, append-nil, append_assoc, length-append, length-take}
use Rattle.std.proofs.lemmas.Bool.{or_parts, cases_Bool, ne_eqb, eq-eqb, eqb-true, false≢true}
use Rattle.std.proofs.lemmas.List.{take_more, take-append-drop, take_all}
use Rattle.std.proofs.Math.Seq.{take-append_seam}
use Rattle.memchr.specs.Find.{Nowhere, Passes, IsFirstByte, is_byte}
use Rattle.crack_session.specs.Lines.{lines}
use Rattle.crack_session.specs.Input.{has_feed, first_line, after_line}

-- a prefix without a line feed belongs to the first line
pub first_line-append : (xs ys : List ℕ) → has_feed xs ≡ false → first_line (xs ++ ys) ≡ xs ++ first_line ys
first_line-append [] ys h = refl
first_line-append (b ∷ bs) ys h =
    let each = or_parts (eqb b 10) (has_feed bs) h in
    let other : eqb b 10 ≡ false = each.0 in
    rw (other, first_line-append bs ys each.1) refl

pub after_line-append : (xs ys : List ℕ) → has_feed xs ≡ false → after_line (xs ++ ys) ≡ after_line ys
after_line-append [] ys h = refl
after_line-append (b ∷ bs) ys h =
    let each = or_parts (eqb b 10) (has_feed bs) h in
    let other : eqb b 10 ≡ false = each.0 in
    rw (other, after_line-append bs ys each.1) refl

pub has_feed-append : (xs ys : List ℕ) → has_feed xs ≡ false → has_feed (xs ++ ys) ≡ has_feed ys
has_feed-append [] ys h = refl
has_feed-append (b ∷ bs) ys h =
    let each = or_parts (eqb b 10) (has_feed bs) h in
    let other : eqb b 10 ≡ false = each.0 in
    rw (other, has_feed-append bs ys each.1) refl

-- a prefix with a line feed has the first line
pub first_line-in : (xs ys : List ℕ) → has_feed xs ≡ true → first_line (xs ++ ys) ≡ first_line xs
first_line-in [] ys h = absurd (false≢true h)
first_line-in (b ∷ bs) ys h = ⊎_elim
    (λ (e : eqb b 10 ≡ true). rw e refl)
    (λ (e : eqb b 10 ≡ false). let more : has_feed bs ≡ true = rw e at h in rw (e, first_line-in bs ys more) refl)
    (cases_Bool (eqb b 10))

pub after_line-in : (xs ys : List ℕ) → has_feed xs ≡ true → after_line (xs ++ ys) ≡ after_line xs ++ ys
after_line-in [] ys h = absurd (false≢true h)
after_line-in (b ∷ bs) ys h = ⊎_elim
    (λ (e : eqb b 10 ≡ true). rw e refl)
    (λ (e : eqb b 10 ≡ false). let more : has_feed bs ≡ true = rw e at h in rw (e, after_line-in bs ys more) refl)
    (cases_Bool (eqb b 10))

pub has_feed-in : (xs ys : List ℕ) → has_feed xs ≡ true → has_feed (xs ++ ys) ≡ true
has_feed-in [] ys h = absurd (false≢true h)
has_feed-in (b ∷ bs) ys h = ⊎_elim
    (λ (e : eqb b 10 ≡ true). rw e refl)
    (λ (e : eqb b 10 ≡ false). let more : has_feed bs ≡ true = rw e at h in rw (e, has_feed-in bs ys more) refl)
    (cases_Bool (eqb b 10))

-- bytes that begin with a whole line have this first line
pub lines-first : (b : ℕ) (bs : List ℕ) → lines (b ∷ bs) ≡ first_line (b ∷ bs) ∷ lines (after_line (b ∷ bs))
lines-first b [] = ⊎_elim
    (λ (e : eqb b 10 ≡ true). rw e refl)
    (λ (e : eqb b 10 ≡ false). rw e refl)
    (cases_Bool (eqb b 10))
lines-first b (c ∷ bs) = ⊎_elim
    (λ (e : eqb b 10 ≡ true). rw e refl)
    (λ (e : eqb b 10 ≡ false). rw (e, lines-first c bs) refl)
    (cases_Bool (eqb b 10))

-- a feed at i, and none before it
split_at_feed : (xs : List ℕ) (i : ℕ) → i < length xs → get_or xs i 0 ≡ 10 → xs ≡ take i xs ++ 10 ∷ drop (i + 1) xs
split_at_feed xs i below here =
    let rest = drop-cons xs i 0 below in
    let is : drop i xs ≡ 10 ∷ drop (suc i) xs = rw here at rest in
    rw add-one (sym (take-append-drop i xs) ∙ ap (λ r. take i xs ++ r) is)

pub first_line_at : (xs : List ℕ) (i : ℕ) → i < length xs → has_feed (take i xs) ≡ false → get_or xs i 0 ≡ 10 → first_line xs ≡ take i xs
first_line_at xs i below none here =
    ap first_line (split_at_feed xs i below here) ∙ first_line-append (take i xs) (10 ∷ drop (i + 1) xs) none ∙ append-nil (take i xs)

pub after_line_at : (xs : List ℕ) (i : ℕ) → i < length xs → has_feed (take i xs) ≡ false → get_or xs i 0 ≡ 10 → after_line xs ≡ drop (i + 1) xs
after_line_at xs i below none here =
    ap after_line (split_at_feed xs i below here) ∙ after_line-append (take i xs) (10 ∷ drop (i + 1) xs) none

pub has_feed_at : (xs : List ℕ) (i : ℕ) → i < length xs → has_feed (take i xs) ≡ false → get_or xs i 0 ≡ 10 → has_feed xs ≡ true
has_feed_at xs i below none here =
    ap has_feed (split_at_feed xs i below here) ∙ has_feed-append (take i xs) (10 ∷ drop (i + 1) xs) none

-- one more byte that isn't a feed
pub no_feed_more : (xs : List ℕ) (i : ℕ) → i < length xs → has_feed (take i xs) ≡ false → (get_or xs i 0 ≡ 10 → ⊥) → has_feed (take (i + 1) xs) ≡ false
no_feed_more xs i below none here =
    let other : eqb (get_or xs i 0) 10 ≡ false = ne_eqb _ _ here in
    rw (take_more xs i 0 below, has_feed-append (take i xs) (get_or xs i 0 ∷ []) none, other) refl

-- the result of a search for a feed
no_feed_before : (xs : List ℕ) (n : ℕ) → Nowhere (Passes (is_byte 10) xs) 0 n → n ≤ length xs → has_feed (take n xs) ≡ false
no_feed_before xs zero none within = refl
no_feed_before xs (suc n) none within =
    let before = no_feed_before xs n (λ k low high. none k low (omega arith)) (omega arith) in
    rw (sym (add-one n)) (no_feed_more xs n (omega arith) before (λ here. none n (omega arith) (omega arith) (eq-eqb _ _ here)))

pub feed_found : (xs : List ℕ) (k : ℕ) → IsFirstByte (is_byte 10) xs (Some k) → (k < length xs) × (has_feed (take k xs) ≡ false) × (get_or xs k 0 ≡ 10)
feed_found xs k first = (first.0.high, no_feed_before xs k first.0.before (omega arith), eqb-true _ _ first.1)

pub no_feed_found : (xs : List ℕ) → IsFirstByte (is_byte 10) xs None → has_feed xs ≡ false
no_feed_found xs none = ap has_feed (sym (take_all (length xs) xs (omega arith))) ∙ no_feed_before xs (length xs) none (omega arith)

-- without a feed, the first line is all bytes
pub all_first_line : (xs : List ℕ) → has_feed xs ≡ false → first_line xs ≡ xs
all_first_line [] h = refl
all_first_line (b ∷ bs) h =
    let each = or_parts (eqb b 10) (has_feed bs) h in
    let other : eqb b 10 ≡ false = each.0 in
    rw (other, all_first_line bs each.1) refl

pub none_after : (xs : List ℕ) → has_feed xs ≡ false → after_line xs ≡ []
none_after [] h = refl
none_after (b ∷ bs) h =
    let each = or_parts (eqb b 10) (has_feed bs) h in
    let other : eqb b 10 ≡ false = each.0 in
    rw (other, none_after bs each.1) refl

-- keeping and then adding is adding and then keeping
pub take-take-append : (n : ℕ) (xs ys : List ℕ) → take n (take n xs ++ ys) ≡ take n (xs ++ ys)
take-take-append zero xs ys = refl
take-take-append (suc n) [] ys = refl
take-take-append (suc n) (x ∷ xs) ys = ap (λ z. x ∷ z) (take-take-append n xs ys)

-- the first line has no feed, and one follows it
pub first_line-none : (u : List ℕ) → has_feed (first_line u) ≡ false
first_line-none [] = refl
first_line-none (b ∷ bs) = ⊎_elim
    (λ (e : eqb b 10 ≡ true). rw e refl)
    (λ (e : eqb b 10 ≡ false). rw e (rw (e, first_line-none bs) refl))
    (cases_Bool (eqb b 10))

pub split_line : (u : List ℕ) → has_feed u ≡ true → u ≡ first_line u ++ 10 ∷ after_line u
split_line [] h = absurd (false≢true h)
split_line (b ∷ bs) h = ⊎_elim
    (λ (e : eqb b 10 ≡ true). rw e (let ten = eqb-true b 10 e in ap (λ z. z ∷ bs) ten))
    (λ (e : eqb b 10 ≡ false). let more : has_feed bs ≡ true = rw e at h in rw e (ap (λ z. b ∷ z) (split_line bs more)))
    (cases_Bool (eqb b 10))

-- the bytes of a line and its feed
pub taken_line : (bytes : List ℕ) (n : ℕ) → n < length bytes → take n bytes ≡ first_line bytes → has_feed bytes ≡ true → take (n + 1) bytes ≡ first_line bytes ++ 10 ∷ []
taken_line bytes n below front h =
    let long : length (first_line bytes) ≡ n = ap length (sym front) ∙ length-take n bytes ∙ (omega (arith, below)) in
    let all : n + 1 ≡ length (first_line bytes ++ 10 ∷ []) = (let l = length-append (first_line bytes) (10 ∷ []) in omega (arith, l, long)) in
    ap (take (n + 1)) (split_line bytes h ∙ sym (append_assoc (first_line bytes) (10 ∷ []) (after_line bytes)))
    ∙ ap (λ k. take k ((first_line bytes ++ 10 ∷ []) ++ after_line bytes)) all
    ∙ take-append_seam (first_line bytes ++ 10 ∷ []) (after_line bytes)
