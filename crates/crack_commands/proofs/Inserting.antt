-- An insert at the front of bytes.
use Rattle.std.proofs.Common.{◌≡◌, ℕ, ◌+◌, ◌<◌, ◌≤◌, ◌⊎◌, ℤ, true, false, eqb, ltb, leb, Some, Ok, suc, List, [], ◌∷◌, ◌++◌, codes, length, take, drop, get_or, refl, sym, ap, ◌∙◌, inl, inr, ⊎_elim, arith, append_assoc, length-take, length-drop}
use Rattle.std.proofs.lemmas.Bool.{and_parts, le-leb, ltb-true, ne_eqb}
use Rattle.std.proofs.lemmas.List.{drop_more, take_more, length-append, get_or-append-add, get_or-drop}
use Rattle.std.proofs.lemmas.List.Folds.{list_all-append}
use Rattle.std.proofs.Math.Seq.{take-append-add, take-add}
use Rattle.std.specs.List.{list_all}
use Rattle.crack_row.specs.declared.Key.{Key}
use Rattle.crack_row.specs.declared.Payload.{Payload}
use Rattle.crack_commands.specs.Grammar.{words, is_digit, number_of, whole_number_of, statement_of}
use Rattle.crack_commands.specs.Inside.{value_on, has_space, row_from, EndsLine}
use Rattle.crack_commands.specs.LeadingInsert.{BeginsWithInsert}
use Rattle.crack_commands.specs.declared.statement.Statement.TheVariants.{Insert}
use Rattle.crack_commands.proofs.Numbers.{digits_printed, number_of_digits}
use Rattle.crack_commands.proofs.Splitting.{is_word_some, words_end, words_front, said}

-- a byte above a space is no space, and no control character
printed_no_space : (xs : List ℕ) → list_all (ltb 32) xs ≡ true → (has_space xs ≡ false) × (list_all (leb 32) xs ≡ true)
printed_no_space [] h = (refl, refl)
printed_no_space (b ∷ bs) h =
    let each = and_parts (ltb 32 b) (list_all (ltb 32) bs) h in
    let above = ltb-true 32 b each.0 in
    let other : eqb b 32 ≡ false = ne_eqb b 32 (λ is. absurd (omega (arith, is, above))) in
    let shown : leb 32 b ≡ true = le-leb 32 b (omega (arith, above)) in
    let rest = printed_no_space bs each.1 in
    (rw (other, rest.0) refl, rw (shown, rest.1) refl)

-- a number and an integer after the name of an insert, a space between them
says_insert : (xs ys : List ℕ) (v : ℕ) (z : ℤ) (key : Key) (payload : Payload) → 0 < length xs → has_space xs ≡ false → number_of xs ≡ Some v → 0 < length ys → has_space ys ≡ false → whole_number_of ys ≡ Some z
    → row_from v z ≡ Some (key, payload)
    → statement_of (codes "insert " ++ (xs ++ 32 ∷ ys)) ≡ Ok (Insert key payload)
says_insert xs ys v z key payload some alone is some' alone' is' row =
    let first : words (xs ++ 32 ∷ ys) ≡ xs ∷ words (32 ∷ ys) = words_front xs ys alone (is_word_some xs some) in
    let second : words ys ≡ ys ∷ [] = words_end ys alone' (is_word_some ys some') in
    let both : words (xs ++ 32 ∷ ys) ≡ xs ∷ ys ∷ [] = first ∙ ap (λ r. xs ∷ r) second in
    let all : words (codes "insert " ++ (xs ++ 32 ∷ ys)) ≡ codes "insert" ∷ xs ∷ ys ∷ [] = ap (λ r. codes "insert" ∷ r) both in
    said _ (codes "insert") (xs ∷ ys ∷ []) all ∙ rw (is, is', row) refl

-- the text after the name: this many digits, a space, and this many digits
two_parts : (rest : List ℕ) (m n : ℕ) → m < length rest → get_or rest m 0 ≡ 32 → take (m + 1 + n) rest ≡ take m rest ++ 32 ∷ take n (drop (m + 1) rest)
two_parts rest m n within space =
    let behind : drop m rest ≡ 32 ∷ drop (m + 1) rest = drop_more rest m 0 within ∙ ap (λ b. b ∷ drop (m + 1) rest) space in
    let same : m + 1 + n ≡ m + suc n = omega arith in
    ap (λ k. take k rest) same ∙ take-add m (suc n) rest ∙ ap (λ r. take m rest ++ take (suc n) r) behind

-- the bytes of a line after its number: none, or a carriage return
ends_with : (more : List ℕ) (z : ℤ) (len : ℕ) (last : EndsLine more z len) → (take len more ≡ take last.count more) ⊎ (take len more ≡ take last.count more ++ 13 ∷ [])
ends_with more z len last = ⊎_elim
    (λ (e : len ≡ last.count). inl (ap (λ k. take k more) e))
    (λ (e : (len ≡ last.count + 1) × (get_or more last.count 0 ≡ 13)).
    inr (ap (λ k. take k more) e.0 ∙ take_more more last.count 0 (omega (arith, last.few, e.0)) ∙ ap (λ b. take last.count more ++ b ∷ []) e.1))
    last.ends

pub begins_with : (bytes rest : List ℕ) (m len v : ℕ) (z : ℤ) (key : Key) (payload : Payload) → bytes ≡ codes "insert " ++ rest
    → (0 < m) × (m ≤ 20) × (m < length rest) → get_or rest m 0 ≡ 32 → list_all is_digit (take m rest) ≡ true → v ≡ value_on 0 (take m rest)
    → EndsLine (drop (m + 1) rest) z len
    → row_from v z ≡ Some (key, payload)
    → BeginsWithInsert bytes (7 + m + 1 + len) key payload
begins_with bytes rest m len v z key payload whole first space digits is last row =
    let more = drop (m + 1) rest in
    let xs = take m rest in
    let ys = take last.count more in
    let text = codes "insert " ++ (xs ++ 32 ∷ ys) in
    let len_more = length-drop (m + 1) rest in
    let len_xs = length-take m rest in
    let len_ys = length-take last.count more in
    let len_text = length-append xs (32 ∷ ys) in
    let same : 7 + m + 1 + len ≡ 7 + (m + 1 + len) = omega arith in
    let line : take (7 + m + 1 + len) bytes ≡ codes "insert " ++ (xs ++ 32 ∷ take len more) =
    ap (λ k. take k bytes) same ∙ ap (take (7 + (m + 1 + len))) whole ∙ take-append-add (codes "insert ") rest (m + 1 + len) ∙ ap (λ r. codes "insert " ++ r) (two_parts rest m len first.2 space) in
    let len_bytes : length bytes ≡ 7 + length rest = ap length whole ∙ length-append (codes "insert ") rest in
    let at : get_or bytes (7 + m + 1 + len) 0 ≡ 10 =
    ap (λ k. get_or bytes k 0) same ∙ ap (λ z. get_or z (7 + (m + 1 + len)) 0) whole ∙ get_or-append-add (codes "insert ") rest (m + 1 + len) 0
    ∙ sym (get_or-drop (m + 1) rest len 0) ∙ last.feed in
    let shown = printed_no_space xs (digits_printed xs digits) in
    let shown' = printed_no_space ys last.printed in
    let printed : list_all (leb 32) (xs ++ 32 ∷ ys) ≡ true = list_all-append (leb 32) xs (32 ∷ ys) ∙ rw (shown.1, shown'.1) refl in
    let number : number_of xs ≡ Some v = number_of_digits xs (omega (arith, len_xs, first)) (omega (arith, len_xs, first)) digits ∙ ap Some (sym is) in
    record {
      within = omega (arith, len_bytes, len_more, first, last.few);
      feed = at;
      text = text;
      line = ⊎_elim
          (λ (e : take len more ≡ ys). inl (line ∙ ap (λ r. codes "insert " ++ (xs ++ 32 ∷ r)) e))
          (λ (e : take len more ≡ ys ++ 13 ∷ []). inr (line ∙ ap (λ r. codes "insert " ++ (xs ++ 32 ∷ r)) e ∙ ap (λ r. codes "insert " ++ r) (sym (append_assoc xs (32 ∷ ys) (13 ∷ [])))))
          (ends_with more z len last);
      printed = printed;
      some = refl;
      short = omega (arith, len_text, len_xs, len_ys, first, last.few);
      says = says_insert xs ys v z key payload (omega (arith, len_xs, first)) shown.0 number (omega (arith, len_ys, len_more, last.few)) shown'.0 last.says row;
    }
