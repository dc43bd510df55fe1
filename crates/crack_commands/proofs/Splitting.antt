-- Words and numbers.
use Rattle.std.proofs.Common.{◌≡◌, ℕ, ◌+◌, ◌<◌, ◌≤◌, true, false, eqb, List, [], ◌∷◌, ◌++◌, length, take, drop, get_or, refl, sym, ap, ◌∙◌, subst, arith, ⊎_elim, append-nil, length-take}
use Rattle.std.proofs.lemmas.Bool.{or_parts, false≢true, eq-eqb, ne_eqb, cases_lt}
use Rattle.std.proofs.lemmas.List.{take_more, at_drop_more, take-append-drop, drop_all, drop_more}
use Rattle.std.proofs.Math.Seq.{drop-nil}
use Rattle.std.proofs.lemmas.List.Sums.{position_or_len_is}
use Rattle.std.specs.Prelude.{slice_index_or}
use Rattle.std.specs.List.{slice_split, position_or_len}
use Rattle.crack_commands.specs.Grammar.{words, statement_named, statement_of}
use Rattle.crack_commands.specs.Inside.{is_word, has_space, IsFirstWord}

-- a space more at the front
pub words_space : (xs : List ℕ) (i : ℕ) → i < length xs → get_or xs i 0 ≡ 32 → words (drop i xs) ≡ words xs → words (drop (i + 1) xs) ≡ words xs
words_space xs i below here so_far =
    let step : words (drop i xs) ≡ words (get_or xs i 0 ∷ drop (i + 1) xs) = at_drop_more words xs i 0 below in
    let space : words (get_or xs i 0 ∷ drop (i + 1) xs) ≡ words (drop (i + 1) xs) = ap (λ b. words (b ∷ drop (i + 1) xs)) here in
    sym space ∙ sym step ∙ so_far

pub words_all : (xs : List ℕ) (i : ℕ) → length xs ≤ i → words (drop i xs) ≡ words xs → words [] ≡ words xs
words_all xs i past so_far = ap words (sym (drop_all i xs past)) ∙ so_far

-- a prefix without spaces
has_space-append : (xs ys : List ℕ) → has_space xs ≡ false → has_space (xs ++ ys) ≡ has_space ys
has_space-append [] ys h = refl
has_space-append (b ∷ bs) ys h =
    let each = or_parts (eqb b 32) (has_space bs) h in
    let other : eqb b 32 ≡ false = each.0 in
    rw (other, has_space-append bs ys each.1) refl

pub no_space_more : (xs : List ℕ) (i : ℕ) → i < length xs → has_space (take i xs) ≡ false → (get_or xs i 0 ≡ 32 → ⊥) → has_space (take (i + 1) xs) ≡ false
no_space_more xs i below none here =
    let other : eqb (get_or xs i 0) 32 ≡ false = ne_eqb _ _ here in
    rw (take_more xs i 0 below, has_space-append (take i xs) (get_or xs i 0 ∷ []) none, other) refl

spaces_word : (w : List ℕ) → has_space w ≡ false → slice_split (λ b. eqb b 32) w ≡ w ∷ []
spaces_word [] h = refl
spaces_word (b ∷ bs) h =
    let each = or_parts (eqb b 32) (has_space bs) h in
    let other : eqb b 32 ≡ false = each.0 in
    rw (other, spaces_word bs each.1) refl

spaces_space : (w more : List ℕ) → has_space w ≡ false → slice_split (λ b. eqb b 32) (w ++ 32 ∷ more) ≡ w ∷ slice_split (λ b. eqb b 32) more
spaces_space [] more h = refl
spaces_space (b ∷ bs) more h =
    let each = or_parts (eqb b 32) (has_space bs) h in
    let other : eqb b 32 ≡ false = each.0 in
    rw (other, spaces_space bs more each.1) refl

-- a word, and the end or a space after it
pub words_end : (w : List ℕ) → has_space w ≡ false → is_word w ≡ true → words w ≡ w ∷ []
words_end w h some = rw (spaces_word w h, some) refl

pub words_front : (w more : List ℕ) → has_space w ≡ false → is_word w ≡ true → words (w ++ 32 ∷ more) ≡ w ∷ words (32 ∷ more)
words_front w more h some = rw (spaces_space w more h, some) refl

no_text : (w : List ℕ) → is_word w ≡ false → w ≡ []
no_text [] e = refl
no_text (b ∷ bs) e = absurd (false≢true (sym e))

nothing_left : (xs : List ℕ) (n : ℕ) → n ≤ length xs → take n xs ≡ [] → (get_or xs 0 0 ≡ 32 → ⊥) → (n < length xs → get_or xs n 0 ≡ 32) → xs ≡ []
nothing_left [] n within empty front space = refl
nothing_left (x ∷ xs) n within empty front space =
    let cut = ap length empty in
    let len = length-take n (x ∷ xs) in
    let none : n ≡ 0 = omega (arith, cut, len) in
    let first : 0 < length (x ∷ xs) = omega arith in
    absurd (front (subst (λ (m : ℕ). get_or (x ∷ xs) m 0 ≡ 32) none (space (omega (arith, none, first)))))

-- the part that was split off is the first word
pub first_word : (bytes xs : List ℕ) (n : ℕ) → words xs ≡ words bytes → (get_or xs 0 0 ≡ 32 → ⊥) → n ≤ length xs → has_space (take n xs) ≡ false → (n < length xs → get_or xs n 0 ≡ 32) → IsFirstWord bytes (take n xs) (drop n xs)
first_word bytes xs n same front within none space = record {
  some = λ some. ⊎_elim
      (λ (below : n < length xs).
      let rest : drop n xs ≡ 32 ∷ drop (n + 1) xs = drop_more xs n 0 below ∙ ap (λ b. b ∷ drop (n + 1) xs) (space below) in
      let whole : xs ≡ take n xs ++ 32 ∷ drop (n + 1) xs = sym (take-append-drop n xs) ∙ ap (λ r. take n xs ++ r) rest in
      sym same ∙ ap words whole ∙ words_front (take n xs) (drop (n + 1) xs) none some ∙ ap (λ r. take n xs ∷ words r) (sym rest))
      (λ (past : length xs ≤ n).
      let rest : drop n xs ≡ [] = drop_all n xs past in
      let whole : xs ≡ take n xs = sym (take-append-drop n xs) ∙ ap (λ r. take n xs ++ r) rest ∙ append-nil (take n xs) in
      sym same ∙ ap words whole ∙ words_end (take n xs) none some ∙ ap (λ r. take n xs ∷ words r) (sym rest))
      (cases_lt n (length xs));
  none = λ none'.
      let empty : take n xs ≡ [] = no_text (take n xs) none' in
      let nothing = nothing_left xs n within empty front space in
      (sym same ∙ ap words nothing, ap (λ z. words (drop n z)) nothing ∙ ap words (drop-nil n));
}

-- whether a word is there is whether it has a length
pub is_word_some : (w : List ℕ) → 0 < length w → is_word w ≡ true
is_word_some [] h = absurd (omega arith)
is_word_some (b ∷ bs) h = refl

-- the first place of a byte, where none is before it
pub place_here : (byte : ℕ) (xs : List ℕ) (i : ℕ) → i < length xs → get_or xs i 0 ≡ byte → ((k : ℕ) → k < i → eqb (get_or xs k 0) byte ≡ false) → i ≡ position_or_len (λ b. eqb b byte) xs
place_here byte xs i below here before = sym (position_or_len_is (λ b. eqb b byte) xs i 0 (omega (arith, below)) before (λ within. eq-eqb _ _ here))

pub no_place : (byte : ℕ) (xs : List ℕ) (i : ℕ) → length xs ≤ i → ((k : ℕ) → k < i → eqb (get_or xs k 0) byte ≡ false) → length xs ≡ position_or_len (λ b. eqb b byte) xs
no_place byte xs i all before = sym (position_or_len_is (λ b. eqb b byte) xs (length xs) 0 (omega arith) (λ k below. before k (omega (arith, below, all))) (λ within. absurd (omega (arith, within))))

-- the first word and the others
pub first_is : (bytes word rest : List ℕ) → IsFirstWord bytes word rest → slice_index_or (words bytes) 0 [] ≡ word
first_is bytes [] rest first = rw (first.none refl).0 refl
first_is bytes (b ∷ bs) rest first = rw (first.some refl) refl

pub others_are : (bytes word rest : List ℕ) → IsFirstWord bytes word rest → drop 1 (words bytes) ≡ words rest
others_are bytes [] rest first = rw ((first.none refl).0, (first.none refl).1) refl
others_are bytes (b ∷ bs) rest first = rw (first.some refl) refl

-- the meaning of words
pub said : (line name : List ℕ) (rest : List (List ℕ)) → words line ≡ name ∷ rest → statement_of line ≡ statement_named name rest
unfolding statement_of
said line name rest are = rw are refl

-- a line is read by its first word, if it has one
pub said_first : (line name rest : List ℕ) → IsFirstWord line name rest → statement_of line ≡ statement_named name (words rest)
unfolding statement_of
said_first line [] rest first = rw (first.none refl).0 refl
said_first line (b ∷ bs) rest first = rw (first.some refl) refl
