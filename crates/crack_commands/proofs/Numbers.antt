-- Numbers among the words.
use Rattle.std.proofs.Common.{◌≡◌, ℕ, ℤ, pos, neg_ℤ, zero, suc, ◌+◌, ◌-◌, ◌*◌, ◌^◌, ◌%◌, ◌<◌, ◌≤◌, Bool, true, false, cond, eqb, ltb, leb, Some, List, [], ◌∷◌, ◌++◌, length, take, drop, get_or, refl, sym, ap, ◌∙◌, arith, ⊎_elim, length-take, length-drop, add-one}
use Rattle.std.proofs.lemmas.Bool.{and_parts, cases_Bool, le-leb, leb-true, lt-ltb, ltb-true, eqb-true}
use Rattle.std.proofs.lemmas.List.{take_more, take_all}
use Rattle.std.proofs.Math.Nat.{pow-suc, pow-le-pow_right}
use Rattle.std.specs.List.{list_all}
use Rattle.std.specs.Option.{option_map}
use Rattle.crack_commands.specs.Grammar.{words, is_digit, number_of, whole_number_of}
use Rattle.crack_commands.specs.Inside.{is_word, has_sign, value_on, has_space, IsFirstWord, IsFirstNumber, IsFirstWholeNumber, BeginsWithDigits, BeginsWithWhole}
use Rattle.crack_commands.proofs.Splitting.{is_word_some, first_word}

-- one more digit
value_on-append : (n : ℕ) (xs : List ℕ) (b : ℕ) → value_on n (xs ++ b ∷ []) ≡ value_on n xs * 10 + (b - 48)
value_on-append n [] b = refl
value_on-append n (x ∷ xs) b = value_on-append (n * 10 + (x - 48)) xs b

pub value_more : (xs : List ℕ) (i : ℕ) → i < length xs → value_on 0 (take (i + 1) xs) ≡ value_on 0 (take i xs) * 10 + (get_or xs i 0 - 48)
value_more xs i below = ap (value_on 0) (take_more xs i 0 below) ∙ value_on-append 0 (take i xs) (get_or xs i 0)

all-append : (xs : List ℕ) (b : ℕ) → list_all is_digit xs ≡ true → is_digit b ≡ true → list_all is_digit (xs ++ b ∷ []) ≡ true
all-append [] b h d = rw d refl
all-append (x ∷ xs) b h d =
    let each = and_parts (is_digit x) (list_all is_digit xs) h in
    rw (each.0, all-append xs b each.1 d) refl

pub digits_more : (xs : List ℕ) (i : ℕ) → i < length xs → list_all is_digit (take i xs) ≡ true → is_digit (get_or xs i 0) ≡ true → list_all is_digit (take (i + 1) xs) ≡ true
digits_more xs i below so_far digit =
    ap (list_all is_digit) (take_more xs i 0 below) ∙ all-append (take i xs) (get_or xs i 0) so_far digit

pub digit_bounds : (b : ℕ) → is_digit b ≡ true → (48 ≤ b) × (b < 58)
digit_bounds b d = let each = and_parts (leb 48 b) (ltb b 58) d in (leb-true 48 b each.0, ltb-true b 58 each.1)

-- one byte less 48, wrapped round, is below 10 only for a digit, and then it is its value
pub digit_from : (b d : ℕ) → b < 256 → d ≡ (b + (2 ^ 64 - 48)) % 2 ^ 64 → d < 10 → (is_digit b ≡ true) × (d ≡ b - 48)
digit_from b d byte is small =
    let low : 48 ≤ b = omega (arith, is, small, byte) in
    let high : b < 58 = omega (arith, is, small, byte) in
    let l : leb 48 b ≡ true = le-leb 48 b low in
    let h : ltb b 58 ≡ true = lt-ltb b 58 high in
    (rw (l, h) refl, omega (arith, is, small, byte))

-- one more digit stays below the next power of 10, and up to 19 digits fit 64 bits
pub value_below : (v i b : ℕ) → v < 10 ^ i → i < 19 → is_digit b ≡ true → (v * 10 + (b - 48) < 10 ^ (i + 1)) × (v * 10 + (b - 48) < 2 ^ 64)
value_below v i b below few digit =
    let bounds = digit_bounds b digit in
    let power : 10 ^ (i + 1) ≡ 10 ^ i * 10 = ap (λ n. 10 ^ n) (add-one i) ∙ pow-suc 10 i in
    let most : 10 ^ (i + 1) ≤ 10 ^ 19 = pow-le-pow_right {n = 10} (omega arith) {i = i + 1} {j = 19} (omega arith) in
    (omega (arith, bounds.1, power), omega (arith, bounds.1, power, most))

-- no digit is a space
digit_no_space : (b : ℕ) → is_digit b ≡ true → eqb b 32 ≡ false
digit_no_space b d = ⊎_elim
    (λ (e : eqb b 32 ≡ true). let same = eqb-true b 32 e in let low = (digit_bounds b d).0 in absurd (omega (arith, same, low)))
    (λ (e : eqb b 32 ≡ false). e)
    (cases_Bool (eqb b 32))

pub digits_no_space : (xs : List ℕ) → list_all is_digit xs ≡ true → has_space xs ≡ false
digits_no_space [] h = refl
digits_no_space (b ∷ bs) h =
    let each = and_parts (is_digit b) (list_all is_digit bs) h in
    let other = digit_no_space b each.0 in
    rw (other, digits_no_space bs each.1) refl

-- digits up to a space or the end are the first word, and a number
pub first_number : (bytes xs : List ℕ) (n : ℕ) → words xs ≡ words bytes → (get_or xs 0 0 ≡ 32 → ⊥) → 0 < n → n ≤ length xs → n ≤ 20 → list_all is_digit (take n xs) ≡ true → (n < length xs → get_or xs n 0 ≡ 32) → IsFirstNumber bytes (Some (value_on 0 (take n xs))) (drop n xs)
first_number bytes xs n same front some within short digits space =
    let long = length-take n xs in
    let word : is_word (take n xs) ≡ true = is_word_some (take n xs) (omega (arith, long, some, within)) in
    let fits : leb (length (take n xs)) 20 ≡ true = le-leb _ _ (omega (arith, long, short)) in
    (take n xs, first_word bytes xs n same front within (digits_no_space (take n xs) digits) space, rw (word, fits, digits) refl)

-- digits, few of them, are a number
pub number_of_digits : (xs : List ℕ) → 0 < length xs → length xs ≤ 20 → list_all is_digit xs ≡ true → number_of xs ≡ Some (value_on 0 xs)
number_of_digits xs some few digits =
    let word : is_word xs ≡ true = is_word_some xs some in
    let fits : leb (length xs) 20 ≡ true = le-leb _ _ (omega (arith, few)) in
    rw (word, fits, digits) refl

-- digits up to a space or the end
pub begins_with_digits : (xs : List ℕ) (n value : ℕ) → 0 < n → (n ≤ length xs) × (n ≤ 20) → list_all is_digit (take n xs) ≡ true → value ≡ value_on 0 (take n xs) → (n < length xs → get_or xs n 0 ≡ 32) → BeginsWithDigits xs value (take (length xs - n) (drop n xs))
begins_with_digits xs n value some within digits is space =
    let rest = length-drop n xs in
    record {
      count = n;
      few = (some, within.1, within.0);
      digits = digits;
      value = is;
      ends = space;
      behind = take_all (length xs - n) (drop n xs) (omega (arith, rest));
    }

-- they are the first word, and a number
pub short_number : (bytes xs : List ℕ) (value : ℕ) (rest : List ℕ) → words xs ≡ words bytes → (get_or xs 0 0 ≡ 32 → ⊥) → BeginsWithDigits xs value rest → IsFirstNumber bytes (Some value) rest
short_number bytes xs value rest same front d =
    rw (d.value, d.behind) (first_number bytes xs d.count same front d.few.0 d.few.2 (omega (arith, d.few.1)) d.digits d.ends)

-- a prefix of bytes keeps the sign
sign_kept : (n : ℕ) (xs : List ℕ) → 0 < n → has_sign (take n xs) ≡ has_sign xs
sign_kept zero xs some = absurd (omega (arith, some))
sign_kept (suc n) [] some = refl
sign_kept (suc n) (x ∷ xs) some = refl

-- what follows a minus sign at the front, if there is one
abbrev pub unsigned : List ℕ → List ℕ
unsigned word = cond (has_sign word) (drop 1 word) word

-- a number, or its opposite
abbrev pub signed : Bool → ℕ → ℤ
signed is_negative n = cond is_negative (neg_ℤ (pos n)) (pos n)

-- an integer by its sign, and the number after it
whole_by : (word : List ℕ) (is_negative : Bool) → has_sign word ≡ is_negative → whole_number_of word ≡ option_map (signed is_negative) (number_of (cond is_negative (drop 1 word) word))
whole_by word true sign = rw sign refl
whole_by word false sign = rw sign refl

-- a word that is a number except for its sign
whole_is : (word : List ℕ) (is_negative : Bool) (n : ℕ) → has_sign word ≡ is_negative → number_of (cond is_negative (drop 1 word) word) ≡ Some n → whole_number_of word ≡ Some (signed is_negative n)
whole_is word is_negative n sign is = whole_by word is_negative sign ∙ ap (option_map (signed is_negative)) is

-- a minus sign and digits aren't spaces
sign_no_space : (b : ℕ) (xs : List ℕ) → eqb b 45 ≡ true → list_all is_digit xs ≡ true → has_space (b ∷ xs) ≡ false
sign_no_space b xs sign digits =
    let is : b ≡ 45 = eqb-true b 45 sign in
    rw (is, digits_no_space xs digits) refl

short_whole_by : (bytes : List ℕ) (b : ℕ) (bs : List ℕ) (value : ℕ) (rest : List ℕ) (is_negative : Bool) → eqb b 45 ≡ is_negative → words (b ∷ bs) ≡ words bytes → (b ≡ 32 → ⊥) → BeginsWithDigits (cond is_negative bs (b ∷ bs)) value rest → IsFirstWholeNumber bytes (Some (signed is_negative value)) rest
short_whole_by bytes b bs value rest true sign same front d =
    let n = d.count in
    let long = length-take n bs in
    let word = b ∷ take n bs in
    let first : IsFirstWord bytes word (drop n bs) = first_word bytes (b ∷ bs) (suc n) same front (omega (arith, d.few)) (sign_no_space b (take n bs) sign d.digits) (λ below. d.ends (omega (arith, below))) in
    let number : number_of (take n bs) ≡ Some value = number_of_digits (take n bs) (omega (arith, long, d.few)) (omega (arith, long, d.few)) d.digits ∙ ap Some (sym d.value) in
    (word, rw d.behind first, sym (whole_is word true value sign number))
short_whole_by bytes b bs value rest false sign same front d =
    let n = d.count in
    let xs = b ∷ bs in
    let long = length-take n xs in
    let word = take n xs in
    let first : IsFirstWord bytes word (drop n xs) = first_word bytes xs n same front d.few.2 (digits_no_space word d.digits) d.ends in
    let number : number_of word ≡ Some value = number_of_digits word (omega (arith, long, d.few)) (omega (arith, long, d.few)) d.digits ∙ ap Some (sym d.value) in
    (word, rw d.behind first, sym (whole_is word false value (sign_kept n xs d.few.0 ∙ sign) number))

-- digits after a minus sign or none are the first word, and an integer
pub short_whole : (bytes xs : List ℕ) (value : ℕ) (rest : List ℕ) → words xs ≡ words bytes → (get_or xs 0 0 ≡ 32 → ⊥) → BeginsWithDigits (unsigned xs) value rest → IsFirstWholeNumber bytes (Some (signed (has_sign xs) value)) rest
short_whole bytes [] value rest same front d = absurd (omega (arith, d.few))
short_whole bytes (b ∷ bs) value rest same front d = short_whole_by bytes b bs value rest (eqb b 45) refl same front d

-- no digit is a space or a control character
pub digits_printed : (xs : List ℕ) → list_all is_digit xs ≡ true → list_all (ltb 32) xs ≡ true
digits_printed [] h = refl
digits_printed (b ∷ bs) h =
    let each = and_parts (is_digit b) (list_all is_digit bs) h in
    let low = (digit_bounds b each.0).0 in
    let printed : ltb 32 b ≡ true = lt-ltb 32 b (omega (arith, low)) in
    rw (printed, digits_printed bs each.1) refl

-- nor is a minus sign
sign_printed : (b : ℕ) (xs : List ℕ) → eqb b 45 ≡ true → list_all is_digit xs ≡ true → list_all (ltb 32) (b ∷ xs) ≡ true
sign_printed b xs sign digits =
    let is : b ≡ 45 = eqb-true b 45 sign in
    rw (is, digits_printed xs digits) refl

whole_before_by : (b : ℕ) (bs : List ℕ) (stop value n : ℕ) (is_negative : Bool) → eqb b 45 ≡ is_negative → (let digits = cond is_negative bs (b ∷ bs) in
    (0 < n) × (n ≤ 20) × (n < length digits) → get_or digits n 0 ≡ stop → list_all is_digit (take n digits) ≡ true → value ≡ value_on 0 (take n digits)
    → BeginsWithWhole (b ∷ bs) stop (signed is_negative value) (length (b ∷ bs) - length digits + n))
whole_before_by b bs stop value n true sign few stops digits is =
    let long = length-take n bs in
    let number : number_of (take n bs) ≡ Some value = number_of_digits (take n bs) (omega (arith, long, few)) (omega (arith, long, few)) digits ∙ ap Some (sym is) in
    let count : length (b ∷ bs) - length bs + n ≡ suc n = omega arith in
    rw count record {
      few = omega (arith, few);
      stops = stops;
      printed = sign_printed b (take n bs) sign digits;
      says = whole_is (b ∷ take n bs) true value sign number;
    }
whole_before_by b bs stop value n false sign few stops digits is =
    let xs = b ∷ bs in
    let long = length-take n xs in
    let number : number_of (take n xs) ≡ Some value = number_of_digits (take n xs) (omega (arith, long, few)) (omega (arith, long, few)) digits ∙ ap Some (sym is) in
    let count : length (b ∷ bs) - length (b ∷ bs) + n ≡ n = omega arith in
    rw count record {
      few = omega (arith, few);
      stops = stops;
      printed = digits_printed (take n xs) digits;
      says = whole_is (take n xs) false value (sign_kept n xs few.0 ∙ sign) number;
    }

-- digits up to a byte, after a minus sign or none, are an integer
pub whole_before : (xs : List ℕ) (stop value n : ℕ) → (0 < n) × (n ≤ 20) × (n < length (unsigned xs)) → get_or (unsigned xs) n 0 ≡ stop → list_all is_digit (take n (unsigned xs)) ≡ true → value ≡ value_on 0 (take n (unsigned xs))
    → BeginsWithWhole xs stop (signed (has_sign xs) value) (length xs - length (unsigned xs) + n)
whole_before [] stop value n few stops digits is = absurd (omega (arith, few))
whole_before (b ∷ bs) stop value n few stops digits is = whole_before_by b bs stop value n (eqb b 45) refl few stops digits is
