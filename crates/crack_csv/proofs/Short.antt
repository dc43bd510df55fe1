-- The first bytes of a field suffice to read it.
use Rattle.std.proofs.Common.{◌≡◌, ℕ, ◌<◌, ◌≤◌, ◌&&◌, Bool, true, false, cond, leb, eqb, min, Option, None, List, [], ◌∷◌, length, take, drop, refl, sym, ap, ◌∙◌, inl, inr, ⊎_elim, arith}
use Rattle.std.specs.Prelude.{not, ℤ, codes, slice_index}
use Rattle.std.specs.Str.{bytes_eq}
use Rattle.std.specs.List.{list_all}
use Rattle.std.proofs.lemmas.Bool.{cases_lt}
use Rattle.std.proofs.lemmas.List.{length-take, length-drop, take_all}
use Rattle.std.proofs.lemmas.Bool.{ne_eqb}
use Rattle.std.proofs.lemmas.Slice.Eq.{bytes_eq-Decides}
use Rattle.csv.specs.declared.parser.State.{State}
use Rattle.crack_commands.specs.Grammar.{key_read, payload_read}
use Rattle.crack_csv.specs.Begun.{kept_of_record}
use Rattle.crack_csv.specs.Records.{is_header, new_row_of}
use Rattle.crack_csv.specs.Taking.{ended_record, kept_is_header, kept_row}
use Rattle.crack_commands.specs.Grammar.{number_of, whole_number_of, is_digit}

and_false : (a b : Bool) → (a && (false && b)) ≡ false
and_false true b = refl
and_false false b = refl

-- a number has few digits
pub long_number : (word : List ℕ) → 20 < length word → number_of word ≡ None
long_number word long =
    let test : leb (length word) 20 ≡ false = grind (arith, long) in
    rw (test, and_false (not (bytes_eq word [])) (list_all is_digit word)) refl

pub long_whole : (word : List ℕ) → 21 < length word → whole_number_of word ≡ None
long_whole word long =
    let rest = length-drop 1 word in
    by (slice_index word 0) (long_number (drop 1 word) (omega (arith, rest, long))) (long_number word (omega (arith, long)))
  where
    by : (s : ℕ) → number_of (drop 1 word) ≡ None → number_of word ≡ None → whole_number_of word ≡ None
    by s a b = rw (a, b) (same (eqb (slice_index word 0) 45))
      where
        same : (t : Bool) → cond {A = Option ℤ} t None None ≡ None
        same true = refl
        same false = refl

-- what holds of a field as a whole, and of each that is too long, holds of the bytes that are kept
pub of_kept : {X : Type 0} (f : List ℕ → X) (long : X) (field : List ℕ) → ((word : List ℕ) → 21 < length word → f word ≡ long) → f (take 22 field) ≡ f field
of_kept f long field each = ⊎_elim
    (λ (l : length field ≤ 22). ap f (take_all 22 field l))
    (λ (l : 22 < length field). let cut = length-take 22 field in each (take 22 field) (omega (arith, cut, l)) ∙ sym (each field (omega (arith, l))))
    (⊎_elim (λ (l : 22 < length field). inr l) (λ (l : length field ≤ 22). inl l) (cases_lt 22 (length field)))

long_key : (word : List ℕ) → 21 < length word → key_read word ≡ None
long_key word long = rw (long_number word (omega (arith, long))) refl

long_payload : (word : List ℕ) → 21 < length word → payload_read word ≡ None
long_payload word long = rw (long_whole word long) refl

-- a long word isn't a short one
not_the_name : (name word : List ℕ) → length name < 22 → 21 < length word → bytes_eq word name ≡ false
not_the_name name word short long = by (bytes_eq word name) refl
  where
    by : (t : Bool) → bytes_eq word name ≡ t → t ≡ false
    by true e = absurd (let same = ap length ((bytes_eq-Decides word name).0 e) in omega (arith, same, short, long))
    by false e = refl

name_kept : (name field : List ℕ) → length name < 22 → bytes_eq (take 22 field) name ≡ bytes_eq field name
name_kept name field short = of_kept (λ word. bytes_eq word name) false field (λ word long. not_the_name name word short long)

-- the fields of a record that are kept suffice to tell whether it is a header, and its row
pub header_kept : (s : State) (fields : List (List ℕ)) → kept_is_header (kept_of_record (ended_record s fields)) ≡ is_header fields
header_kept s [] = refl
header_kept s (f ∷ []) = refl
header_kept s (f ∷ g ∷ []) = rw (name_kept (codes "key") f (omega arith), name_kept (codes "payload") g (omega arith)) refl
header_kept s (f ∷ g ∷ h ∷ fields) = let more : eqb (min 3 (length (f ∷ g ∷ h ∷ fields))) 2 ≡ false = ne_eqb (min 3 (length (f ∷ g ∷ h ∷ fields))) 2 (λ is. omega (arith, is)) in rw more refl

pub row_kept : (s : State) (fields : List (List ℕ)) → kept_row (kept_of_record (ended_record s fields)) ≡ new_row_of fields
row_kept s [] = refl
row_kept s (f ∷ []) = refl
row_kept s (f ∷ g ∷ []) = rw (of_kept key_read None f long_key, of_kept payload_read None g long_payload) refl
row_kept s (f ∷ g ∷ h ∷ fields) = let more : eqb (min 3 (length (f ∷ g ∷ h ∷ fields))) 2 ≡ false = ne_eqb (min 3 (length (f ∷ g ∷ h ∷ fields))) 2 (λ is. omega (arith, is)) in rw more refl
