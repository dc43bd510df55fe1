-- Numbers need no quotes in CSV: a record of two of them is the text that the library writes.
use Rattle.std.proofs.Common.{◌≡◌, ℕ, ◌+◌, ◌%◌, ◌^◌, ◌<◌, ◌≤◌, suc, ℤ, pos, negsuc, false, List, [], ◌∷◌, ◌++◌, refl, sym, ap, ◌∙◌, arith, append_assoc, append-nil}
use Rattle.std.specs.Prelude.{decimal, codes}
use Rattle.std.specs.List.{list_any}
use Rattle.std.specs.Fmt.{signed_decimal}
use lib.Signed.{mag}
use Rattle.std.proofs.lemmas.Bool.{ne_eqb}
use Rattle.std.proofs.lemmas.Fmt.{decimal_by_steps}
use Rattle.std.proofs.lemmas.List.Folds.{list_any-append}
use Rattle.crack_row.specs.declared.Row.{Row}
use Rattle.csv.specs.Writing.{default_writer, fields_text, is_blank, needs_byte, row_text}
use Rattle.crack_csv.specs.Exports.{header_text, record_text}

digit_plain : (c : ℕ) → 48 ≤ c → needs_byte default_writer c ≡ false
digit_plain c low =
    rw (ne_eqb c 44 (λ e. omega (arith, e, low)), ne_eqb c 34 (λ e. omega (arith, e, low)), ne_eqb c 13 (λ e. omega (arith, e, low)), ne_eqb c 10 (λ e. omega (arith, e, low))) refl

decimal_plain : (n : ℕ) → n < 2 ^ 64 → list_any (needs_byte default_writer) (decimal n) ≡ false
decimal_plain = decimal_by_steps (λ m ds. list_any (needs_byte default_writer) ds ≡ false) (λ m l. rw (digit_plain (48 + m) (omega arith)) refl)
    (λ m ds l h. list_any-append (needs_byte default_writer) ds ((48 + m % 10) ∷ []) ∙ rw (h, digit_plain (48 + m % 10) (omega arith)) refl)

minus_plain : (n : ℕ) → n < 2 ^ 64 → list_any (needs_byte default_writer) (45 ∷ decimal n) ≡ false
minus_plain n few = decimal_plain n few

-- two fields that need no quotes are written as they are
two_plain : (key payload : List ℕ) → list_any (needs_byte default_writer) key ≡ false → list_any (needs_byte default_writer) payload ≡ false → row_text default_writer (key ∷ payload ∷ []) ≡ key ++ (codes "," ++ (payload ++ codes "\n"))
unfolding is_blank fields_text
two_plain key payload first second = rw (first, second) (append_assoc key (44 ∷ (payload ++ [])) (10 ∷ []) ∙ ap (λ (z : List ℕ). key ++ (44 ∷ (z ++ 10 ∷ []))) (append-nil payload))

signed_plain : (z : ℤ) → mag z < 2 ^ 63 → list_any (needs_byte default_writer) (signed_decimal z) ≡ false
signed_plain (pos n) few = decimal_plain n (omega (arith, few))
signed_plain (negsuc n) few = minus_plain (suc n) (omega (arith, few))

-- the header, and a row's record, whose payload has 64 bits, are texts of the library
pub header_is_csvs : header_text ≡ row_text default_writer (codes "key" ∷ codes "payload" ∷ [])
unfolding is_blank fields_text
header_is_csvs = refl

pub record_is_csvs : (row : Row) → row.key.0 < 2 ^ 64 → mag row.payload.0 < 2 ^ 63 → record_text row ≡ row_text default_writer (decimal row.key.0 ∷ signed_decimal row.payload.0 ∷ [])
record_is_csvs row few small = sym (two_plain (decimal row.key.0) (signed_decimal row.payload.0) (decimal_plain row.key.0 few) (signed_plain row.payload.0 small))
