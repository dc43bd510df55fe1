-- The texts of bits.
use Rattle.std.proofs.Common.{◌≡◌, ℕ, suc, ◌+◌, Bool, true, false, cond, ◌++◌, List, [], ◌∷◌, filter, refl, sym, ap, ◌∙◌, arith, append_assoc, append-nil}
use Rattle.std.specs.List.{flat_map, range_with_len}
use Rattle.std.proofs.lemmas.List.Elements.{filter-append}
use Rattle.std.proofs.lemmas.Grind.{flat_map-append}
use Rattle.crack_row.proofs.Lists.{range_with_len-more}
use Rattle.crack_commands.specs.Inside.{has_bit, bit_text}
use Rattle.crack_commands.specs.Texts.{field_text, bits_text}

-- without a bit nothing is added
pub bits_text-none : (bits : ℕ) (text : List ℕ) → text ≡ text ++ bits_text bits 0
unfolding bits_text
bits_text-none bits text = sym (append-nil text)

field_if : (is_set : Bool) (number : ℕ) → flat_map field_text (cond is_set (number ∷ []) []) ≡ cond is_set (field_text number) []
field_if true number = append-nil (field_text number)
field_if false number = refl

-- one more bit
bits_text-suc : (bits number : ℕ) → bits_text bits (suc number) ≡ bits_text bits number ++ bit_text bits number
unfolding bits_text
bits_text-suc bits number =
    let last : 0 + number ≡ number = omega arith in
    ap (λ numbers. flat_map field_text (filter (has_bit bits) numbers)) (range_with_len-more 0 number ∙ ap (λ n. range_with_len 0 number ++ n ∷ []) last)
    ∙ ap (flat_map field_text) (filter-append (has_bit bits) (range_with_len 0 number) (number ∷ []))
    ∙ flat_map-append field_text (filter (has_bit bits) (range_with_len 0 number)) (filter (has_bit bits) (number ∷ []))
    ∙ ap (λ text. flat_map field_text (filter (has_bit bits) (range_with_len 0 number)) ++ text) (field_if (has_bit bits number) number)

pub bits_text-next : (bits number : ℕ) (text before after : List ℕ) → before ≡ text ++ bits_text bits number → after ≡ before ++ bit_text bits number → after ≡ text ++ bits_text bits (number + 1)
bits_text-next bits number text before after so_far more =
    let next : number + 1 ≡ suc number = omega arith in
    more ∙ ap (λ t. t ++ bit_text bits number) so_far ∙ append_assoc text (bits_text bits number) (bit_text bits number)
    ∙ ap (λ t. text ++ t) (sym (ap (bits_text bits) next ∙ bits_text-suc bits number))
