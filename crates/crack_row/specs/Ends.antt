-- What private clauses alone cite.
-- An end of a range as it is stored: a 64-bit number, and a flag for `GREATEST_BOUND`, which takes 65 bits.
use Rattle.std.specs.Prelude.{◌≡◌, ℕ, ◌<◌, Bool, true, false, cond, nat_le}
use Rattle.std.proofs.Common.{refl, ap, sym}
use Rattle.std.proofs.lemmas.Bool.{lt-leb}
use Rattle.crack_row.specs.declared.TheConstants.{GREATEST_BOUND}

-- whether an end of a range is the end above all keys: whether its number is at least `GREATEST_BOUND`
abbrev pub past_all : ℕ → Bool
past_all end = nat_le GREATEST_BOUND end

-- the number that is stored for an end of a range: 0 if the end is above all keys, otherwise the number of the end
abbrev pub end_number : ℕ → ℕ
end_number end = cond (past_all end) 0 end

-- an end that is stored as the flag `past` and as `number` gives the flag back: `past_all` of it is `past`. The flag
-- is whether the end is above all keys; `number` is 0 if it is, otherwise below `GREATEST_BOUND`
pub past_back : (past : Bool) (number : ℕ) → cond past (number ≡ 0) (number < GREATEST_BOUND) → past_all (cond past GREATEST_BOUND number) ≡ past
past_back true number is = refl
past_back false number is = lt-leb GREATEST_BOUND number is

-- an end that is stored so, as in `past_back`, gives the number back: `end_number` of it is `number`
pub number_back : (past : Bool) (number : ℕ) → cond past (number ≡ 0) (number < GREATEST_BOUND) → end_number (cond past GREATEST_BOUND number) ≡ number
number_back true number is = sym is
number_back false number is = ap (λ past. cond past 0 number) (past_back false number is)
