-- The bits of the missing workers.
use Rattle.std.proofs.Common.{◌≡◌, ◌<◌, ◌≤◌, ◌+◌, ◌==◌, add-one, ◌*◌, ◌^◌, ℕ, zero, suc, List, Bool, true, false, arith, refl, inl, inr}
use Rattle.std.specs.Prelude.{if◌then◌else◌}
use Rattle.std.proofs.Math.Pow.{pow-lt, pow_mono}
use Rattle.std.proofs.lemmas.Bool.{cases_eq}
use Rattle.std.specs.List.{list_any}
use Rattle.std.proofs.lemmas.Grind.{pow_more}
use Rattle.crack_table.specs.Gather.{missing_below}

pub bit_fits : (n : ℕ) → n < 64 → 2 ^ n < 2 ^ 64
bit_fits n lt = pow-lt lt

pub next_bit : (n : ℕ) → 2 ^ n * 2 ≡ 2 ^ (n + 1)
next_bit n = rw (pow_more 2 n) refl

pub missing_more : {W : Type 0} (number_of : W → ℕ) (workers : List W) (n missing bit add : ℕ) (has : Bool) → missing ≡ missing_below number_of workers n → bit ≡ 2 ^ n → has ≡ list_any (λ worker. number_of worker == n) workers → add ≡ (if has then 0 else bit) → missing + add ≡ missing_below number_of workers (n + 1)
missing_more number_of workers n missing bit add has m_is b_is h_is a_is = rw (add-one, a_is, m_is, b_is, h_is) refl

-- no bit is missing: each number below the count is that of a worker
any_there : (b : Bool) (bit : ℕ) → 1 ≤ bit → (if b then 0 else bit) ≡ 0 → b ≡ true
any_there true bit some none = refl
any_there false bit some none = absurd (omega arith)

pub none_missing : {W : Type 0} (number_of : W → ℕ) (workers : List W) (count : ℕ) → missing_below number_of workers count ≡ 0 → (n : ℕ) → n < count → list_any (λ worker. number_of worker == n) workers ≡ true
none_missing number_of workers zero none n lt = absurd (omega arith)
none_missing number_of workers (suc m) none n lt = elim (cases_eq n m) [
  | inl e ↦ rw e (any_there (list_any (λ worker. number_of worker == m) workers) (2 ^ m) (let least : 2 ^ 0 ≤ 2 ^ m = pow_mono {i = 0} (omega arith) in omega (arith, least)) (omega (arith, none)))
  | inr ne ↦ none_missing number_of workers m (omega (arith, none)) n (omega arith)
]

pub next_fits : (n : ℕ) → n < 64 → 2 ^ (n + 1) ≤ 2 ^ 64
next_fits n lt = let le : n + 1 ≤ 64 = omega arith in pow_mono le
