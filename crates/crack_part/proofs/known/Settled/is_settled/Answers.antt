use Rattle.std.proofs.Common.{◌≡◌, ℕ, ◌≤◌, false, sym, ap, arith, ◌∙◌, inl, inr, refl}
use Rattle.std.specs.Prelude.{true}
use Rattle.std.proofs.lemmas.Bool.{cases_lt, lt-ltb, true≢false}
use Rattle.std.specs.Ordering.{nat_cmp, is_lt}
use Rattle.crack_row.specs.Ranges.{Range}
use Rattle.crack_part.proofs.SettledLemmas.{settled-part, settled-missed}
use Rattle.crack_part.proofs.known.Settled.is_settled.Goals as goal

not_below : (a b : ℕ) → is_lt (nat_cmp a b) ≡ false → b ≤ a
not_below a b none = elim (cases_lt a b) [
  | inl l ↦ let yes : is_lt (nat_cmp a b) ≡ true = rw (lt-ltb a b l) refl in absurd (true≢false (sym yes ∙ none))
  | inr l ↦ l
]

pub returns-then-is_part-clause-settled : goal.returns-then-is_part-clause-settled
returns-then-is_part-clause-settled c = λ yes settled low high.
    let within = c.is_part.ensures.0 c.if-is_part.true in
    settled-part c.args.self.now.store.now c.args.self.now.range c.args.range c.recall_invariant.ensures settled low high within.0 c.low-low.ensures.ordered within.1 (c.is_cracked.ensures.0 c.if-not-is_cracked.false)

pub returns-clause-settled : goal.returns-clause-settled
returns-clause-settled c = λ yes settled low high.
    let from = ap (λ (r : Range). r.low) c.keys-keys.ensures in
    let to = ap (λ (r : Range). r.high) c.keys-keys.ensures in
    let first = not_below c.low-low.result.0 c.low.result.0 (sym c.lt.ensures ∙ c.if-lt.false) in
    let last = not_below c.high.result.0 c.high-high.result.0 (sym c.lt-2.ensures ∙ c.if-lt-2.false) in
    settled-missed c.args.self.now.store.now c.args.range c.first_in.result c.first_out.result c.recall_invariant.ensures c.low-low.ensures.ordered (omega (arith, from, first, c.low-low.ensures.value, c.low.ensures.value)) (omega (arith, to, last, c.high-high.ensures.value, c.high.ensures.value)) (c.is_cracked.ensures.0 c.if-not-is_cracked.false)
    (sym c.is_some.ensures ∙ c.if-is_some.false) c.first_in.ensures (sym c.is_some-2.ensures ∙ c.if-is_some-2.false) c.first_out.ensures
