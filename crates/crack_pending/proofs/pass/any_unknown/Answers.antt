use Rattle.std.proofs.Common.{◌≡◌, sym, ◌∙◌, inl, inr, true≢false, eq-eqb, arith}
use Rattle.std.proofs.lemmas.Bool.{cases_lt}
use Rattle.crack_arena.specs.Rows.{unknown}
use Rattle.crack_pending.proofs.Blocks.{no_flag}
use Rattle.crack_pending.proofs.pass.any_unknown.Goals as goal

pub keys-preserved : goal.keys-preserved
keys-preserved c = λ none k before is.
    let flags = no_flag c.keys.any _ none in
    elim (cases_lt k c.keys.i) [
      | inl l ↦ c.keys.invariant flags.0 k l is
      | inr m ↦
          let e : k ≡ c.keys.i = omega (arith, before, m) in
          let here : c.key.result ≡ unknown = c.key.ensures ∙ (rw e at is) in
          absurd (true≢false (sym (eq-eqb c.key.result unknown here) ∙ flags.1))
    ]
