use Rattle.std.proofs.Common.{◌≡◌, inl, inr, arith}
use Rattle.std.proofs.lemmas.Bool.{cases_lt}
use Rattle.crack_pending.proofs.Blocks.{no_flag, apart}
use Rattle.crack_pending.proofs.pass.any_lies.Goals as goal

pub keys-preserved : goal.keys-preserved
keys-preserved c = λ none k before.
    let flags = no_flag c.keys.any _ none in
    elim (cases_lt k c.keys.i) [
      | inl l ↦ c.keys.invariant flags.0 k l
      | inr m ↦
          let e : k ≡ c.keys.i = omega (arith, before, m) in
          rw (e, ← c.key.ensures) (apart c.key.result c.args.low c.args.last c.requires.order (omega (arith, c.ranges.last.fits)) flags.1)
    ]
