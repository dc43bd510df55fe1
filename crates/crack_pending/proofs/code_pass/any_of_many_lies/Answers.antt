use Rattle.std.proofs.Common.{◌≡◌, inl, inr, arith}
use Rattle.std.specs.Prelude.{slice_index}
use Rattle.std.proofs.lemmas.Bool.{cases_lt}
use Rattle.crack_pending.proofs.Blocks.{no_flag, apart_code}
use Rattle.crack_pending.proofs.code_pass.any_of_many_lies.Goals as goal

pub codes-preserved : goal.codes-preserved
codes-preserved c = λ none k before.
    let flags = no_flag c.codes.any _ none in
    elim (cases_lt k c.codes.i) [
      | inl l ↦ c.codes.invariant flags.0 k l
      | inr m ↦
          let e : k ≡ c.codes.i = omega (arith, before, m) in
          rw e (apart_code (slice_index c.args.codes.now c.codes.i) c.args.low c.args.last c.requires.order (omega (arith, c.ranges.last.fits)) flags.1)
    ]
