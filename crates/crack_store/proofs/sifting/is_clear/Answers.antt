use Rattle.std.proofs.Common.{◌≡◌, get_or, sym, ◌∙◌, inl, inr, arith}
use Rattle.std.proofs.lemmas.Bool.{cases_lt}
use Rattle.std.proofs.lemmas.List.{get_or_default}
use Rattle.crack_arena.specs.Arena.{no_handle}
use Rattle.crack_store.proofs.sifting.is_clear.Goals as goal

pub doomed-init : goal.doomed-init
doomed-init c = λ k less. absurd (omega (arith, less))

pub doomed-preserved : goal.doomed-preserved
doomed-preserved c = λ k less. elim (cases_lt k c.doomed.place) [
  | inl l ↦ c.doomed.invariant k l
  | inr l ↦
      let same : k ≡ c.doomed.place = omega (arith, less, l) in
      let stands : get_or c.args.inside.now.pending_out.handles c.doomed.place no_handle ≡ c.at-handle.result = sym (c.at-handle.ensures.is ∙ get_or_default c.args.inside.now.pending_out.handles c.doomed.place c.at-handle.result no_handle c.at-handle.ensures.within) in
      rw (same, stands) (c.is_in_way.ensures c.if-is_in_way.false)
]
