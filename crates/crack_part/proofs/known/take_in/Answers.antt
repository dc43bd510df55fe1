use Rattle.std.proofs.Common.{ℕ, ◌+◌, arith, sym, subst, ◌∙◌}
use Rattle.crack_index.specs.Sums.{AreRight}
use Rattle.crack_state.proofs.LookUpLaws.{row_by-find}
use Rattle.crack_part.specs.KnownSums.{sum_before, with_row}
use Rattle.crack_part.proofs.SumLaws.{sum-next}
use Rattle.crack_part.proofs.KnownLemmas.{AreRight-same}
use Rattle.crack_part.proofs.known.take_in.Goals as goal

pub serials-preserved : goal.serials-preserved
serials-preserved c = (
  λ plain numbered faithful order right.
      let found = c.row_of.ensures.value ∙ row_by-find c.args.store.now c.serials.serial plain.rows c.recall_invariant.ensures faithful.rows in
      let before = c.serials.invariant.0 plain numbered faithful order right in
      let m = sum_before c.serials.serial plain.rows in
      AreRight-same (with_row c.row_of.result m) (sum_before (c.serials.serial + 1) plain.rows) c.add.new.pieces (λ low high. sum-next c.serials.serial plain.rows low high c.row_of.result numbered.rising (sym found)) (c.add.ensures.right m before),
  c.add.ensures.keys ∙ c.serials.invariant.1,
  λ late. absurd (omega (arith, late)),
)

pub returns-clause-right : goal.returns-clause-right
returns-clause-right c = λ plain numbered faithful order right.
    subst (λ (since : ℕ). AreRight (sum_before since plain.rows) c.serials.pieces) (omega (arith, order)) (c.serials.invariant.0 plain numbered faithful order right)
