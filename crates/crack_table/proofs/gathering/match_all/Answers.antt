use Rattle.std.proofs.Common.{rules, ◌≡◌, Err, inl, inr, ⊎_elim}
use Rattle.crack_table.proofs.Shares.{totals_shared}
use Rattle.crack_table.proofs.gathering.match_all.Goals as goal

pub returns-in-Some-clause-causes : goal.returns-in-Some-clause-causes
returns-in-Some-clause-causes g c = inr (c.args.parts.now.items, c.requires.count, λ k d lt. (c.recall_invariant.ensures.whole k d lt, c.recall_invariant.ensures.sound k d lt), inl (c.in-Some.part, search rules, c.in-Some.ensures.some))

pub returns-in_err-compare-clause-causes : goal.returns-in_err-compare-clause-causes
returns-in_err-compare-clause-causes g c =
    let given : c.from_residual-in_err-compare.result ≡ Err c.in_err-compare.field-0.0 = search rules in
    rw given (inr (c.args.parts.now.items, c.requires.count, λ k d lt. (c.recall_invariant.ensures.whole k d lt, c.recall_invariant.ensures.sound k d lt), inr (c.in_default.ensures.none.0, inr c.in_err-compare.ensures.differs)))

pub returns-in_err-audit-clause-causes : goal.returns-in_err-audit-clause-causes
returns-in_err-audit-clause-causes g c =
    let fault = c.in_err-audit.ensures.fault in
    let given : c.from_residual.result ≡ Err c.in_err-audit.field-0.0 = search rules in
    rw given (⊎_elim (λ short. inl short) (λ at. inr (c.args.parts.now.items, c.requires.count, λ k d lt. (c.recall_invariant.ensures.whole k d lt, c.recall_invariant.ensures.sound k d lt), inr (c.in_default.ensures.none.0, inl (fault.0, at.0, at.1, at.2, at.3)))) fault.1)

pub returns-clause-shares : goal.returns-clause-shares
returns-clause-shares g c = λ audited. totals_shared g.J.Naming.owner c.args.parts.now.items c.args.workers.now.items c.sums_of.result.accepted c.sums_of.result.inserted c.sums_of.result.deleted c.sums_of.result.held (c.in_ok-audit.ensures.covered audited) (rw c.in_ok-compare.ensures.same at c.sums_of.ensures)
