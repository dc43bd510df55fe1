use Rattle.std.proofs.Common.{inl, inr, sym, ◌∙◌, arith}
use Rattle.std.proofs.lemmas.List.{nil_from_length}
use Rattle.std.proofs.lemmas.Result.{on_err_weaker, on_ok_weaker}
use Rattle.crack_part.proofs.IdleLemmas.{CracksAndMerges-idle}
use Rattle.crack_part.proofs.settling.crack_and_merge.Goals as goal

pub merge_cracked-requires-clause-cracked : goal.merge_cracked-requires-clause-cracked
merge_cracked-requires-clause-cracked c = c.in_default.ensures.at_ends

pub returns-in-Err-clause-stopped : goal.returns-in-Err-clause-stopped
returns-in-Err-clause-stopped c = inl c.in-Err.ensures.same

pub returns-then-pending_out-eq0-clause-settled : goal.returns-then-pending_out-eq0-clause-settled
returns-then-pending_out-eq0-clause-settled c =
    CracksAndMerges-idle c.args.policy c.args.store.now c.crack.new.store c.args.range (omega (arith, c.requires.filled)) c.requires.low c.requires.high
    c.in_default.ensures.cracked c.in_default.ensures.at_ends c.recall_invariant.ensures
    (nil_from_length _ (sym c.pending_in.ensures ∙ c.if-pending_in-eq0.true))
    (nil_from_length _ (sym c.pending_out.ensures ∙ c.if-pending_out-eq0.true))

pub returns-clause-settled : goal.returns-clause-settled
returns-clause-settled c = on_ok_weaker c.merge_cracked.result
    (λ does. record { cracked = c.crack.new.store; cracks = c.in_default.ensures.cracked; intact = c.recall_invariant.ensures; does = does })
    c.merge_cracked.ensures.merged

pub returns-clause-stopped : goal.returns-clause-stopped
returns-clause-stopped c = on_err_weaker c.merge_cracked.result
    (λ does. inr (
      c.requires.filled,
      record { cracked = c.crack.new.store; cracks = c.in_default.ensures.cracked; intact = c.recall_invariant.ensures; does = does },
    ))
    c.merge_cracked.ensures.stopped
