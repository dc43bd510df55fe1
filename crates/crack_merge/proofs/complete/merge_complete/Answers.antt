use Rattle.std.proofs.Common.{sym, ◌∙◌, arith}
use Rattle.std.proofs.lemmas.Bool.{true≢false}
use Rattle.crack_row.specs.declared.command.Policy.TheVariants.{Complete}
use Rattle.crack_state.specs.Inside.{Advances}
use Rattle.crack_state.proofs.AdvanceLaws.{Advances-trans}
use Rattle.crack_state.proofs.MergeLaws.{IsCracked-follows, Merges-touched, Merges-untouched}
use Rattle.crack_merge.proofs.complete.merge_complete.Goals as goal
use Rattle.crack_merge.proofs.complete.merge_complete.Goals.{After-merge_deletions-merged}

pub returns-then-not-is_touched-clause-merges : goal.returns-then-not-is_touched-clause-merges
returns-then-not-is_touched-clause-merges c =
    Merges-untouched c.args.store c.args.range (omega (arith, c.requires.some)) c.requires.low c.requires.high c.requires.cracked (sym c.is_touched.ensures ∙ c.if-not-is_touched.true) c.recall_invariant.ensures

both : (c : After-merge_deletions-merged) → Advances Complete c.args.store c.merge_deletions-merged.result
both c = Advances-trans Complete c.args.store c.in-Ok.filled c.merge_deletions-merged.result c.in-Ok.ensures.ok.advances c.merge_deletions-merged.ensures.takes.advances

pub returns-in-Ok-clause-merges : goal.returns-in-Ok-clause-merges
returns-in-Ok-clause-merges c =
    Merges-touched c.args.store c.merge_deletions-merged.result c.args.range (omega (arith, c.requires.some)) c.requires.low c.requires.high c.requires.cracked (sym c.is_touched.ensures ∙ c.if-not-is_touched.false) (both (goal.at.returns-in-Ok-clause-merges c).After-merge_deletions-merged).follows (c.merge_deletions-merged.ensures.takes.pending_in ∙ c.in-Ok.ensures.all) c.merge_deletions-merged.ensures.all c.recall_invariant-in-Ok.ensures

pub returns-in-Ok-clause-tallies : goal.returns-in-Ok-clause-tallies
returns-in-Ok-clause-tallies c = (both (goal.at.returns-in-Ok-clause-tallies c).After-merge_deletions-merged).tallies

pub returns-in-Err-clause-stops : goal.returns-in-Err-clause-stops
returns-in-Err-clause-stops c = c.in-Err.ensures.stops c.args.range

pub returns-in-Err-clause-still_cracked : goal.returns-in-Err-clause-still_cracked
returns-in-Err-clause-still_cracked c = IsCracked-follows c.args.store c.in-Err.stopped.0 c.args.range (c.in-Err.ensures.stops c.args.range).follows c.requires.cracked

pub returns-in-Err-clause-untouched : goal.returns-in-Err-clause-untouched
returns-in-Err-clause-untouched c = λ untouched. absurd (true≢false (sym (sym c.is_touched.ensures ∙ c.if-not-is_touched.false) ∙ untouched))

pub returns-in-Ok-clause-untouched : goal.returns-in-Ok-clause-untouched
returns-in-Ok-clause-untouched c = λ untouched. absurd (true≢false (sym (sym c.is_touched.ensures ∙ c.if-not-is_touched.false) ∙ untouched))
