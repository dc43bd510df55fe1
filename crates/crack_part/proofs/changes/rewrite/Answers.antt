use Rattle.std.proofs.Common.{ap, sym, ◌∙◌}
use Rattle.crack_plain.specs.Inside.{rewritten}
use Rattle.crack_state.proofs.LookUpLaws.{row_by-find}
use Rattle.crack_part.proofs.PointLemmas.{live-put}
use Rattle.crack_part.proofs.changes.rewrite.Goals as goal

pub returns-clause-reply : goal.returns-clause-reply
returns-clause-reply c = λ plain same.
    c.rewritten.ensures.is ∙ ap rewritten (c.in_ok-before.ensures.row ∙ row_by-find c.args.store.now c.args.row.serial.0 plain c.recall_invariant.ensures same)

pub returns-clause-live : goal.returns-clause-live
returns-clause-live c =
    live-put c.args.store.now c.replace.new.self c.args.row c.in_ok-before.before c.in_ok-before.ensures.live c.in_ok-before.ensures.none c.in_ok-before.ensures.after c.recall_invariant.ensures

pub returns-clause-knows : goal.returns-clause-knows
returns-clause-knows c = λ plain numbered same knows.
    c.replace-2.ensures.knows plain numbered (sym (c.in_ok-before.ensures.row ∙ row_by-find c.args.store.now c.args.row.serial.0 plain.rows c.recall_invariant.ensures same)) knows
