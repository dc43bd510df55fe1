use Rattle.std.proofs.Common.{ap, sym, ◌∙◌}
use Rattle.crack_plain.specs.Inside.{gone}
use Rattle.crack_state.proofs.LookUpLaws.{row_by-find}
use Rattle.crack_part.proofs.PointLemmas.{live-taken}
use Rattle.crack_part.proofs.changes.remove.Goals as goal

pub returns-clause-reply : goal.returns-clause-reply
returns-clause-reply c = λ plain same.
    c.gone.ensures.is ∙ ap gone (c.in_ok-row.ensures.row ∙ row_by-find c.args.store.now c.args.serial.0 plain c.recall_invariant.ensures same)

pub returns-clause-live : goal.returns-clause-live
returns-clause-live c =
    live-taken c.args.store.now c.remove.new.self c.args.serial.0 c.in_ok-row.row c.in_ok-row.ensures.row c.in_ok-row.ensures.live c.in_ok-row.ensures.none c.in_ok-row.ensures.after c.recall_invariant.ensures c.recall_invariant-2.ensures

pub returns-clause-knows : goal.returns-clause-knows
returns-clause-knows c = λ plain numbered same knows.
    c.remove-2.ensures.knows plain numbered (sym (c.in_ok-row.ensures.row ∙ row_by-find c.args.store.now c.args.serial.0 plain.rows c.recall_invariant.ensures same)) knows
