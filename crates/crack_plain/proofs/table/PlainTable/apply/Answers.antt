use Rattle.std.proofs.Common.{ap, arith, length, rules, subst, sym}
use Rattle.crack_row.specs.Commands.{change_of}
use Rattle.crack_plain.specs.Plain.{PlainState, IsNumbered}
use Rattle.crack_plain.proofs.Laws.{IsNumbered-changed, length_rows-changed-le, next-changed-le}
use Rattle.crack_plain.proofs.table.PlainTable.apply.Goals as goal

pub invariant_of-self-2 : goal.invariant_of-self-2
invariant_of-self-2 c =
    let s : PlainState = record { rows = c.self.inside.rows.items; next = c.self.inside.next } in
    let change = change_of c.args.command.now in
    let is = rw c.change.ensures at c.in_ok-change_rows.ensures.changed in
    let rows = ap (λ (t : PlainState). t.rows) is in
    let next = ap (λ (t : PlainState). t.next) is in
    let longer = ap (λ (t : PlainState). length t.rows) is in (
      subst IsNumbered (sym is) (IsNumbered-changed s change c.self.invariant.0),
      omega (arith, c.self.invariant.1, length_rows-changed-le s change, longer),
      omega (arith, c.self.invariant.2, next-changed-le s change, next),
      search rules,
    )
