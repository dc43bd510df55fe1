use Rattle.std.proofs.Common.{rules, ◌≡◌, ◌≤◌, arith, length, Err, vec_len}
use Rattle.crack_table.specs.Tables.{TableState}
use Rattle.crack_table.proofs.Causes.{causes-witnessed}
use Rattle.crack_table.proofs.Placing.{answered-err}
use Rattle.crack_table.proofs.table.Table.ask.Goals as goal

pub returns-in_err-reply : goal.returns-in_err-reply
returns-in_err-reply g c =
    let told = c.in_ok-answered.ensures in
    let e0 = c.in_err-reply.field-0.0 in
    let given : c.from_residual-in_err-reply.result ≡ Err e0 = search rules in
    let limited : c.with_table_limit.result ≡ Err e0 = search rules in
    let cause = answered-err c.in_ok-answered.answered c.with_table_limit.result c.self.inside.limits.history e0 c.with_table_limit.ensures limited in
    let same = rw (cause.1) at told.err in
    let table : TableState = record { splits = c.self.inside.splits.items; limits = c.self.inside.limits; workers = c.self.inside.workers; locks = vec_len c.self.inside.locks; audited = c.self.inside.is_audited } in
    let there : c.args.part ≤ length c.self.inside.splits.items = search rules in
    let causes = causes-witnessed g.J.Naming.owner table (g.G.Gate.may_refuse c.args.gate.now c.args.part) c.args.part c.deref_mut.result.now c.args.command c.args.worker.now c.in_ok-answered.answered c.with_table_limit.result told.causes c.with_table_limit.ensures in
    rw (given, ← c.self.view_is) (record {
      given = tt;
      mine = tt;
      receipts = tt;
      seen_by_part = tt;
      legal = tt;
      small = tt;
      at = record { there = tt; nowhere = λ past. absurd (omega (arith, there, past)); causes = λ _. rw limited at causes };
      seen = told.seen.0;
      replies = tt;
      worker = told.worker;
      err = same.0;
    })
