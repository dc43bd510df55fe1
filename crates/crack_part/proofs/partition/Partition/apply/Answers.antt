use Rattle.std.proofs.lemmas.Result.{on_ok_weaker, on_err_weaker}
use Rattle.crack_part.proofs.ClearLaws.{Serves-uncleared, Spares-uncleared}
use Rattle.crack_part.proofs.RefusalLaws.{refused-with_cell}
use Rattle.crack_part.proofs.partition.Partition.apply.Goals as goal

pub returns-clause-store : goal.returns-clause-store
returns-clause-store c =
    let old = c.args.self.now in
    let has = c.may_need_upkeep.ensures c.if-may_need_upkeep.false in
    on_ok_weaker c.apply_with_cell.result (Serves-uncleared c.args.policy old c.args.command c.apply_with_cell.new.self.store has) c.apply_with_cell.ensures.store

pub returns-clause-spared : goal.returns-clause-spared
returns-clause-spared c =
    let old = c.args.self.now in
    let has = c.may_need_upkeep.ensures c.if-may_need_upkeep.false in
    on_err_weaker c.apply_with_cell.result (Spares-uncleared c.args.policy old c.args.command c.apply_with_cell.new.self.store has) c.apply_with_cell.ensures.spared

pub returns-clause-refused : goal.returns-clause-refused
returns-clause-refused c =
    let has = c.may_need_upkeep.ensures c.if-may_need_upkeep.false in
    rw (refused-with_cell c.args.self.now c.args.command has) c.apply_with_cell.ensures.refused

pub returns-clause-memory : goal.returns-clause-memory
returns-clause-memory c =
    let has = c.may_need_upkeep.ensures c.if-may_need_upkeep.false in
    rw (refused-with_cell c.args.self.now c.args.command has) c.apply_with_cell.ensures.memory
