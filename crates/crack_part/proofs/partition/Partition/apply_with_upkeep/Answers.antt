use Rattle.std.proofs.Common.{rules, ◌≡◌, refl, subst}
use Rattle.std.specs.Prelude.{Err}
use Rattle.crack_part.specs.Parts.{Part, Serves, Spares}
use Rattle.crack_part.specs.Refusals.{refusal_of}
use Rattle.crack_part.proofs.ClearLaws.{Spares-unchanged}
use Rattle.crack_part.proofs.RefusalLaws.{refused-early}
use Rattle.crack_part.proofs.ApplyLaws.{AppliesCleared, applies-refused, applies-without, applies-upkept}
use Rattle.crack_part.proofs.partition.Partition.apply_with_upkeep.Goals as goal

pub returns-in_err-may_keep : goal.returns-in_err-may_keep
returns-in_err-may_keep c =
    let p = c.args.self.now in
    let command = c.args.command in
    let e = c.in_err-may_keep.field-0.0 in
    let given : c.from_residual.result ≡ Err e = search rules in
    let by = refused-early p command e c.in_err-may_keep.ensures.err in
    record { applies = applies-refused (Serves c.args.policy p command) (Spares c.args.policy p command) command (refusal_of p command) p p c.from_residual.result e given by refl (Spares-unchanged c.args.policy p command) }

pub returns-in_err-make_cell : goal.returns-in_err-make_cell
returns-in_err-make_cell c =
    let e = c.in_err-make_cell.field-0.0 in
    let given : c.from_residual-in_err-make_cell.result ≡ Err e = search rules in
    record { applies = applies-without c.args.policy c.args.command c.args.self.now c.make_cell.new.self c.from_residual-in_err-make_cell.result e given c.in_ok-may_keep.ensures.ok c.in_err-make_cell.ensures.err c.make_cell.ensures.same }

pub returns : goal.returns
returns c =
    let policy = c.args.policy in
    let command = c.args.command in
    let q = c.make_cell.new.self in
    let r = c.apply_with_cell.result in
    let t = c.apply_with_cell.new.self in
    let said = c.apply_with_cell.ensures in
    let done : AppliesCleared policy command c.shrink_if_due.new.self r t = record {
      reply = said.reply;
      small = said.small;
      table = said.table;
      state = said.state;
      store = said.store;
      opened = said.opened;
      err = said.err;
      spared = said.spared;
      refused = said.refused;
      memory = said.memory;
    } in
    let moved = subst (λ (x : Part). AppliesCleared policy command x r t) c.shrink_if_due.ensures done in
    record { applies = applies-upkept policy command c.args.self.now q t r c.in_ok-may_keep.ensures.ok c.in_ok-make_cell.ensures.frees c.make_cell.ensures.same moved }
