use Rattle.std.proofs.Common.{None, sym, ap, ◌∙◌}
use Rattle.crack_state.specs.State.{State}
use Rattle.crack_merge.proofs.AtOnce.{CarriesAll-at_once, none_outside}
use Rattle.crack_merge.proofs.InBulk.{CarriesAll-in_bulk}
use Rattle.crack_merge.proofs.carries.carry_at_once.Goals as goal

pub append_at_once-requires : goal.append_at_once-requires
append_at_once-requires c = c.is_appendable.ensures.uncracked c.if-is_appendable.true

pub returns-then-is_appendable-clause-all : goal.returns-then-is_appendable-clause-all
returns-then-is_appendable-clause-all c = λ done.
    let yes = c.if-is_appendable.true in
    let can = c.is_appendable.ensures in
    CarriesAll-at_once None c.args.range c.args.store.now c.append_at_once.new.store c.args.first (record { high_end = tt; low = can.low yes; high = can.high yes; uncracked = can.uncracked yes; intact = can.intact }) c.requires (c.append_at_once.ensures.all done)

pub returns-then-is_appendable-clause-left : goal.returns-then-is_appendable-clause-left
returns-then-is_appendable-clause-left c = λ done.
    let yes = c.if-is_appendable.true in
    let can = c.is_appendable.ensures in
    ap (λ (x : State). x.pending_in) (c.append_at_once.ensures.all done).same ∙ sym (none_outside c.args.range c.args.store.now (can.low yes) (can.high yes) can.intact)

pub returns-clause-all : goal.returns-clause-all
returns-clause-all c = λ done. CarriesAll-in_bulk None c.args.range c.args.store.now c.carry_in_bulk.new.self c.args.first tt c.is_appendable.ensures.intact c.requires (c.carry_in_bulk.ensures.carried done)
