use Rattle.std.proofs.Common.{Some}
use Rattle.crack_merge.proofs.AtOnce.{CarriesAll-at_once}
use Rattle.crack_merge.proofs.InBulk.{CarriesAll-in_bulk}
use Rattle.crack_merge.proofs.carries.carry_under.Goals as goal

pub append_at_once-requires : goal.append_at_once-requires
append_at_once-requires c = c.is_appendable.ensures.uncracked c.if-is_appendable.true

pub returns-then-is_appendable-clause-all : goal.returns-then-is_appendable-clause-all
returns-then-is_appendable-clause-all c = λ done.
    let yes = c.if-is_appendable.true in
    let can = c.is_appendable.ensures in
    CarriesAll-at_once (Some c.args.ceiling.0) c.args.range c.args.store.now c.append_at_once.new.store c.args.first (record { high_end = c.requires.ceiling; low = can.low yes; high = can.high yes; uncracked = can.uncracked yes; intact = can.intact }) c.requires.first (c.append_at_once.ensures.all done)

pub returns-clause-all : goal.returns-clause-all
returns-clause-all c = λ done. CarriesAll-in_bulk (Some c.args.ceiling.0) c.args.range c.args.store.now c.carry_under.new.self c.args.first c.requires.ceiling c.is_appendable.ensures.intact c.requires.first (c.carry_under.ensures.carried done)
