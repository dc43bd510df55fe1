use Rattle.std.proofs.Common.{◌<◌, length, refl, ◌∙◌, arith}
use Rattle.crack_row.specs.declared.command.Policy.TheVariants.{Complete}
use Rattle.crack_merge.proofs.AtOnce.{first_found, none_outside, PutsIn-all}
use Rattle.crack_merge.proofs.CarryLaws.{PutsIn-room}
use Rattle.crack_merge.proofs.complete.merge_insertions_at_once.Goals as goal

pub returns-then-pending_in-eq0-clause-puts : goal.returns-then-pending_in-eq0-clause-puts
returns-then-pending_in-eq0-clause-puts c = λ _. PutsIn-room Complete c.args.store.now c.args.store.now (record { same = refl })

pub carry_at_once-requires : goal.carry_at_once-requires
carry_at_once-requires c =
    let some : 0 < length c.args.store.now.pending_in = omega (arith, c.if-pending_in-eq0.false) in
    rw c.keys-keys.ensures (first_found c.args.store.now.keys c.args.store.now (omega arith) (omega arith) c.recall_invariant.ensures some)

pub returns-clause-puts : goal.returns-clause-puts
returns-clause-puts c = λ done. PutsIn-all c.args.store.now c.carry_at_once.new.store c.recall_invariant.ensures (rw c.keys-keys.ensures at (c.carry_at_once.ensures.all done))

pub returns-clause-all : goal.returns-clause-all
returns-clause-all c = λ done. (rw c.keys-keys.ensures at (c.carry_at_once.ensures.left done)) ∙ none_outside c.args.store.now.keys c.args.store.now (omega arith) (omega arith) c.recall_invariant.ensures
