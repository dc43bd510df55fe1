use Rattle.std.proofs.Common.{◌≡◌, arith, refl}
use Rattle.std.specs.Prelude.{false}
use Rattle.crack_row.specs.Commands.{change_of, range_of}
use Rattle.crack_part.specs.Parts.{Part, state_of, table_of}
use Rattle.crack_part.specs.Cells.{lacks_cell}
use Rattle.crack_part.proofs.CellLemmas.{fits-served}
use Rattle.crack_part.proofs.KeepLemmas.{Keeps-spared, IsIntact-spared, Spares-same}
use Rattle.crack_part.proofs.OrderLemmas.{IsFaithful-own, table_of-kept}
use Rattle.crack_part.proofs.PartLaws.{KnowsPart-kept, KnowsPart-served, state-served}
use Rattle.crack_part.proofs.PointLemmas.{on_err}
use Rattle.crack_part.proofs.RefusalLaws.{may-keep}
use Rattle.crack_part.proofs.SoundLemmas.{few_rows, next-le-life, accepted-le-life, MayPerform-prepared, Spends-served}
use Rattle.crack_part.proofs.UpkeepLaws.{table-answered}
use Rattle.crack_part.proofs.partition.Partition.apply_with_cell.Goals as goal

pub answer-requires-clause-insertable : goal.answer-requires-clause-insertable
answer-requires-clause-insertable c =
    let at = c.self.inside in
    let part : Part = record { keys = at.keys; limits = at.limits; next = at.next; checkpointed = at.checkpointed; since = at.since; store = at.store } in
    let kept = may-keep part c.args.command (rw (← c.self.view_is) at c.in_ok-may_keep.ensures.ok) in
    λ ready prepared. MayPerform-prepared c.args.policy part c.args.command ready c.self.invariant.sound kept.lives kept.within prepared

pub answer-requires-clause-small : goal.answer-requires-clause-small
answer-requires-clause-small c = let next = next-le-life _ c.self.invariant.sound in omega (arith, next)

pub count_command-requires : goal.count_command-requires
count_command-requires c = let few = accepted-le-life _ c.self.invariant.sound in omega (arith, few)

pub invariant_of-self : goal.invariant_of-self
invariant_of-self c =
    let at = c.self.inside in
    let part : Part = record { keys = at.keys; limits = at.limits; next = at.next; checkpointed = at.checkpointed; since = at.since; store = at.store } in
    let sound = c.self.invariant.sound in
    let spared = c.in_err-reply.ensures.spared in
    let keeps = Keeps-spared c.args.policy at.keys (range_of c.args.command) at.store c.answer.new.store spared.0 in
    let intact = IsIntact-spared c.args.policy at.keys (range_of c.args.command) at.store c.answer.new.store spared.0 sound.intact in
    let knows = c.in_err-reply.ensures.knows (state_of part) sound.numbered (IsFaithful-own part) c.self.invariant.knows in
    rw spared.1 (KnowsPart-kept c.answer.new.known part c.answer.new.store sound keeps intact knows)

pub invariant_of-self-2 : goal.invariant_of-self-2
invariant_of-self-2 c =
    let at = c.self.inside in
    let part : Part = record { keys = at.keys; limits = at.limits; next = at.next; checkpointed = at.checkpointed; since = at.since; store = at.store } in
    let sound = c.self.invariant.sound in
    let kept = may-keep part c.args.command (rw (← c.self.view_is) at c.in_ok-may_keep.ensures.ok) in
    let own = IsFaithful-own part in
    let faithful = c.in_ok-reply.ensures.faithful (state_of part) own in
    let spends = Spends-served c.args.policy part c.args.command c.answer.new.store sound kept.lives kept.within c.in_ok-reply.ensures.served in
    let cell : lacks_cell at.limits.cells at.store (change_of c.args.command) ≡ false = rw (← c.self.view_is) at c.requires.cell in
    let fits = fits-served c.args.policy at.keys _ at.next c.args.command at.store c.answer.new.store sound.cells cell c.in_ok-reply.ensures.served in
    let knows = c.in_ok-reply.ensures.knows (state_of part) sound.numbered own c.self.invariant.knows in
    KnowsPart-served c.answer.new.known part c.args.command c.answer.new.next _ _ c.answer.new.store sound c.count_command.ensures.checkpointed c.count_command.ensures.since kept.goes_on kept.lives fits c.in_ok-reply.ensures.intact faithful spends knows

pub returns-in_err-may_keep-clause-spared : goal.returns-in_err-may_keep-clause-spared
returns-in_err-may_keep-clause-spared c = on_err _ (Spares-same c.args.policy _ (range_of c.args.command) _)

pub returns-in_err-reply-clause-err : goal.returns-in_err-reply-clause-err
returns-in_err-reply-clause-err c =
    let at = c.self.inside in
    let part : Part = record { keys = at.keys; limits = at.limits; next = at.next; checkpointed = at.checkpointed; since = at.since; store = at.store } in
    let spared = c.in_err-reply.ensures.spared in
    let keeps = Keeps-spared c.args.policy at.keys (range_of c.args.command) at.store c.answer.new.store spared.0 in
    let new : Part = record part { next = c.answer.new.next; store = c.answer.new.store } in
    rw (← c.self.view_is) (on_err _ (table_of-kept part new (rw spared.1 refl) keeps.live))

pub returns-clause-state : goal.returns-clause-state
returns-clause-state c =
    let at = c.self.inside in
    let part : Part = record { keys = at.keys; limits = at.limits; next = at.next; checkpointed = at.checkpointed; since = at.since; store = at.store } in
    rw (← c.self.view_is) (state-served part c.args.command c.answer.new.next c.answer.new.store c.self.invariant.sound (c.in_ok-reply.ensures.faithful (state_of part) (IsFaithful-own part)))

pub returns-clause-table : goal.returns-clause-table
returns-clause-table c =
    let at = c.self.inside in
    let part : Part = record { keys = at.keys; limits = at.limits; next = at.next; checkpointed = at.checkpointed; since = at.since; store = at.store } in
    let state = state-served part c.args.command c.answer.new.next c.answer.new.store c.self.invariant.sound (c.in_ok-reply.ensures.faithful (state_of part) (IsFaithful-own part)) in
    rw (← c.self.view_is) (table-answered at.limits (table_of part) c.args.command _ _ _ state c.count_command.ensures.checkpointed c.count_command.ensures.since)

pub returns-clause-reply : goal.returns-clause-reply
returns-clause-reply c =
    let at = c.self.inside in
    let part : Part = record { keys = at.keys; limits = at.limits; next = at.next; checkpointed = at.checkpointed; since = at.since; store = at.store } in
    rw (← c.self.view_is) (c.in_ok-reply.ensures.replies (state_of part) c.self.invariant.sound.numbered (IsFaithful-own part) c.self.invariant.knows)

pub returns-clause-store : goal.returns-clause-store
returns-clause-store c = rw (← c.self.view_is) c.in_ok-reply.ensures.served

pub returns-clause-small : goal.returns-clause-small
returns-clause-small c =
    let at = c.self.inside in
    let part : Part = record { keys = at.keys; limits = at.limits; next = at.next; checkpointed = at.checkpointed; since = at.since; store = at.store } in
    c.in_ok-reply.ensures.small (state_of part) c.self.invariant.sound.numbered (IsFaithful-own part) (few_rows part c.self.invariant.sound)
