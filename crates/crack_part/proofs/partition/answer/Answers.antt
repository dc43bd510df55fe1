use Rattle.std.proofs.Common.{inl, inr, ◌∙◌}
use Rattle.std.proofs.lemmas.Result.{on_ok_weaker, on_err_weaker, IfOk-weaker}
use Rattle.crack_part.proofs.KeepLemmas.{Keeps-prepared, IsIntact-prepared, Spares-prepared}
use Rattle.crack_part.proofs.SoundLemmas.{IsFaithful-kept}
use Rattle.crack_part.proofs.partition.answer.Goals as goal

pub carry_out-requires-clause-common : goal.carry_out-requires-clause-common
carry_out-requires-clause-common c =
    let prepared = rw c.range.ensures at c.in_ok-common.ensures.prepared in
    let keeps = Keeps-prepared c.args.policy c.args.keys _ c.args.store.now c.prepare.new.store prepared in
    rw (keeps.ends ∙ c.requires.ends) (rw c.range.ensures at c.in_ok-common.ensures.common)

pub carry_out-requires-clause-intact : goal.carry_out-requires-clause-intact
carry_out-requires-clause-intact c =
    let prepared = rw c.range.ensures at c.in_ok-common.ensures.prepared in
    IsIntact-prepared c.args.policy c.args.keys _ c.args.store.now c.prepare.new.store prepared c.requires.intact

pub returns-clause-spared : goal.returns-clause-spared
returns-clause-spared c =
    let prepared = rw c.range.ensures at c.in_ok-common.ensures.prepared in
    on_err_weaker c.carry_out.result (λ same. (Spares-prepared c.args.policy c.args.keys _ c.args.store.now c.prepare.new.store c.carry_out.new.store prepared same.0, same.1)) c.carry_out.ensures.same

pub returns-clause-served : goal.returns-clause-served
returns-clause-served c = on_ok_weaker c.carry_out.result (λ performed. record {
  ready = c.prepare.new.store;
  prepared = rw c.range.ensures at c.in_ok-common.ensures.prepared;
  performed = performed;
}) c.carry_out.ensures.performed

pub returns-clause-faithful : goal.returns-clause-faithful
returns-clause-faithful c = on_ok_weaker c.carry_out.result (λ faithfully plain faithful.
    let prepared = rw c.range.ensures at c.in_ok-common.ensures.prepared in
    let keeps = Keeps-prepared c.args.policy c.args.keys _ c.args.store.now c.prepare.new.store prepared in
    faithfully plain (IsFaithful-kept c.args.store.now c.prepare.new.store c.args.next.now plain keeps faithful)) c.carry_out.ensures.faithful

pub returns-clause-replies : goal.returns-clause-replies
returns-clause-replies c = IfOk-weaker c.carry_out.result _ _ (λ reply replied plain numbered faithful knows.
    let prepared = rw c.range.ensures at c.in_ok-common.ensures.prepared in
    let keeps = Keeps-prepared c.args.policy c.args.keys _ c.args.store.now c.prepare.new.store prepared in
    replied plain numbered (IsFaithful-kept c.args.store.now c.prepare.new.store c.args.next.now plain keeps faithful) (c.in_ok-common.ensures.knows plain knows)) c.carry_out.ensures.reply

pub returns-clause-small : goal.returns-clause-small
returns-clause-small c = IfOk-weaker c.carry_out.result _ _ (λ reply small plain numbered faithful few.
    let prepared = rw c.range.ensures at c.in_ok-common.ensures.prepared in
    let keeps = Keeps-prepared c.args.policy c.args.keys _ c.args.store.now c.prepare.new.store prepared in
    small plain numbered (IsFaithful-kept c.args.store.now c.prepare.new.store c.args.next.now plain keeps faithful) few) c.carry_out.ensures.small

pub returns-clause-lists : goal.returns-clause-lists
returns-clause-lists c = IfOk-weaker c.carry_out.result _ _ (λ reply flat. elim flat [
  | inl none ↦
      let prepared = rw c.range.ensures at c.in_ok-common.ensures.prepared in
      let still = c.carry_out.ensures.none none in
      inl (rw still.0 prepared, still.1, none)
  | inr flat ↦ inr flat
]) c.carry_out.ensures.flat

pub returns-clause-knows : goal.returns-clause-knows
returns-clause-knows c = λ plain numbered faithful knows.
    let prepared = rw c.range.ensures at c.in_ok-common.ensures.prepared in
    let keeps = Keeps-prepared c.args.policy c.args.keys _ c.args.store.now c.prepare.new.store prepared in
    c.carry_out.ensures.knows plain numbered (IsFaithful-kept c.args.store.now c.prepare.new.store c.args.next.now plain keeps faithful) (c.in_ok-common.ensures.knows plain knows)

pub returns-clause-passed : goal.returns-clause-passed
returns-clause-passed c = on_ok_weaker c.carry_out.result (λ performed. record {
  ready = c.prepare.new.store;
  prepared = rw c.range.ensures at c.in_ok-common.ensures.passed;
  performed = performed;
}) c.carry_out.ensures.performed

pub returns-clause-stopped : goal.returns-clause-stopped
returns-clause-stopped c = on_err_weaker c.carry_out.result (λ same. inr (c.prepare.new.store, rw c.range.ensures at c.in_ok-common.ensures.passed, same.0)) c.carry_out.ensures.same
