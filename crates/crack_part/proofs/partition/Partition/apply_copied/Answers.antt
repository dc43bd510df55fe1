use Rattle.std.proofs.Common.{rules, ◌≡◌, sym, subst}
use Rattle.std.specs.Prelude.{None, Err}
use Rattle.std.proofs.lemmas.Bool.{false≢true}
use Rattle.crack_row.specs.Commands.{change_of}
use Rattle.crack_row.specs.Replies.{IsFlat}
use Rattle.crack_part.specs.Parts.{Part, Serves, state_of}
use Rattle.crack_part.specs.Refusals.{refusal_of}
use Rattle.crack_part.proofs.CopyLaws.{change-listed, Spares-served, KnowsPart-recounted, refused-on, refused-not}
use Rattle.crack_part.proofs.partition.Partition.apply_copied.Goals as goal

pub returns-in_err-reply-clause-refused : goal.returns-in_err-reply-clause-refused
returns-in_err-reply-clause-refused c =
    let e = c.in_err-reply.field-0.0 in
    let given : c.from_residual.result ≡ Err e = search rules in
    refused-on _ (refusal_of c.args.self.now c.args.command) c.from_residual.result e _ given c.in_err-reply.ensures.refused

pub returns-in-Ok-clause-refused : goal.returns-in-Ok-clause-refused
returns-in-Ok-clause-refused c = refused-not (refusal_of c.args.self.now c.args.command) c.in_ok-reply.reply _ _ _ c.in_ok-reply.ensures.refused

pub invariant_of-self : goal.invariant_of-self
invariant_of-self c =
    let at = c.self.inside in
    let to = c.self-2.inside in
    let p : Part = record { keys = at.keys; limits = at.limits; next = at.next; checkpointed = at.checkpointed; since = at.since; store = at.store } in
    let q : Part = record { keys = to.keys; limits = to.limits; next = to.next; checkpointed = to.checkpointed; since = to.since; store = to.store } in
    let said = c.in_ok-reply.ensures in
    let none : change_of c.args.command ≡ None = change-listed (state_of c.args.self.now) c.args.command (λ flat. false≢true (c.in-Err.ensures.flat (subst IsFlat (sym said.reply) flat))) in
    KnowsPart-recounted to.known c.args.policy p q c.args.self.now c.apply.new.self c.args.command c.self.view_is c.self-2.view_is none c.self.invariant.sound c.self-2.invariant said.opened said.store said.state

pub returns-in-Err-clause-spared : goal.returns-in-Err-clause-spared
returns-in-Err-clause-spared c =
    let said = c.in_ok-reply.ensures in
    let none : change_of c.args.command ≡ None = change-listed (state_of c.args.self.now) c.args.command (λ flat. false≢true (c.in-Err.ensures.flat (subst IsFlat (sym said.reply) flat))) in
    let served = subst (λ (x : Part). Serves c.args.policy c.args.self.now c.args.command x.store) (sym c.self-2.view_is) said.store in
    Spares-served c.args.policy c.args.self.now c.args.command c.self-2.inside.store none served
