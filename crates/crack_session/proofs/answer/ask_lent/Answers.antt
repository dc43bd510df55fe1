use Rattle.std.proofs.Common.{Ok, Err, refl, ap, inl, inr}
use Rattle.crack_session.specs.declared.answer.Answer.TheVariants.{Refused}
use Rattle.crack_session.proofs.Asking.{lent-asked, lent-none}
use Rattle.crack_session.proofs.answer.ask_lent.Goals as goal

pub returns-in-Ok : goal.returns-in-Ok
returns-in-Ok g c =
    let lent = lent-asked g.D.Desk.bounds g.D.Desk.splits g.D.Desk.tables g.D.Desk.leads (λ s. s.desk.now) (λ s. s.desk.ghost_name) c.args.policy c.args.query c.args.lent.now c.args.parts.now (Ok c.in-Ok.replies.items) c.joined.result c.ask_parts.new.partitions c.in-Ok.ensures.ok c.joined.ensures in
    record { asks = lent.0; lent = lent.1 }

pub returns-in-Err-clause-asks : goal.returns-in-Err-clause-asks
returns-in-Err-clause-asks g c = elim c.in-Err.ensures.err [
  | inl asked ↦ (lent-asked g.D.Desk.bounds g.D.Desk.splits g.D.Desk.tables g.D.Desk.leads (λ s. s.desk.now) (λ s. s.desk.ghost_name) c.args.policy c.args.query c.args.lent.now c.args.parts.now (Err c.in-Err.refusal) (Refused c.in-Err.refusal) c.ask_parts.new.partitions asked refl).0
  | inr none ↦ (lent-none g.D.Desk.bounds g.D.Desk.splits g.D.Desk.tables g.D.Desk.leads (λ s. s.desk.now) (λ s. s.desk.ghost_name) c.args.policy c.args.query c.args.lent.now c.args.parts.now (Refused c.in-Err.refusal) c.ask_parts.new.partitions none.1 (ap Refused none.0)).0
]

pub returns-in-Err-clause-lent : goal.returns-in-Err-clause-lent
returns-in-Err-clause-lent g c = elim c.in-Err.ensures.err [
  | inl asked ↦ (lent-asked g.D.Desk.bounds g.D.Desk.splits g.D.Desk.tables g.D.Desk.leads (λ s. s.desk.now) (λ s. s.desk.ghost_name) c.args.policy c.args.query c.args.lent.now c.args.parts.now (Err c.in-Err.refusal) (Refused c.in-Err.refusal) c.ask_parts.new.partitions asked refl).1
  | inr none ↦ (lent-none g.D.Desk.bounds g.D.Desk.splits g.D.Desk.tables g.D.Desk.leads (λ s. s.desk.now) (λ s. s.desk.ghost_name) c.args.policy c.args.query c.args.lent.now c.args.parts.now (Refused c.in-Err.refusal) c.ask_parts.new.partitions none.1 (ap Refused none.0)).1
]
