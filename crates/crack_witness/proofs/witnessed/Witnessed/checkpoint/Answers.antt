use Rattle.std.proofs.Common.{sym, ap, subst, ◌≡◌, ◌∙◌}
use Rattle.crack_plain.specs.Past.{checkpointed_past}
use Rattle.crack_part.specs.Parts.{Part, table_of}
use Rattle.crack_witness.specs.Histories.{history_of, IsPastOf, past_in}
use Rattle.crack_witness.specs.Keeps.{AreWithin}
use Rattle.crack_witness.proofs.Keeping.{IsPastOf-checkpointed, past_in-checkpointed}
use Rattle.crack_witness.proofs.witnessed.Witnessed.checkpoint.Goals as goal

pub invariant_of-self : goal.invariant_of-self
invariant_of-self g c =
    let h = history_of (g.J.Naming.owner c.self.inside.history_writer.part) c.self.inside.history_writer.log in
    (subst (λ (p : Part). IsPastOf h (table_of p)) (sym c.checkpoint.ensures.checkpointed) (IsPastOf-checkpointed h (table_of c.self.inside.partition) c.self.invariant.0), c.self.invariant.1, c.self.invariant.2, c.self.invariant.3, subst (λ (p : Part). AreWithin p.keys h) (sym c.checkpoint.ensures.checkpointed) c.self.invariant.4)

pub returns-clause-divides : goal.returns-clause-divides
returns-clause-divides g c =
    let h = history_of (g.J.Naming.owner c.self.inside.history_writer.part) c.self.inside.history_writer.log in
    let p = c.self.inside.partition in
    let done : past_in h (table_of c.checkpoint.new.self) ≡ checkpointed_past (past_in h (table_of p)) = ap (λ (q : Part). past_in h (table_of q)) c.checkpoint.ensures.checkpointed ∙ past_in-checkpointed h (table_of p) c.self.invariant.0 in
    rw (← c.self.view_is) done
