use Rattle.std.proofs.Common.{rules}
use Rattle.crack_part.specs.Parts.{table_of}
use Rattle.crack_part.proofs.OrderLemmas.{IsFaithful-own}
use Rattle.crack_plain.specs.Past.{IsLegal}
use Rattle.crack_witness.specs.Histories.{history_of, past_in, AreHistories}
use Rattle.crack_witness.proofs.Keeping.{state-divided}
use Rattle.crack_witness.proofs.Pasts.{IsLegal-divided, HasTotals-divided, no_past-divided}
use Rattle.crack_witness.proofs.witnessed.Witnessed.recall_invariant.Goals as goal

-- the past is legal
legal : (g : _) (c : goal.After-recall_invariant g) → IsLegal c.self.inside.partition.keys c.self.inside.partition.limits (past_in (history_of (g.J.Naming.owner c.self.inside.history_writer.part) c.self.inside.history_writer.log) (table_of c.self.inside.partition))
legal g c =
    let owner = g.J.Naming.owner c.self.inside.history_writer.part in
    let p = c.self.inside.partition in
    let histories : AreHistories c.self.inside.history_writer.log = search rules in
    IsLegal-divided p.keys p.limits (history_of owner c.self.inside.history_writer.log) (table_of p) c.self.invariant.0 (histories owner) c.self.invariant.4 c.recall_invariant.ensures.few_since c.recall_invariant.ensures.lived

pub returns-clause-whole : goal.returns-clause-whole
returns-clause-whole g c = rw (← c.self.view_is) (record { legal = search rules; kept = c.self.invariant.0; known = c.self.invariant.2; listed = c.self.invariant.3; past = legal g c })

pub returns-clause-totals : goal.returns-clause-totals
returns-clause-totals g c = rw (← c.self.view_is) (HasTotals-divided (history_of (g.J.Naming.owner c.self.inside.history_writer.part) c.self.inside.history_writer.log) c.self.inside.partition c.self.invariant.0 (legal g c))

pub returns-clause-divided : goal.returns-clause-divided
returns-clause-divided g c = rw (← c.self.view_is) (state-divided (history_of (g.J.Naming.owner c.self.inside.history_writer.part) c.self.inside.history_writer.log) (table_of c.self.inside.partition) c.self.invariant.0)

pub returns-clause-faithful : goal.returns-clause-faithful
returns-clause-faithful g c = rw (← c.self.view_is) (rw (state-divided (history_of (g.J.Naming.owner c.self.inside.history_writer.part) c.self.inside.history_writer.log) (table_of c.self.inside.partition) c.self.invariant.0) (IsFaithful-own c.self.inside.partition))

pub returns-clause-fresh : goal.returns-clause-fresh
returns-clause-fresh g c = rw (← c.self.view_is) (λ none. rw none (no_past-divided (table_of c.self.inside.partition)))
