-- The answers of a session over a worker's desk are made of replies in the histories.
use Rattle.std.proofs.Common.{ℕ, ◌∙◌, subst}
use Rattle.crack_session.specs.Calls.{Call}
use Rattle.crack_table.specs.Tables.{TableState}
use Rattle.crack_witness.specs.Witnesses.{WorkerState}
use Rattle.crack_worker_desk.specs.Histories.{IsGathered, AreLinesOfHistories}
use Rattle.crack_worker_desk.proofs.Holding.{worker_leads, IsStep, Lead, Lead-all}
use Rattle.crack_worker_desk.proofs.Standing.{stands}

module _ {D G : Type 0} (owner : ℕ → ℕ) (may_refuse : G → ℕ → ℕ → Type 0) (leads : D → Call → D → Type 0) (table : D → TableState) (gate : D → G) (worker : D → WorkerState) (step : IsStep (λ t g. worker_leads owner t (may_refuse g)) leads table gate worker) where
  pub lines : (last : D) → AreLinesOfHistories leads table worker owner last
  lines last = λ old new later parts policy readings answers goes gathered are.
      let here = Lead-all (λ t g. worker_leads owner t (may_refuse g)) leads table gate worker step are.0 old new are.1 in
      let then = Lead-all (λ t g. worker_leads owner t (may_refuse g)) leads table gate worker step later new last goes in
      let after : Lead (λ t g. worker_leads owner t (may_refuse g)) leads table gate worker (table old) (gate old) new later last =
      subst (λ (g : G). Lead (λ t g. worker_leads owner t (may_refuse g)) leads table gate worker (table old) g new later last) here.1
      (subst (λ (t : TableState). Lead (λ t g. worker_leads owner t (may_refuse g)) leads table gate worker t (gate new) new later last) here.0 then.2) in (
        are.0,
        stands owner (table old) (may_refuse (gate old)) parts (worker last) (subst (λ (t : TableState). IsGathered owner t parts (worker last)) (then.0 ∙ here.0) gathered) are.0 later (worker old) (worker new) here.2 after,
        are.2,
      )
