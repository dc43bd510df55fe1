-- A desk's calls are its worker's.
use Rattle.std.proofs.Common.{◌≡◌, ℕ, List, [], ◌∷◌, ap, ◌∙◌, subst}
use Rattle.crack_session.specs.Calls.{Call, Calls}
use Rattle.crack_table.specs.Asking.{AsksTable}
use Rattle.crack_table.specs.Tables.{TableState}
use Rattle.crack_witness.specs.Witnesses.{WorkerState}
use Rattle.crack_worker_desk.specs.Leads.{table_leads}

-- what a call does to a worker: an answer is at the end of its partition's one history, as the worker then sees it
abbrev pub worker_leads : (ℕ → ℕ) → TableState → (ℕ → ℕ → Type 0) → WorkerState → Call → WorkerState → Type 0
worker_leads owner table may_refuse = table_leads table (λ part. AsksTable owner table (may_refuse part) part)

module _ {D G S : Type 0} (stands : TableState → G → S → Call → S → Type 0) (leads : D → Call → D → Type 0) (table : D → TableState) (gate : D → G) (worker : D → S) where
  -- what a call does to a desk over its table, with its gate
  abbrev pub IsStep : Type 0
  IsStep = (d : D) (call : Call) (e : D) → leads d call e → (table e ≡ table d) × (gate e ≡ gate d) × stands (table d) (gate d) (worker d) call (worker e)

  -- the calls of a desk lead its worker from one state to another
  abbrev pub Lead : TableState → G → D → List Call → D → Type 0
  Lead t g old calls new = Calls (stands t g) (worker old) calls (worker new)

  pub Lead-all : IsStep → (calls : List Call) (old new : D) → Calls leads old calls new → (table new ≡ table old) × (gate new ≡ gate old) × Lead (table old) (gate old) old calls new
  Lead-all step [] old new were = (ap table were, ap gate were, ap worker were)
  Lead-all step (call ∷ calls) old new were =
      let one = step old call were.0 were.1 in
      let rest = Lead-all step calls were.0 new were.2 in (
        rest.0 ∙ one.0,
        rest.1 ∙ one.1,
        (worker were.0, one.2, subst (λ (g : G). Lead (table old) g were.0 calls new) one.1 (subst (λ (t : TableState). Lead t (gate were.0) were.0 calls new) one.0 rest.2)),
      )
