-- Why a worker of a table is refused.
use Rattle.std.specs.Prelude.{◌≡◌, ℕ, Result, Ok, Err, IfErr, MatchResult}
use Rattle.std.proofs.Common.{refl, inl, inr}
use Rattle.crack_row.specs.declared.command.Command.{Command}
use Rattle.crack_row.specs.declared.refusal.Refusal.{Refusal}
use Rattle.crack_witness.specs.Witnesses.{WorkerState, WitnessedState, MayRefuseAt}
use Rattle.crack_table.specs.Tables.{TableState, with_limit}
use Rattle.crack_table.specs.Asking.{MayRefuse}

-- if a witnessed partition refuses a worker, its table does, with its limit of a history
at-table : (owner : ℕ → ℕ) (table : TableState) (may_refuse : ℕ → Type 0) (part : ℕ) (w : WitnessedState) (command : Command) (old : WorkerState) (e : Refusal) → MayRefuseAt owner w part command old e → MayRefuse table may_refuse part command old (with_limit table.limits.history e)
at-table owner table may_refuse part w command old e cause = elim cause [
  | inl nowhere ↦ rw nowhere.0 (inr (inr (inr (inr (refl, nowhere.1)))))
  | inr rest ↦ elim rest [
    | inl strange ↦ rw strange.0 (inr (inr (inr (inl refl))))
    | inr more ↦ elim more [
      | inl short ↦ rw short (inr (inl refl))
      | inr refused ↦ inr (inr (inl (w.held, e, refused, refl)))
    ]
  ]
]

pub causes-witnessed : {X : Type 0} (owner : ℕ → ℕ) (table : TableState) (may_refuse : ℕ → Type 0) (part : ℕ) (w : WitnessedState) (command : Command) (old : WorkerState) (a r : Result X Refusal) → IfErr a (MayRefuseAt owner w part command old) → MatchResult a (λ x. r ≡ Ok x) (λ e. r ≡ Err (with_limit table.limits.history e)) → IfErr r (MayRefuse table may_refuse part command old)
causes-witnessed owner table may_refuse part w command old (Ok x) r cause told = rw told tt
causes-witnessed owner table may_refuse part w command old (Err e) r cause told = rw told (at-table owner table may_refuse part w command old e cause)
