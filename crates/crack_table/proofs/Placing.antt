-- The outcome of asking.
use Rattle.std.proofs.Common.{◌≡◌, ℕ, refl, sym, ◌∙◌, Result, Ok, Err}
use Rattle.std.specs.Prelude.{MatchResult}
use Rattle.crack_row.specs.declared.refusal.Refusal.{Refusal}
use Rattle.crack_table.specs.Tables.{with_limit}

-- the outcome of asking is passed on, except for the limit of a full history
pub answered-ok : {X : Type 0} (a r : Result X Refusal) (limit : ℕ) (x : X) → MatchResult a (λ y. r ≡ Ok y) (λ e. r ≡ Err (with_limit limit e)) → r ≡ Ok x → a ≡ Ok x
answered-ok (Ok y) r limit x told is = sym told ∙ is
answered-ok {X} (Err e) r limit x told is = absurd (let no : ◌≡◌ {A = Result X Refusal} (Err (with_limit limit e)) (Ok x) = sym told ∙ is in cc no)

pub answered-err : {X : Type 0} (a r : Result X Refusal) (limit : ℕ) (e : Refusal) → MatchResult a (λ y. r ≡ Ok y) (λ e. r ≡ Err (with_limit limit e)) → r ≡ Err e → (cause : Refusal) × (a ≡ Err cause)
answered-err {X} (Ok y) r limit e told is = absurd (let no : ◌≡◌ {A = Result X Refusal} (Ok y) (Err e) = sym told ∙ is in cc no)
answered-err (Err cause) r limit e told is = (cause, refl)
