-- What follows from calls by numbers.
use Rattle.std.specs.Prelude.{◌≡◌, ℕ, ℤ, List, Result}
use Rattle.std.proofs.Common.{subst}
use Rattle.crack_row.specs.declared.Bound.{Bound}
use Rattle.crack_row.specs.declared.Key.{Key}
use Rattle.crack_row.specs.declared.Payload.{Payload}
use Rattle.crack_row.specs.declared.RowNo.{RowNo}
use Rattle.crack_row.specs.declared.limit.Limits.{Limits}
use Rattle.crack_row.specs.declared.refusal.Refusal.{Refusal}
use Rattle.crack_part.specs.Parts.{Part}
use Rattle.crack_core.specs.Asking.{Inserts}

-- a row is placed by the numbers of its key and payload
pub inserts-by : (limits : Limits) (splits : List Bound) (key : ℕ) (payload : ℤ) (key' : Key) (payload' : Payload) (result : Result RowNo Refusal) (old new : List Part) → key'.0 ≡ key → payload'.0 ≡ payload → Inserts limits splits key' payload' result old new → Inserts limits splits (record { 0 = key }) (record { 0 = payload }) result old new
inserts-by limits splits key payload key' payload' result old new key_is payload_is inserts =
    subst (λ (n : ℕ). Inserts limits splits (record { 0 = n }) (record { 0 = payload }) result old new) key_is
    (subst (λ (n : ℤ). Inserts limits splits key' (record { 0 = n }) result old new) payload_is inserts)
