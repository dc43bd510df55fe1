-- New workers, and the partitions that they are to ask.
use Rattle.std.proofs.Common.{◌≡◌, Bool, ◌+◌, ℕ, zero, suc, List, [], ◌∷◌, ◌++◌, length, Some, refl, ap, sym, subst, arith, length-append}
use Rattle.std.specs.List.{slice_get}
use Rattle.crack_part.specs.Parts.{Part}
use Rattle.crack_witness.specs.Witnesses.{WorkerState, WitnessedState, AreNewFrom, IsNewWorker}
use Rattle.crack_table.specs.Opening.{AreNewWorkers}

-- what holds of each place holds of one more
push_each : {X : Type 0} (P : ℕ → X → Type 0) (xs : List X) (y : X) → ((k : ℕ) (x : X) → slice_get xs k ≡ Some x → P k x) → P (length xs) y → (k : ℕ) (x : X) → slice_get (xs ++ y ∷ []) k ≡ Some x → P k x
push_each P [] y old new zero x is = let same : y ≡ x = cc is in subst (P 0) same new
push_each P [] y old new (suc k) x is = absurd (cc is)
push_each P (z ∷ zs) y old new zero x is = old zero x is
push_each {X} P (z ∷ zs) y old new (suc k) x is = push_each (λ (n : ℕ) (v : X). P (suc n) v) zs y (λ j v e. old (suc j) v e) new k x is

pub new_more : (n parts : ℕ) (audited : Bool) (workers : List WorkerState) (a : WorkerState) → AreNewWorkers n parts audited workers → IsNewWorker n parts audited a → AreNewWorkers (n + 1) parts audited (workers ++ a ∷ [])
new_more n parts audited workers a old new = record {
  count = omega (arith, old.count, length-append workers (a ∷ []));
  numbered = push_each (λ (k : ℕ) (x : WorkerState). IsNewWorker k parts audited x) workers a old.numbered (subst (λ (k : ℕ). IsNewWorker k parts audited a) (sym old.count) new);
}

-- as many partitions are witnessed as there are
pub witnessed_count : (owner : ℕ → ℕ) (workers : ℕ) (audited : Bool) (number : ℕ) (ps : List Part) (ws : List WitnessedState) → AreNewFrom owner workers audited number ps ws → length ws ≡ length ps
witnessed_count owner workers audited number [] [] new = refl
witnessed_count owner workers audited number [] (w ∷ ws) new = absurd new
witnessed_count owner workers audited number (p ∷ ps) [] new = absurd new
witnessed_count owner workers audited number (p ∷ ps) (w ∷ ws) new = ap suc (witnessed_count owner workers audited (number + 1) ps ws new.1)
