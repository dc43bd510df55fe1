-- The two fields of a record.
use Rattle.std.proofs.Common.{◌≡◌, ℕ, Some, List, [], ◌∷◌, length, arith}
use Rattle.csv.specs.Records.{field_at}

-- a record of two fields is these two
pub two_of : (fields : List (List ℕ)) (a b : List ℕ) → length fields ≡ 2 → Some a ≡ field_at fields 0 → Some b ≡ field_at fields 1 → fields ≡ a ∷ b ∷ []
unfolding field_at
two_of [] a b n first second = absurd (omega (arith, n))
two_of (x ∷ []) a b n first second = absurd (omega (arith, n))
two_of (x ∷ y ∷ []) a b n first second = cc (first, second)
two_of (x ∷ y ∷ z ∷ more) a b n first second = absurd (omega (arith, n))
