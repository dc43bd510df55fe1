-- What private clauses alone cite.
-- The invariants of a tree of pieces: the total that each node stores, and subtrees of almost equal height.
use Rattle.std.specs.Prelude.{◌≡◌, ⊤, ℕ, ℤ, pos, ◌+◌, ◌+ℤ◌, ◌^◌, ◌<◌, ◌&&◌, max, nat_le, unsigned_abs, cond, length, List, [], ◌∷◌, ◌++◌, Option, Some, None}
use Rattle.std.specs.Ordering.{int_eq}
use Rattle.std.specs.declared.alloc.Global.{Global}
use Rattle.std.proofs.Common.{Box}
use Rattle.crack_row.specs.Ranges.{Range, is_in}
use Rattle.crack_index.specs.declared.sums.TheConstants.{UNKNOWN}
use Rattle.crack_index.specs.Keeps.{IsTall, DifferByAtMost}
use Rattle.crack_index.specs.Sums.{IsKnown}
use Rattle.crack_index.specs.Cuts.{StartsRise}
use Rattle.crack_index.specs.SumTrees.{Summed, entries_in_tree}

-- the height of a tree of pieces, 0 if it is empty
abbrev pub levels_of : Option (Box Summed Global) → ℕ
levels_of None = 0
levels_of (Some n) = n.value.height

-- the total of the sums of the pieces; one that isn't known counts as the number `UNKNOWN`
abbrev pub total_of : List (ℕ × ℤ) → ℤ
total_of [] = pos 0
total_of (e ∷ es) = e.1 +ℤ total_of es

-- the sum of the absolute values of the pieces' sums
abbrev pub distance_of : List (ℕ × ℤ) → ℕ
distance_of [] = 0
distance_of (e ∷ es) = unsigned_abs e.1 + distance_of es

-- the sums of all these pieces are known
abbrev pub AllKnown : List (ℕ × ℤ) → Type 0
AllKnown [] = ⊤
AllKnown (e ∷ es) = IsKnown e.1 × AllKnown es

-- `total` is the total of the pieces `es`, or `UNKNOWN`. It is `UNKNOWN` if one of their sums is. It isn't if all are
-- known and their absolute values add up to less than 2^127
pub record IsTotal (es : List (ℕ × ℤ)) (total : ℤ) : Type 0 where
  pub right : IsKnown total → AllKnown es × (total ≡ total_of es)
  pub found : AllKnown es → distance_of es < 2 ^ 127 → IsKnown total

-- the pieces that begin in the range
abbrev pub inside : Range → List (ℕ × ℤ) → List (ℕ × ℤ)
inside range [] = []
inside range (e ∷ es) = cond (is_in range e.0) (e ∷ inside range es) (inside range es)

-- the start of the first piece that begins at or above `first` and whose sum is unknown, or `None` if there is none
abbrev pub unknown_from : ℕ → List (ℕ × ℤ) → Option ℕ
unknown_from first [] = None
unknown_from first (e ∷ es) = cond (nat_le first e.0 && int_eq e.1 UNKNOWN) (Some e.0) (unknown_from first es)

-- the invariant of a node with the piece `entry` and the subtrees `left` and `right`: these differ in height by at
-- most one; `height` is one more than the greater height, and fits the number of pieces in the node's tree (`IsTall`);
-- `total` is the total of all these pieces, or `UNKNOWN`, as `IsTotal` says
pub record IsSummed (left : Option (Box Summed Global)) (entry : ℕ × ℤ) (right : Option (Box Summed Global)) (total : ℤ) (height : ℕ) : Type 0 where
  pub high : height ≡ max (levels_of left) (levels_of right) + 1
  pub even : DifferByAtMost 1 (levels_of left) (levels_of right)
  pub tall : IsTall (length (entries_in_tree left ++ entry ∷ entries_in_tree right)) height
  pub summed : IsTotal (entries_in_tree left ++ entry ∷ entries_in_tree right) total

-- the invariant of a list of pieces: their starts rise (`StartsRise`), and `len` is their number
pub record AreCountedPieces (es : List (ℕ × ℤ)) (len : ℕ) : Type 0 where
  pub rises : StartsRise es
  pub counted : length es ≡ len
