-- What holds in every layout of a partition.
use Rattle.std.specs.Prelude.{◌≡◌, ℕ, ◌+◌, ◌≤◌, List, [], ◌∷◌, sum_by}
use Rattle.crack_row.specs.Ranges.{Range}
use Rattle.crack_row.specs.declared.layout.PieceSize.{PieceSize}
use Rattle.crack_row.specs.declared.layout.Layout.{Layout}

-- the pieces lead from `low` to `high`: the first one begins at `low`, each other one begins where the previous one
-- ends, and the last one ends at `high`. No piece ends before it begins. Without pieces `low` and `high` are equal
abbrev pub LeadTo : ℕ → ℕ → List PieceSize → Type 0
LeadTo low high [] = low ≡ high
LeadTo low high (p ∷ ps) = (p.low.0 ≡ low) × (p.low.0 ≤ p.high.0) × LeadTo p.high.0 high ps

-- there is at least one piece, and the pieces lead from `low` to `high`, as `LeadTo` says
abbrev pub AreJoined : ℕ → ℕ → List PieceSize → Type 0
AreJoined low high [] = ⊥
AreJoined low high (p ∷ ps) = LeadTo low high (p ∷ ps)

-- the numbers of a layout agree. The pieces' sizes add up to the places, `column`. Places, pending insertions and free
-- cells are together as many as the cells. Live rows, `rows`, and pending deletions are together as many as places and
-- pending insertions. The pieces lead from one end of the partition's range `keys` to the other (`AreJoined`)
pub record IsLayout (keys : Range) (layout : Layout) : Type 0 where
  pub sizes : sum_by (λ (p : PieceSize). p.size) layout.pieces ≡ layout.column
  pub cells : layout.column + layout.pending_in + layout.free ≡ layout.cells
  pub rows : layout.rows + layout.pending_out ≡ layout.column + layout.pending_in
  pub joined : AreJoined keys.low keys.high layout.pieces
