-- Where the ends of a range are in a column that was cracked by it.
use Rattle.std.proofs.Common.{ℕ, ◌<◌, ◌≤◌, ◌^◌, ◌-◌, List, length, inl, inr, arith}
use Rattle.std.specs.List.{All}
use Rattle.std.proofs.lemmas.Bool.{cases_lt, lt-leb, le-leb}
use Rattle.std.proofs.lemmas.List.{length-map}
use Rattle.crack_arena.specs.Arena.{Handle}
use Rattle.crack_index.specs.declared.mark.Mark.{Mark}
use Rattle.crack_column.proofs.Divisions.{IsDividedAt-order}
use Rattle.crack_arena.specs.Rows.{key_at}
use Rattle.crack_state.specs.State.{State, IsIntact}
use Rattle.crack_state.proofs.Words.{column_keys}
use Rattle.crack_state.specs.Merge.{Stands, edge}
use Rattle.crack_state.proofs.SettledLaws.{edge-divides}
use Rattle.crack_state.proofs.LayoutLaws.{cells-intact}

-- every bound is at a place of the column, or at its end
pub positions_within : (s : State) (hand : List Handle) → IsIntact s hand → All (λ (m : Mark). m.position ≤ length s.column) s.marks
positions_within s hand intact = λ k d h. omega (arith, (intact.obeyed k d h).within, length-map s.column (key_at s.cells))

pub positions_small : (s : State) (hand : List Handle) → IsIntact s hand → All (λ (m : Mark). m.position < 2 ^ 64 - 1) s.marks
positions_small s hand intact = λ k d h. omega (arith, positions_within s hand intact k d h, cells-intact s hand intact, intact.few_cells)

pub edge_within : (s : State) (hand : List Handle) (bound : ℕ) → IsIntact s hand → Stands s bound → edge s bound ≤ length s.column
edge_within s hand bound intact stands =
    elim (cases_lt s.keys.low bound) [
      | inr l ↦ rw (le-leb bound s.keys.low l) (omega arith)
      | inl l ↦ elim (cases_lt bound s.keys.high) [
        | inr h ↦ rw (lt-leb bound s.keys.low l, le-leb s.keys.high bound h) (omega arith)
        | inl h ↦ rw (length-map s.column (key_at s.cells)) at (edge-divides s hand bound intact (omega arith) (omega arith) stands).within
      ]
    ]

-- the lower end is at or before the higher
pub edge_order : (s : State) (hand : List Handle) (low high : ℕ) → IsIntact s hand → low ≤ high → Stands s low → Stands s high → edge s low ≤ edge s high
edge_order s hand low high intact order low_stands high_stands =
    elim (cases_lt s.keys.low low) [
      | inr l ↦ rw (le-leb low s.keys.low l) (omega arith)
      | inl l ↦ elim (cases_lt high s.keys.high) [
        | inr h ↦ rw (lt-leb high s.keys.low (omega arith), le-leb s.keys.high high h) (edge_within s hand low intact low_stands)
        | inl h ↦ IsDividedAt-order low high (column_keys s) (edge s low) (edge s high) order (edge-divides s hand low intact (omega arith) (omega arith) low_stands) (edge-divides s hand high intact (omega arith) (omega arith) high_stands)
      ]
    ]
