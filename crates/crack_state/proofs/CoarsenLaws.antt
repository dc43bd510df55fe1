-- A store that has forgotten bounds.
use Rattle.std.proofs.Common.{◌<◌, List, map, refl, sym, subst}
use Rattle.crack_arena.specs.Arena.{Handle}
use Rattle.crack_arena.specs.Rows.{key_at}
use Rattle.crack_column.specs.Column.{IsDividedAt}
use Rattle.crack_index.specs.declared.mark.Mark.{Mark}
use Rattle.crack_index.specs.Marks.{SomeMarks}
use Rattle.crack_index.proofs.RemoveLaws.{SomeMarks-all, SomeMarks-All, SomeMarks-Rising}
use Rattle.crack_state.specs.State.{State, IsIntact}
use Rattle.crack_state.specs.Merge.{Coarsens}

pub Coarsens-same : (s : State) → Coarsens s s
Coarsens-same s = record { same = refl; some = SomeMarks-all s.marks }

-- fewer bounds are obeyed as well
IsIntact-some : (s : State) (ms : List Mark) (hand : List Handle) → SomeMarks ms s.marks → IsIntact s hand → IsIntact (record s { marks = ms }) hand
IsIntact-some s ms hand some intact = record {
  owned = intact.owned;
  obeyed = SomeMarks-All (λ (m : Mark). IsDividedAt m.bound.0 (map (key_at s.cells) s.column) m.position) ms s.marks some intact.obeyed;
  rising = SomeMarks-Rising ms s.marks some intact.rising;
  inside = SomeMarks-All (λ (m : Mark). (s.keys.low < m.bound.0) × (m.bound.0 < s.keys.high)) ms s.marks some intact.inside;
  keyed = intact.keyed;
  empty = intact.empty;
  within = intact.within;
  few_cells = intact.few_cells;
  few_freed = intact.few_freed;
  counted = intact.counted;
}

pub IsIntact-coarse : (s u : State) (hand : List Handle) → Coarsens s u → IsIntact s hand → IsIntact u hand
IsIntact-coarse s u hand coarse intact = subst (λ (x : State). IsIntact x hand) (sym coarse.same) (IsIntact-some s u.marks hand coarse.some intact)
