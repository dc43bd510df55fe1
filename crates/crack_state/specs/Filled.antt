-- A store whose column is in pieces, after pulls with fillers: pending insertions with keys from a bound, `edge`, up
-- to the next one. A pull removes a doomed row: the last row of its piece takes its place, the last row of each higher
-- piece below `edge` moves to the place right before that piece, and the filler takes the place that is left.
use Rattle.std.specs.Prelude.{◌≡◌, ℕ, zero, suc, ◌+◌, ◌-◌, ◌≤◌, cond, min, List, [], ◌∷◌, ◌++◌, length, take, drop, reverse}
use Rattle.std.specs.List.{All}
use Rattle.crack_row.specs.Ranges.{Range, is_in}
use Rattle.crack_row.specs.declared.Row.{Row}
use Rattle.crack_arena.specs.Arena.{Cell, Handle}
use Rattle.crack_arena.specs.Rows.{key_at}
use Rattle.crack_index.specs.declared.mark.Mark.{Mark}
use Rattle.crack_state.specs.State.{State}
use Rattle.crack_state.specs.Pieces.{Pieces, column_of, marks_of, cut}
use Rattle.crack_state.specs.Carried.{inside_of, insertions_by}
use Rattle.crack_state.specs.Pulled.{pulled, all_drawn, itself, pulled_by, buried_all}

-- the handles without the first `n`, or without all if they are fewer, of those whose key is in the range
abbrev pub lacking : List (Cell Row) → Range → ℕ → List Handle → List Handle
lacking cells r zero hs = hs
lacking cells r (suc n) [] = []
lacking cells r (suc n) (h ∷ hs) = cond (is_in r (key_at cells h)) (lacking cells r n hs) (h ∷ lacking cells r (suc n) hs)

-- the pieces of the column before the place of the given mark; the list has the lower marks, which divide them
abbrev pub pieces_under : State → List Mark → Mark → Pieces Handle
pieces_under s low edge = cut 0 low (take edge.position s.column)

-- the store after pulls of doomed rows, each with a filler. The arguments are, in order: the marks below the mark
-- `edge`, `edge`, the marks above it, the doomed rows, as many fillers, the pending insertions without the fillers,
-- and the store before. Each piece below `edge` is as the pulls leave it. Then come the fillers, the last one first,
-- and then the rows that were at the place of `edge` or after it. The doomed rows are buried in their order
abbrev pub filled_from : List Mark → Mark → List Mark → List Handle → List Handle → List Handle → State → State
filled_from low edge high ds fs left s =
    let pieces = pulled (key_at s.cells) itself 0 ds (pieces_under s low edge) in
    let count = all_drawn (key_at s.cells) itself 0 ds (pieces_under s low edge) + length fs in
    buried_all ds (record s {
      column = column_of pieces ++ (reverse fs ++ drop edge.position s.column);
      marks = marks_of 0 pieces ++ record edge { position = edge.position - length ds } ∷ high;
      pending_in = left;
      tally = insertions_by (length fs) (pulled_by count s.tally);
    })

-- `t` is `s` after pulls in bulk of pending deletions with keys in the range `r`, each with a filler, a pending
-- insertion with its key in the range `fillers`. Both were taken in order of arrival, until one kind was used up.
-- `fillers` begins at a bound, and no other bound is among its keys
pub record IsFilled (r fillers : Range) (s t : State) : Type 0 where
  pub low : List Mark
  pub edge : Mark
  pub high : List Mark
  pub marks_are : s.marks ≡ low ++ edge ∷ high
  pub edge_is : edge.bound.0 ≡ fillers.low
  pub beyond : All (λ m. fillers.high ≤ m.bound.0) high
  pub count : ℕ
  pub count_is : count ≡ min (length (inside_of s.cells r s.pending_out)) (length (inside_of s.cells fillers s.pending_in))
  pub after : t ≡ filled_from low edge high (take count (inside_of s.cells r s.pending_out)) (take count (inside_of s.cells fillers s.pending_in)) (lacking s.cells fillers count s.pending_in) s
