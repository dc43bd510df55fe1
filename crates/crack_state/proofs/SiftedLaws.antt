-- If no carry ends with a row in hand, sifting has the same effect on a store as all carries of a range.
use Rattle.std.proofs.Common.{◌≡◌, ℕ, ◌+◌, ◌≤◌, false, min, List, [], ◌∷◌, map, length, Option, refl, sym, ap, ◌∙◌, inl, inr, arith}
use Rattle.std.specs.List.{All, sum_by}
use Rattle.std.proofs.Math.Nat.{min-eq_left, min-eq_right}
use Rattle.std.proofs.lemmas.Bool.{cases_lt}
use Rattle.std.proofs.lemmas.List.{length-map, get_or_default}
use Rattle.std.proofs.lemmas.List.Elements.{All-head, All-tail, All-filter}
use Rattle.std.proofs.lemmas.List.Sums.{sum_by-cons}
use Rattle.crack_row.specs.Ranges.{Range, is_in}
use Rattle.crack_arena.specs.Arena.{Handle, no_handle}
use Rattle.crack_arena.specs.Rows.{key_at}
use Rattle.crack_state.specs.State.{State, IsIntact, greatest}
use Rattle.crack_state.specs.Merge.{outside_of}
use Rattle.crack_state.specs.Pieces.{column_of, marks_of}
use Rattle.crack_state.specs.Queues.{CarryState, comes, turns, stopped, in_bulk, bulk_outcomes}
use Rattle.crack_state.proofs.Sifts.{sifted, all_made_way, count_below, OfMet, risen}
use Rattle.crack_state.specs.Carried.{pieces_of, is_over, is_doomed, ends_with, moved_by, ended_so, ended_by, inside_of, insertions_by, arrivals, carried_in_bulk}
use Rattle.crack_state.proofs.Carried.{carried_by_sifting}
use Rattle.crack_state.proofs.CutLaws.{IsCut-intact}
use Rattle.crack_state.proofs.LeadLaws.{pending-lasts}
use Rattle.crack_state.proofs.SiftLaws.{moved_of, IsTurn, AreSifted-of, AreOf-coming, none-moved, marks_of-sifted, none_below}

-- a counter that is raised twice
pub min_and : (n j k : ℕ) → min (min (n + j) greatest + k) greatest ≡ min (n + (j + k)) greatest
min_and n j k = elim (cases_lt (n + j) greatest) [
  | inl l ↦
      let one : min (n + j) greatest ≡ n + j = min-eq_left (omega (arith, l)) in
      ap (λ m. min m greatest) (omega (arith, one))
  | inr l ↦
      let full : min (n + j) greatest ≡ greatest = min-eq_right l in
      min-eq_right (omega (arith, full)) ∙ sym (min-eq_right (omega (arith, l)))
]

-- if none ends with a row in hand, rows moved, and nothing else changed
ended_by-turns : (es : List (CarryState Handle)) (s : State) → All IsTurn es → s.tally.moved ≤ greatest → ended_by es s ≡ record s { tally = moved_by (sum_by moved_of es) s.tally }
ended_by-turns [] s all counted =
    let none : min (s.tally.moved + 0) greatest ≡ s.tally.moved = min-eq_left (omega (arith, counted)) ∙ omega arith in
    rw none refl
ended_by-turns (comes x ∷ es) s all counted = absurd (All-head IsTurn (comes x) es all)
ended_by-turns (turns moved ∷ es) s all counted =
    let rest = ended_by-turns es (ended_so (turns moved) s) (All-tail IsTurn (turns moved) es all) (omega arith) in
    let both : min (min (s.tally.moved + moved) greatest + sum_by moved_of es) greatest ≡ min (s.tally.moved + sum_by moved_of (turns moved ∷ es)) greatest =
    min_and s.tally.moved moved (sum_by moved_of es) ∙ ap (λ n. min (s.tally.moved + n) greatest) (sym (sum_by-cons moved_of (turns moved) es)) in
    rest ∙ rw both refl
ended_by-turns (stopped moved y ∷ es) s all counted = absurd (All-head IsTurn (stopped moved y) es all)

-- no carry of a range ends with a row in hand: none that is met is doomed or at or above the ceiling, and no row that comes in is at or above it
pub record GoThrough (ceiling : Option ℕ) (r : Range) (s : State) : Type 0 where
  pub met : OfMet (key_at s.cells) (λ h. ends_with ceiling s h ≡ false) 0 (inside_of s.cells r s.pending_in) (pieces_of s)
  pub under : All (λ h. is_over ceiling (key_at s.cells h) ≡ false) (inside_of s.cells r s.pending_in)

pub carried-sifting : (ceiling : Option ℕ) (r : Range) (s : State) → IsIntact s [] → GoThrough ceiling r s → carried_in_bulk ceiling r s ≡ carried_by_sifting r s
carried-sifting ceiling r s intact go =
    let key = key_at s.cells in
    let stops = ends_with ceiling s in
    let rows = inside_of s.cells r s.pending_in in
    let cut = IsCut-intact s [] intact in
    let lasts : All (λ h. is_doomed s h ≡ false) s.pending_in = λ k d within. rw (get_or_default s.pending_in k d no_handle within) (pending-lasts s k within intact) in
    let lasts_in : All (λ h. is_doomed s h ≡ false) rows = All-filter (λ h. is_in r (key h)) (λ h. is_doomed s h ≡ false) s.pending_in lasts in
    let coming : All (λ h. stops h ≡ false) rows = λ k d within. rw (lasts_in k d within, go.under k d within) refl in
    let all = AreSifted-of key stops 0 rows (arrivals r s) (pieces_of s) cut.divided (AreOf-coming key stops rows) coming go.met in
    let many : length (arrivals r s) ≡ length rows = length-map rows comes in
    let moved : sum_by moved_of (bulk_outcomes key stops (arrivals r s) (pieces_of s)) ≡ all_made_way key 0 rows (pieces_of s) = omega (arith, all.total_is, none-moved key stops rows) in
    let marks : marks_of 0 (sifted key 0 rows (pieces_of s)) ≡ map (risen key rows) s.marks =
    let first : 0 + count_below key 0 rows ≡ 0 = omega (arith, none_below key stops rows) in
    (rw first at (marks_of-sifted key stops 0 0 rows (pieces_of s) cut.divided)) ∙ ap (map (risen key rows)) (sym cut.marks) in
    let pieces = in_bulk key stops (arrivals r s) (pieces_of s) in
    let before : State = record s {
      column = column_of pieces;
      marks = marks_of 0 pieces;
      pending_in = outside_of s.cells r s.pending_in;
      tally = insertions_by (length (arrivals r s)) s.tally;
    } in
    ended_by-turns (bulk_outcomes key stops (arrivals r s) (pieces_of s)) before all.turn intact.counted.moved ∙ rw (moved, many, all.pieces_are, marks) refl
