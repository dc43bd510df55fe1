-- All carries of a range have the result of rows that turn the pieces from after the column's last row, and then of burying those with which they
-- end.
use Rattle.std.proofs.Common.{◌≡◌, ℕ, ◌==◌, ◌+◌, ◌≤◌, Bool, true, false, cond, List, [], ◌∷◌, ◌++◌, length, get_or, None, refl, sym, ap, ◌∙◌, inl, inr, arith}
use Rattle.std.specs.List.{All, filter, sum_by}
use Rattle.std.proofs.lemmas.Bool.{cases_Bool, ltb-true, true≢false}
use Rattle.std.proofs.lemmas.List.{length-map, get_or_default}
use Rattle.std.proofs.lemmas.List.Elements.{All-nil, All-cons, All-filter}
use Rattle.crack_row.specs.Ranges.{Range, is_in}
use Rattle.crack_arena.specs.Arena.{Handle, no_handle, times, slots}
use Rattle.crack_arena.specs.Rows.{key_at}
use Rattle.crack_arena.proofs.Times.{times-map, times-nil, times-cons, times-append}
use Rattle.crack_state.specs.State.{State, Reads, IsIntact}
use Rattle.crack_state.specs.Merge.{outside_of}
use Rattle.crack_state.proofs.OwnedLaws.{times-places, once-most}
use Rattle.crack_state.specs.Pieces.{column_of, marks_of}
use Rattle.crack_state.specs.Queues.{comes, any_row, in_bulk, bulk_outcomes}
use Rattle.crack_state.specs.Carried.{pieces_of, is_doomed, ends_with, moved_by, inside_of, insertions_by, arrivals, carried_in_bulk}
use Rattle.crack_state.specs.Pulled.{buried_all}
use Rattle.crack_state.specs.Sweeps.{Swept, goes_on}
use Rattle.crack_state.proofs.SweptUp.{swept_up, swept_marks}
use Rattle.crack_state.proofs.CutLaws.{IsCut-intact}
use Rattle.crack_state.proofs.EndLaws.{ended_by-buried, AreApart, AreBuried-apart}
use Rattle.crack_state.proofs.FallLaws.{AreBuried}
use Rattle.crack_state.proofs.LeadLaws.{pending-lasts}
use Rattle.crack_state.proofs.SweepLaws.{AllSwept-coming, weigh_up, All-swept_up}

module _ (r : Range) (s : State) (intact : IsIntact s []) where
  abbrev key : Handle → ℕ
  key = key_at s.cells

  abbrev stops : Handle → Bool
  stops = ends_with None s

  -- the rows that come in
  abbrev pub rows_in : List Handle
  rows_in = inside_of s.cells r s.pending_in

  -- the pieces after them
  abbrev pub sweep : Swept Handle
  sweep = swept_up key stops 0 rows_in (pieces_of s)

  -- the store before the rows with which carries end are buried
  abbrev pub unburied : State
  unburied = record s {
    column = sweep.piece ++ filter (goes_on stops (any_row key stops)) sweep.tail;
    marks = swept_marks key stops 0 0 rows_in (pieces_of s);
    pending_in = outside_of s.cells r s.pending_in;
    tally = moved_by sweep.made (insertions_by (length rows_in) s.tally);
  }

  doomed-stops : (h : Handle) → stops h ≡ true → is_doomed s h ≡ true
  doomed-stops h stop = elim (cases_Bool (is_doomed s h)) [
    | inl is ↦ is
    | inr isnt ↦ absurd (true≢false (sym stop ∙ rw isnt refl))
  ]

  times-sum : (n : ℕ) (hs : List Handle) → times n (slots hs) ≡ sum_by (λ (h : Handle). cond {A = ℕ} (h.slot == n) 1 0) hs
  times-sum n hs = times-map n (λ (h : Handle). h.slot) hs

  filter-fewer : (n : ℕ) (p : Handle → Bool) (hs : List Handle) → times n (slots (filter p hs)) ≤ times n (slots hs)
  filter-fewer n p [] = omega arith
  filter-fewer n p (h ∷ hs) =
      let all = times-cons n h.slot (slots hs) in
      elim (cases_Bool (p h)) [
        | inl is ↦ rw is (omega (arith, all, times-cons n h.slot (slots (filter p hs)), filter-fewer n p hs))
        | inr isnt ↦ rw isnt (omega (arith, all, filter-fewer n p hs))
      ]

  All-passing : (p : Handle → Bool) (hs : List Handle) → All (λ h. p h ≡ true) (filter p hs)
  All-passing p [] = All-nil (λ h. p h ≡ true)
  All-passing p (h ∷ hs) = elim (cases_Bool (p h)) [
    | inl is ↦ rw is (All-cons (λ g. p g ≡ true) h (filter p hs) is (All-passing p hs))
    | inr isnt ↦ rw isnt (All-passing p hs)
  ]

  pub hands-apart : AreApart (filter stops sweep.tail) s.cells s.pending_out
  hands-apart =
      let owned = intact.owned in
      let cuts = IsCut-intact s [] intact in
      let coming : All (Reads s.cells) rows_in = All-filter (λ h. is_in r (key h)) (Reads s.cells) s.pending_in owned.pending_reads in
      let standing : All (Reads s.cells) (column_of (pieces_of s)) = rw (← cuts.column) owned.column_reads in
      let reads = (All-swept_up key stops (Reads s.cells) 0 rows_in (pieces_of s) coming standing).1 in
      let most : (n : ℕ) → times n (slots s.column) + times n (slots rows_in) ≤ 1 = λ n. omega (arith, filter-fewer n (λ h. is_in r (key h)) s.pending_in, times-places n s.column s.pending_in s.free [], once-most s.cells s.free s.column s.pending_in s.pending_out [] n owned) in
      let tail_most : (n : ℕ) → times n (slots sweep.tail) ≤ 1 = λ n. omega (arith, weigh_up key stops (λ (h : Handle). cond {A = ℕ} (h.slot == n) 1 0) 0 rows_in (pieces_of s), times-sum n sweep.tail, times-sum n rows_in, times-sum n s.column, ap (λ hs. times n (slots hs)) cuts.column, times-sum n (column_of (pieces_of s)), most n) in
      let passing = All-passing stops sweep.tail in
      record {
        reads = All-filter stops (Reads s.cells) sweep.tail reads;
        once = λ n. omega (arith, filter-fewer n stops sweep.tail, tail_most n);
        doomed = λ k d l. ltb-true 0 (times (get_or (filter stops sweep.tail) k d).slot (slots s.pending_out)) (doomed-stops (get_or (filter stops sweep.tail) k d) (passing k d l));
        doomed_reads = owned.doomed_reads;
        doomed_once = λ n. omega (arith, owned.doomed_once n, times-append n (slots s.column) [], times-nil n, most n);
        few = intact.few_freed;
      }

  -- all carries of the range
  pub carried-sweeping : carried_in_bulk None r s ≡ buried_all (filter stops sweep.tail) unburied
  carried-sweeping =
      let cuts = IsCut-intact s [] intact in
      let lasts : All (λ h. is_doomed s h ≡ false) s.pending_in = λ k d within. rw (get_or_default s.pending_in k d no_handle within) (pending-lasts s k within intact) in
      let lasts_in : All (λ h. is_doomed s h ≡ false) rows_in = All-filter (λ h. is_in r (key h)) (λ h. is_doomed s h ≡ false) s.pending_in lasts in
      let coming : All (λ h. stops h ≡ false) rows_in = λ k d within. rw (lasts_in k d within) refl in
      let all = AllSwept-coming key stops rows_in (pieces_of s) cuts.divided coming in
      let many : length (arrivals r s) ≡ length rows_in = length-map rows_in comes in
      let pieces = in_bulk key stops (arrivals r s) (pieces_of s) in
      let before : State = record s {
        column = column_of pieces;
        marks = marks_of 0 pieces;
        pending_in = outside_of s.cells r s.pending_in;
        tally = insertions_by (length (arrivals r s)) s.tally;
      } in
      let apart : AreBuried (filter stops sweep.tail) s.cells s.pending_out = AreBuried-apart (filter stops sweep.tail) s.cells s.pending_out hands-apart in
      let ended = ended_by-buried (bulk_outcomes key stops (arrivals r s) (pieces_of s)) before all.come (rw all.hands apart) intact.counted.moved in
      ended ∙ rw (all.hands, all.made, many, all.column_is, all.marks_are) refl
