-- What calls on the inside imply for a step that returns a row or takes one out.
use Rattle.std.proofs.Common.{◌≡◌, ℕ, ◌<◌, true, List, [], ◌∷◌, length, get_or, Option, Some, None, sym, ap, subst, ◌∙◌, arith}
use Rattle.std.specs.Prelude.{MatchOption, IsSome, is_some}
use Rattle.std.proofs.lemmas.Bool.{true≢false}
use Rattle.std.specs.List.{remove}
use Rattle.std.proofs.lemmas.List.{get_or_default}
use Rattle.std.proofs.lemmas.List.Edits.{get_or-remove_below, length-remove}
use Rattle.std.proofs.lemmas.Bool.Decides.{nat_tests}
use Rattle.crack_row.specs.declared.Row.{Row}
use Rattle.crack_arena.specs.Arena.{Handle, same_handle, StandsAt, IsFirstAt, IsAbsent, no_handle}
use Rattle.crack_arena.proofs.Times.{times-nil, times_head, times_map_at}
use Rattle.crack_column.specs.Column.{Column, first_aside, exchanged_aside}
use Rattle.crack_arena.proofs.Remembering.{Remembers-set}
use Rattle.crack_index.specs.Marks.{Index}
use Rattle.crack_state.specs.declared.MergeReport.{MergeReport}
use Rattle.crack_state.specs.State.{State, Carried, IsIntact}
use Rattle.crack_state.specs.Steps.{hand_key, put_at}
use Rattle.crack_state.proofs.OwnedLaws.{times-places, times-taken, once-most, apart_from_times, hand_apart}
use Rattle.crack_store.specs.declared.inside.Inside.{Inside}
use Rattle.crack_store.specs.declared.notes.Notes.{Notes}
use Rattle.crack_store.specs.declared.carrying.Near.{Near}
use Rattle.crack_store.specs.Hand.{hand_of, carried_of}
use Rattle.crack_store.specs.Keeps.{IsNear, HasHand, KeepsHand}
use Rattle.crack_store.proofs.RememberLemmas.{KeepsIntact-column}

-- a step makes this store with a cell in hand, and its invariant holds
pub record IsMade (p : Inside) (near : Near) (d : Carried) : Type 0 where
  pub is : carried_of p ≡ d
  pub keeps : KeepsHand p near

-- the hand is exchanged with a row of the column
pub exchanged_to : (p : Inside) (column : Column) (index : Index) (notes : Notes) (tally : MergeReport) (place : ℕ) (near : Near) (d : Carried) → HasHand p → column ≡ exchanged_aside place p.column → place < length p.column.handles → put_at place index.marks tally (carried_of p) ≡ d → IsIntact d.store (d.hand ∷ []) → IsNear d.store.marks (hand_key d) near → IsMade (record p { column = column; index = index; notes = notes; tally = tally }) near d
exchanged_to p column index notes tally place near d has column_is within put intact is_near =
    let q = record p { column = column; index = index; notes = notes; tally = tally } in
    let is : carried_of q ≡ d = rw (column_is, get_or_default p.column.handles place no_handle (hand_of p) within) put in
    record {
      is = is;
      keeps = record {
        has = record {
          kept = KeepsIntact-column p column index notes tally (hand_of p ∷ []) (hand_of q ∷ []) has.kept (rw (← is) at intact) (rw column_is (Remembers-set p.arena.cells p.column.handles p.column.remembered place (hand_of p) (first_aside p.column).memory has.agrees has.kept.remembers));
          aside = rw column_is (omega arith);
          agrees = rw column_is (has.kept.remembers.right place no_handle within);
          room = rw column_is has.room;
        };
        is_near = rw (← is) at is_near;
      };
    }

-- the store with a cell in hand, as a caller sees it, is intact
pub intact_hand : (p : Inside) (near : Near) (c : Carried) → carried_of p ≡ c → KeepsHand p near → IsIntact c.store (c.hand ∷ [])
intact_hand p near c is keeps = subst (λ (d : Carried). IsIntact d.store (d.hand ∷ [])) is keeps.has.kept.intact

-- handles that compare as equal are equal
pub same_handles : (h k : Handle) → same_handle h k ≡ true → h ≡ k
same_handles h k e =
    let slots_agree : h.slot ≡ k.slot = grind (arith, nat_tests) in
    let generations_agree : h.generation ≡ k.generation = grind (arith, nat_tests) in
    let built : ℕ → ℕ → Handle = λ slot generation. record { slot = slot; generation = generation } in
    ap (λ n. built n h.generation) slots_agree ∙ ap (λ n. built k.slot n) generations_agree

-- a handle that is at a place of the column is at none before it
pub once_first : (s : State) (hand : List Handle) (h : Handle) (place : ℕ) → IsIntact s hand → StandsAt s.column place h → IsFirstAt s.column h place
once_first s hand h place intact stands = record {
  here = stands;
  before = λ k less at.
      let hs = s.column in
      let still : (get_or (remove hs place) k h).slot ≡ h.slot = rw (get_or-remove_below hs place h k less stands.within) (ap (λ (x : Handle). x.slot) (sym at.is)) in
      let again = times_map_at h.slot (λ (x : Handle). x.slot) (remove hs place) k h (omega (arith, less, stands.within, length-remove hs place stands.within)) still in
      let once = once-most s.cells s.free hs s.pending_in s.pending_out hand h.slot intact.owned in
      absurd (omega (arith, again, once, times-places h.slot hs s.pending_in s.free hand, times-taken h.slot hs place h stands.within stands.is, times_head h.slot [], times-nil h.slot));
}

-- the cell in hand isn't in the column
pub hand_absent : (c : Carried) (h : Handle) → IsIntact c.store (c.hand ∷ []) → c.hand.slot ≡ h.slot → IsAbsent c.store.column h
hand_absent c h intact same =
    let s = c.store in
    λ place at. apart_from_times s.column h.slot (rw same at (hand_apart s.cells s.free s.column s.pending_in s.pending_out c.hand intact.owned).off_column) place h at.within (ap (λ (x : Handle). x.slot) (sym at.is))

-- a property that holds if a value was taken holds if there was one
pub when_some : (o value : Option Row) (P Q : Type 0) → o ≡ value → IsSome value → MatchOption o P (λ _. Q) → Q
when_some None value P Q is some h = absurd (true≢false (sym (ap is_some is ∙ some)))
when_some (Some r) value P Q is some h = h
