-- Where serials lead once a row is removed; and a serial above those of all live rows isn't in the map.
use Rattle.std.proofs.Common.{◌≡◌, ◌≢◌, ℕ, ◌<◌, eqb, List, [], ◌∷◌, filter, length, Option, Some, None, refl, sym, ap, ◌∙◌, inl, inr, arith, zero-add}
use Rattle.std.specs.Prelude.{unwrap_or, not}
use Rattle.std.proofs.lemmas.Bool.{cases_eq, ne_eqb, eq-eqb}
use Rattle.std.specs.List.{All, Contains, range_with_len}
use Rattle.std.proofs.lemmas.List.Elements.{All-contains}
use Rattle.std.proofs.lemmas.List.FromFn.{length-range_with_len, get_or-range_with_len}
use Rattle.crack_row.proofs.Lists.{Contains-filter_map}
use Rattle.crack_row.specs.declared.Row.{Row}
use Rattle.crack_arena.specs.Arena.{Cell, Handle, times, read, slots}
use Rattle.crack_state.specs.State.{State, IsIntact, IsKeyed, live_at, live_rows}
use Rattle.crack_state.proofs.Words.{IsLiveAt, is_live}
use Rattle.crack_serials.specs.Serials.{handle_of, Maps}
use Rattle.crack_state.proofs.PieceLaws.{cases_Option}
use Rattle.crack_state.proofs.LiveLaws.{none_either, Hides}
use Rattle.crack_state.proofs.CellLaws.{read-off, reads_some, one_handle, read-value, cell_within}

-- a row that a handle reads is live, unless it is doomed
pub Contains-live : (s : State) (h : Handle) (r : Row) → read s.cells h ≡ Some r → times h.slot (slots s.pending_out) ≡ 0 → Contains (live_rows s) r
Contains-live s h r reads kept =
    let within = cell_within s.cells h r reads in
    let numbers = range_with_len 0 (length s.cells) in
    Contains-filter_map (live_at s.cells (slots s.pending_out)) numbers h.slot h.slot r (omega (arith, within, length-range_with_len 0 (length s.cells))) (get_or-range_with_len 0 (length s.cells) h.slot h.slot within ∙ zero-add h.slot) (rw kept (read-value s.cells h r reads))

-- a serial above those of all live rows isn't in the map
pub handle_of-fresh : (s : State) (hand : List Handle) (serial : ℕ) → IsIntact s hand → All (λ (r : Row). r.serial.0 < serial) (live_rows s) → handle_of s.serials serial ≡ None
handle_of-fresh s hand serial intact below = cases_Option (λ (o : Option Handle). o ≡ None) (handle_of s.serials serial) (λ none. refl) (λ h is.
    let live : IsLiveAt s.cells (slots s.pending_out) serial h = is_live s.cells (slots s.pending_out) serial h (intact.keyed.leads serial h is) in
    let less : live.row.serial.0 < serial = All-contains (λ (r : Row). r.serial.0 < serial) (live_rows s) live.row below (Contains-live s h live.row live.reads live.kept) in
    absurd (omega (arith, live.same)))

-- another serial leads to another cell
apart_handle : (cells : List (Cell Row)) (doomed : List ℕ) (serials : List (ℕ × Handle)) (serial n : ℕ) (h g : Handle) → serial ≢ n → handle_of serials serial ≡ Some h → handle_of serials n ≡ Some g → IsKeyed cells doomed serials → g.slot ≢ h.slot
apart_handle cells doomed serials serial n h g ne found other keyed = λ e.
    let mine : IsLiveAt cells doomed serial h = is_live cells doomed serial h (keyed.leads serial h found) in
    let theirs : IsLiveAt cells doomed n g = is_live cells doomed n g (keyed.leads n g other) in
    let same : g ≡ h = one_handle cells g h (reads_some cells g theirs.row theirs.reads) (reads_some cells h mine.row mine.reads) e in
    let rows : Some theirs.row ≡ Some mine.row = sym theirs.reads ∙ ap (read cells) same ∙ mine.reads in
    let row : theirs.row ≡ mine.row = ap (λ (o : Option Row). unwrap_or o mine.row) rows in
    ne (sym mine.same ∙ ap (λ (r : Row). r.serial.0) (sym row) ∙ theirs.same)

-- what the map has then for another serial, and for this one
pub maps_other : (serial n : ℕ) (o : Option Handle) (serials after : List (ℕ × Handle)) → Maps serial o serials after → serial ≢ n → handle_of after n ≡ handle_of serials n
maps_other serial n o serials after maps ne = maps n ∙ rw (ne_eqb serial n ne) refl

pub maps_this : (serial n : ℕ) (o : Option Handle) (serials after : List (ℕ × Handle)) → Maps serial o serials after → serial ≡ n → handle_of after n ≡ o
maps_this serial n o serials after maps e = maps n ∙ rw (eq-eqb serial n e) refl

-- after one change at a serial another at it
pub Maps-over : (serial : ℕ) (o p : Option Handle) (serials between after : List (ℕ × Handle)) → Maps serial o serials between → Maps serial p serials after → Maps serial p between after
Maps-over serial o p serials between after first second n = elim (cases_eq serial n) [
  | inl e ↦ rw (eq-eqb serial n e) (maps_this serial n p serials after second e)
  | inr ne ↦ rw (ne_eqb serial n ne) (maps_other serial n p serials after second ne ∙ sym (maps_other serial n o serials between first ne))
]

-- a row is removed: its cell shows none, and no serial leads there
pub IsKeyed-less : (cells after : List (Cell Row)) (doomed left : List ℕ) (serials later : List (ℕ × Handle)) (slot : ℕ) → Hides cells after doomed left slot → ((n : ℕ) (g : Handle) → handle_of later n ≡ Some g → (g.slot ≢ slot) × (handle_of serials n ≡ Some g)) → ((n : ℕ) (g : Handle) → g.slot ≢ slot → handle_of serials n ≡ Some g → handle_of later n ≡ Some g) → IsKeyed cells doomed serials → IsKeyed after left later
IsKeyed-less cells after doomed left serials later slot hides fewer others keyed = record {
  leads = λ n g found.
      let was = fewer n g found in
      let live : IsLiveAt cells doomed n g = is_live cells doomed n g (keyed.leads n g was.1) in
      (live.row, read-off slot cells after g hides.others was.0 ∙ live.reads, live.same, hides.kept g.slot was.0 ∙ live.kept);
  lists = λ g r reads kept. elim (cases_eq g.slot slot) [
    | inl e ↦ absurd (let shown : live_at after left g.slot ≡ Some r = rw kept (read-value after g r reads) in let none : live_at after left g.slot ≡ None = rw e hides.none in cc)
    | inr ne ↦ others r.serial.0 g ne (keyed.lists g r (sym (read-off slot cells after g hides.others ne) ∙ reads) (sym (hides.kept g.slot ne) ∙ kept))
  ];
}

-- and its serial leaves the map
pub IsKeyed-lost : (cells after : List (Cell Row)) (doomed left : List ℕ) (serials later : List (ℕ × Handle)) (serial : ℕ) (h : Handle) → Hides cells after doomed left h.slot → handle_of serials serial ≡ Some h → Maps serial None serials later → IsKeyed cells doomed serials → IsKeyed after left later
IsKeyed-lost cells after doomed left serials later serial h hides found maps keyed =
    IsKeyed-less cells after doomed left serials later h.slot hides
    (λ n g is. elim (cases_eq serial n) [
      | inl e ↦ let none = maps_this serial n None serials later maps e in absurd (cc)
      | inr ne ↦ let old = sym (maps_other serial n None serials later maps ne) ∙ is in (apart_handle cells doomed serials serial n h g ne found old keyed, old)
    ])
    (λ n g ne old. elim (cases_eq serial n) [
      | inl e ↦ absurd (ne (ap (λ (o : Option Handle). (unwrap_or o h).slot) (sym old ∙ ap (handle_of serials) (sym e) ∙ found)))
      | inr other ↦ maps_other serial n None serials later maps other ∙ old
    ])
    keyed

-- the map without a serial
abbrev pub forgotten : ℕ → List (ℕ × Handle) → List (ℕ × Handle)
forgotten serial serials = filter (λ (e : ℕ × Handle). not (eqb serial e.0)) serials

pub Maps-forgotten : (serial : ℕ) (serials : List (ℕ × Handle)) → Maps serial None serials (forgotten serial serials)
Maps-forgotten serial [] n = sym (none_either (eqb serial n))
Maps-forgotten serial (e ∷ es) n =
    let rest = Maps-forgotten serial es n in
    elim (cases_eq serial e.0) [
      | inl same ↦ elim (cases_eq n e.0) [
        | inl here ↦ rw (eq-eqb serial e.0 same) (rest ∙ rw (eq-eqb serial n (same ∙ sym here)) refl)
        | inr away ↦ rw (eq-eqb serial e.0 same, ne_eqb n e.0 away) rest
      ]
      | inr other ↦ elim (cases_eq n e.0) [
        | inl here ↦ rw (ne_eqb serial e.0 other, eq-eqb n e.0 here, ne_eqb serial n (λ same. other (same ∙ here))) refl
        | inr away ↦ rw (ne_eqb serial e.0 other, ne_eqb n e.0 away) rest
      ]
    ]
