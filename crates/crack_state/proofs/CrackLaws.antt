-- A crack keeps a store intact and refines it; and one refinement after another is one.
use Rattle.std.proofs.Common.{◌≡◌, ◌⊎◌, ℕ, ◌<◌, ◌≤◌, List, [], ◌∷◌, ◌++◌, map, length, get_or, refl, sym, ap, ◌∙◌, subst, inl, inr, arith}
use Rattle.std.specs.List.{All, Contains, between}
use Rattle.std.specs.List.Sorted.{IsPermutation}
use Rattle.std.proofs.lemmas.Bool.{cases_lt}
use Rattle.std.proofs.lemmas.List.{length-map, get_or-map}
use Rattle.std.proofs.lemmas.List.Elements.{All-contains, All-cons, All-push, All-map, Contains-get_or, Contains-append_left, Contains-append_right}
use Rattle.std.proofs.lemmas.List.Sorted.{IsPermutation-refl, IsPermutation-trans, All-permutation}
use Rattle.crack_row.specs.Ranges.{Range, IsIn}
use Rattle.crack_row.specs.declared.InnerBound.{InnerBound}
use Rattle.crack_row.specs.declared.Row.{Row}
use Rattle.crack_arena.specs.Arena.{Cell, Handle, times, empty_cell, slots}
use Rattle.crack_arena.proofs.Times.{times-map-IsPermutation}
use Rattle.crack_index.specs.declared.mark.Mark.{Mark}
use Rattle.crack_index.specs.Marks.{Rising, with_mark, next_mark, last_mark, start_of, end_of, HasBound}
use Rattle.crack_index.proofs.MarkLaws.{next_mark-is, last_mark-is, Fits-piece, All-added, Contains-kept, HasBound-added, Rising-added, HasBound-mark, HasBound-contains}
use Rattle.crack_arena.specs.Rows.{key_at}
use Rattle.crack_arena.specs.Memories.{Memory}
use Rattle.crack_column.specs.Column.{IsDividedAt, Cracks}
use Rattle.crack_column.proofs.Divisions.{IsDividedAt-zero, IsDividedAt-end}
use Rattle.crack_column.proofs.Cracking.{length-Cracks, Cracks-apart, Cracks-around, Cracks-whole, Cracks-divides, Cracks-keeps}
use Rattle.crack_state.specs.State.{State, Reads, IsObeyed, IsIntact, live_rows}
use Rattle.crack_state.proofs.Words.{Divides, HaveKeysIn, column_keys}
use Rattle.crack_state.specs.Steps.{piece_start, piece_end}
use Rattle.crack_state.specs.Merge.{IsInner, IsCracked, cuts, RefinesBy, Refines}
use Rattle.crack_state.specs.Inside.{RefinesAt}
use Rattle.crack_state.proofs.StepLaws.{IsIntact-moved}
use Rattle.crack_state.proofs.CellLaws.{row_read, read-value, cell_within}
use Rattle.crack_state.proofs.PieceLaws.{cases_Option, Divides-listed, piece_end-le, piece_end-before, piece_start-behind}

-- two bounds are the ends of the range, in one order or the other
abbrev pub AreEnds : Range → ℕ → ℕ → Type 0
AreEnds r first second = ((first ≡ r.low) × (second ≡ r.high)) ⊎ ((first ≡ r.high) × (second ≡ r.low))

-- crack: a bound divides its own piece at a place; the column's handles are in this order
abbrev pub cracked_at : InnerBound → ℕ → List Handle → State → State
cracked_at bound place handles s = record s { column = handles; marks = with_mark (record { bound = bound; position = place }) s.marks }

-- how a bound's own piece is cracked: its rows, divided by the bound, and no others, whatever is remembered about them
pub record CracksAt (s u : State) (bound : InnerBound) : Type 0 where
  pub place : ℕ
  pub missing : HasBound s.marks bound.0 → ⊥
  pub low : s.keys.low < bound.0
  pub high : bound.0 < s.keys.high
  pub known : List Memory
  pub known' : List Memory
  pub cracks : Cracks s.cells bound.0 (piece_start s bound.0) (piece_end s bound.0) s.column known u.column known' place
  pub after : u ≡ cracked_at bound place u.column s

-- the key of what a handle reads is the partition's
pub key_within : (keys : Range) (cells : List (Cell Row)) (h : Handle) → HaveKeysIn keys cells → Reads cells h → IsIn keys (key_at cells h)
key_within keys cells h within reads =
    let row = row_read cells h reads in
    rw row.1 (rw (read-value cells h row.0 row.1) at (within h.slot empty_cell (cell_within cells h row.0 row.1)))

-- the keys of the column's rows are the partition's
pub column_keys-within : (s : State) (hand : List Handle) → IsIntact s hand → All (λ k. IsIn s.keys k) (column_keys s)
column_keys-within s hand intact = All-map (λ k. IsIn s.keys k) (key_at s.cells) s.column (λ k d h. key_within s.keys s.cells (get_or s.column k d) intact.within (intact.owned.column_reads k d h))

-- at the place, a number divides the keys if all the numbers in question are at or below it, or at or above it
abbrev DividesAt : List ℕ → ℕ → (ℕ → Type 0) → Type 0
DividesAt keys place Is = (number : ℕ) × Is number × IsDividedAt number keys place

piece_before : (s : State) (bound : ℕ) → Rising s.marks → IsObeyed s.marks (column_keys s) → DividesAt (column_keys s) (piece_start s bound) (λ n. n ≤ bound)
piece_before s bound rising obeyed = cases_Option (λ o. DividesAt (column_keys s) (start_of o) (λ n. n ≤ bound)) (last_mark bound s.marks) (λ none. (0, omega arith, IsDividedAt-zero (column_keys s))) (λ m found.
    let is_last = last_mark-is bound s.marks m rising found in
    (m.bound.0, is_last.below, Divides-listed (column_keys s) s.marks m obeyed is_last.listed))

piece_behind : (s : State) (hand : List Handle) (bound : ℕ) → bound < s.keys.high → IsIntact s hand → DividesAt (column_keys s) (piece_end s bound) (λ n. bound ≤ n)
piece_behind s hand bound high intact =
    let keys_end = IsDividedAt-end s.keys.high (column_keys s) (λ k d h. (column_keys-within s hand intact k d h).1) in
    cases_Option (λ o. DividesAt (column_keys s) (end_of (length s.column) o) (λ n. bound ≤ n)) (next_mark bound s.marks) (λ none. (s.keys.high, omega arith, rw (length-map s.column (key_at s.cells)) at keys_end)) (λ m found.
    let is_next = next_mark-is bound s.marks m intact.rising found in
    (m.bound.0, omega (arith, is_next.above), Divides-listed (column_keys s) s.marks m intact.obeyed is_next.listed))

module _ (s u : State) (hand : List Handle) (bound : InnerBound) (c : CracksAt s u bound) (intact : IsIntact s hand) where
  abbrev from : ℕ
  from = piece_start s bound.0

  abbrev to : ℕ
  to = piece_end s bound.0

  abbrev new_mark : Mark
  new_mark = record { bound = bound; position = c.place }

  -- outside the bound's own piece, or at an end of it
  abbrev Outside : ℕ → Type 0
  Outside p = (p ≤ from) ⊎ (to ≤ p)

  -- a mark of another bound is there
  mark_outside : All (λ (m : Mark). Outside m.position) s.marks
  mark_outside = λ k d h. elim (cases_lt bound.0 (get_or s.marks k d).bound.0) [
    | inl l ↦ inr (piece_end-before s bound.0 k d intact.rising intact.obeyed h l)
    | inr l ↦ inl (piece_start-behind s bound.0 k d intact.rising intact.obeyed h l)
  ]

  -- every mark divides the cracked column, including the new one
  Obeyed-cracked : IsObeyed (with_mark new_mark s.marks) (map (key_at s.cells) u.column)
  Obeyed-cracked =
      let low = piece_before s bound.0 intact.rising intact.obeyed in
      let high = piece_behind s hand bound.0 c.high intact in
      All-added (Divides (map (key_at s.cells) u.column)) new_mark s.marks
      (Cracks-divides s.cells bound.0 from to s.column c.known u.column c.known' c.place c.cracks low.0 high.0 low.1 high.1 low.2 high.2)
      (λ k d h. Cracks-keeps s.cells bound.0 from to s.column c.known u.column c.known' c.place c.cracks (get_or s.marks k d).bound.0 (get_or s.marks k d).position (mark_outside k d h) (intact.obeyed k d h))

  -- a crack keeps a store intact
  pub IsIntact-cracked : IsIntact u hand
  IsIntact-cracked =
      let owned = intact.owned in
      let whole = Cracks-whole s.cells bound.0 from to s.column c.known u.column c.known' c.place c.cracks in
      let counts : (n : ℕ) → times n (slots u.column) ≡ times n (slots s.column) = λ n. times-map-IsPermutation n (λ (h : Handle). h.slot) s.column u.column whole in
      rw c.after (IsIntact-moved s (cracked_at bound c.place u.column s) hand hand refl
      (λ n. omega (arith, counts n))
      (λ n few. omega (arith, few, counts n))
      (All-permutation (Reads s.cells) s.column u.column whole owned.column_reads)
      owned.pending_reads
      owned.hand_reads
      (record {
        obeyed = Obeyed-cracked;
        rising = Rising-added new_mark s.marks intact.rising c.missing (Fits-piece new_mark (length s.column) s.marks intact.rising c.cracks.low c.cracks.high);
        inside = All-added (λ (x : Mark). (s.keys.low < x.bound.0) × (x.bound.0 < s.keys.high)) new_mark s.marks (c.low, c.high) intact.inside;
      })
      intact.counted
      intact)

  -- where pieces begin and end is outside the bound's own piece, or at an end of it
  cuts_outside : All (λ p. Outside p × (p ≤ length s.column)) (cuts s)
  cuts_outside =
      let Out : ℕ → Type 0 = λ p. Outside p × (p ≤ length s.column) in
      let positions : All Out (map (λ (m : Mark). m.position) s.marks) = All-map Out (λ (m : Mark). m.position) s.marks (λ k d h. (mark_outside k d h, omega (arith, (intact.obeyed k d h).within, length-map s.column (key_at s.cells)))) in
      All-cons Out 0 (map (λ (m : Mark). m.position) s.marks ++ length s.column ∷ []) (inl (omega arith), omega arith) (All-push Out (map (λ (m : Mark). m.position) s.marks) (length s.column) positions (inr (piece_end-le s bound.0 intact.rising intact.obeyed), omega arith))

  -- a crack refines a store
  pub RefinesAt-cracked : RefinesAt s u bound.0
  RefinesAt-cracked =
      let marks : u.marks ≡ with_mark new_mark s.marks = ap (λ (x : State). x.marks) c.after in
      record {
        same = rw c.after refl;
        long = length-Cracks s.cells bound.0 from to s.column c.known u.column c.known' c.place c.cracks;
        pieces = λ p q is_p is_q.
            let out_p = All-contains (λ n. Outside n × (n ≤ length s.column)) (cuts s) p cuts_outside is_p in
            let out_q = All-contains (λ n. Outside n × (n ≤ length s.column)) (cuts s) q cuts_outside is_q in
            let apart : (q ≤ from) ⊎ (to ≤ p) → IsPermutation (between p q s.column) (between p q u.column) = λ o. rw (Cracks-apart s.cells bound.0 from to s.column c.known u.column c.known' c.place c.cracks p q out_q.1 o) (IsPermutation-refl (between p q s.column)) in
            elim out_q.0 [
              | inl l ↦ apart (inl l)
              | inr l ↦ elim out_p.0 [
                | inl k ↦ Cracks-around s.cells bound.0 from to s.column c.known u.column c.known' c.place c.cracks p q k l out_q.1
                | inr k ↦ apart (inr k)
              ]
            ];
        kept = λ n is. rw marks (Contains-kept new_mark s.marks n is);
        added = λ b is. rw marks ((HasBound-added new_mark s.marks b).1 (inl is.0));
        only = λ b has. elim ((HasBound-added new_mark s.marks b).0 (rw marks at has)) [
          | inl is ↦ inr (is, omega (arith, c.low), omega (arith, c.high))
          | inr there ↦ inl there
        ];
      }

-- the place of a mark is one where pieces begin and end
cut_of : (s : State) (m : Mark) → Contains s.marks m → Contains (cuts s) m.position
cut_of s m is =
    let position : Mark → ℕ = λ x. x.position in
    let at : Contains (map position s.marks) m.position = (is.0, omega (arith, length-map s.marks position, is.1), get_or-map position s.marks is.0 m m.position is.1 ∙ ap position is.2) in
    Contains-append_right (0 ∷ []) (map position s.marks ++ length s.column ∷ []) m.position (Contains-append_left (map position s.marks) (length s.column ∷ []) m.position at)

-- the places where pieces begin and end are such places after a refinement, too
cuts_kept : (IsNew : ℕ → Type 0) (s u : State) → RefinesBy IsNew s u → (p : ℕ) → Contains (cuts s) p → Contains (cuts u) p
cuts_kept IsNew s u refined p is =
    let In : ℕ → Type 0 = λ n. Contains (cuts u) n in
    let position : Mark → ℕ = λ x. x.position in
    let positions : All In (map position s.marks) = All-map In position s.marks (λ k d h. cut_of u (get_or s.marks k d) (refined.kept (get_or s.marks k d) (Contains-get_or s.marks k d h))) in
    let front : In 0 = (0, omega arith, refl) in
    let back : In (length u.column) = Contains-append_right (0 ∷ map position u.marks) (length u.column ∷ []) (length u.column) (0, omega arith, refl) in
    All-contains In (cuts s) p (All-cons In 0 (map position s.marks ++ length s.column ∷ []) front (All-push In (map position s.marks) (length s.column) positions (subst In refined.long back))) is

-- a store refines itself, if the bounds are in the index
pub RefinesBy-refl : (IsNew : ℕ → Type 0) (s : State) → ((b : ℕ) → IsNew b → HasBound s.marks b) → RefinesBy IsNew s s
RefinesBy-refl IsNew s there = record {
  same = refl;
  long = refl;
  pieces = λ p q is_p is_q. IsPermutation-refl (between p q s.column);
  kept = λ m is. is;
  added = there;
  only = λ b has. inl has;
}

-- one refinement after another, with the bounds of both, in other words
RefinesBy-trans : (New First Second : ℕ → Type 0) (s u v : State) → ((b : ℕ) → First b ⊎ Second b → New b) → ((b : ℕ) → New b → First b ⊎ Second b) → RefinesBy First s u → RefinesBy Second u v → RefinesBy New s v
RefinesBy-trans New First Second s u v is_new new_is a b = record {
  same = b.same ∙ ap (λ (x : State). let y : State = record x { column = v.column; marks = v.marks; column_room = v.column_room; in_room = v.in_room } in y) a.same;
  long = b.long ∙ a.long;
  pieces = λ p q is_p is_q. IsPermutation-trans (between p q s.column) (between p q u.column) (between p q v.column) (a.pieces p q is_p is_q) (b.pieces p q (cuts_kept First s u a p is_p) (cuts_kept First s u a q is_q));
  kept = λ m is. b.kept m (a.kept m is);
  added = λ n is. elim (new_is n is) [
    | inl new ↦
        let at = HasBound-contains u.marks n (a.added n new) in
        rw at.2 at (HasBound-mark v.marks at.0 (b.kept at.0 at.1))
    | inr newer ↦ b.added n newer
  ];
  only = λ n has. elim (b.only n has) [
    | inl before ↦ elim (a.only n before) [ inl first ↦ inl first | inr new ↦ inr (is_new n (inl new)) ]
    | inr newer ↦ inr (is_new n (inr newer))
  ];
}

pub keys-refined : (IsNew : ℕ → Type 0) (s u : State) → RefinesBy IsNew s u → u.keys ≡ s.keys
keys-refined IsNew s u refined = ap (λ (x : State). x.keys) refined.same

-- refined at the one end of a range, and then at the other
pub Refines-both : (s u v : State) (r : Range) (first second : ℕ) → AreEnds r first second → RefinesAt s u first → RefinesAt u v second → Refines s v r
Refines-both s u v r first second ends a b =
    let keys = keys-refined (λ n. (n ≡ first) × (s.keys.low < n) × (n < s.keys.high)) s u a in
    let low : u.keys.low ≡ s.keys.low = ap (λ (x : Range). x.low) keys in
    let high : u.keys.high ≡ s.keys.high = ap (λ (x : Range). x.high) keys in
    let First : ℕ → Type 0 = λ n. (n ≡ first) × (s.keys.low < n) × (n < s.keys.high) in
    let Second : ℕ → Type 0 = λ n. (n ≡ second) × (u.keys.low < n) × (n < u.keys.high) in
    RefinesBy-trans (IsInner s.keys r) First Second s u v
    (λ n is. elim is [
      | inl l ↦ (elim ends [ inl e ↦ inl (l.0 ∙ e.0) | inr e ↦ inr (l.0 ∙ e.0) ], l.1, l.2)
      | inr l ↦ (elim ends [ inl e ↦ inr (l.0 ∙ e.1) | inr e ↦ inl (l.0 ∙ e.1) ], omega (arith, low, l.1), omega (arith, high, l.2))
    ])
    (λ n is.
    let is_first : n ≡ first → First n ⊎ Second n = λ e. inl (e, is.1, is.2) in
    let is_second : n ≡ second → First n ⊎ Second n = λ e. inr (e, omega (arith, low, is.1), omega (arith, high, is.2)) in
    elim is.0 [
      | inl l ↦ elim ends [ inl e ↦ is_first (l ∙ sym e.0) | inr e ↦ is_second (l ∙ sym e.1) ]
      | inr l ↦ elim ends [ inl e ↦ is_second (l ∙ sym e.1) | inr e ↦ is_first (l ∙ sym e.0) ]
    ])
    a
    b

-- commands see the same rows
pub live_rows-refined : (IsNew : ℕ → Type 0) (s u : State) → RefinesBy IsNew s u → live_rows u ≡ live_rows s
live_rows-refined IsNew s u refined = ap live_rows refined.same

-- the cells stay, and the pending deletions
pub cells-refined : (IsNew : ℕ → Type 0) (s u : State) → RefinesBy IsNew s u → u.cells ≡ s.cells
cells-refined IsNew s u refined = ap (λ (x : State). x.cells) refined.same

pub pending_out-refined : (IsNew : ℕ → Type 0) (s u : State) → RefinesBy IsNew s u → u.pending_out ≡ s.pending_out
pending_out-refined IsNew s u refined = ap (λ (x : State). x.pending_out) refined.same

-- what was refined by a range is cracked by it
pub IsCracked-refined : (s u : State) (r : Range) → Refines s u r → IsCracked u r
IsCracked-refined s u r refined =
    let keys = keys-refined (IsInner s.keys r) s u refined in
    let low = ap (λ (x : Range). x.low) keys in
    let high = ap (λ (x : Range). x.high) keys in (
      λ above below. refined.added r.low (inl refl, omega arith, omega arith),
      λ above below. refined.added r.high (inr refl, omega arith, omega arith),
    )
