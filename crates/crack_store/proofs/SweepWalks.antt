-- A column after a walk over the bounds from the lowest up, whose pieces the rows that came in turn.
use Rattle.std.proofs.Common.{◌≡◌, ℕ, zero, suc, ◌+◌, ◌-◌, ◌≤◌, false, cond, min, max, List, [], ◌∷◌, ◌++◌, length, take, drop, Option, Some, None, refl, sym, ap, ◌∙◌, inl, inr, arith}
use Rattle.std.specs.List.{All, between, filter}
use Rattle.std.proofs.Math.Nat.{min-eq_left}
use Rattle.std.proofs.lemmas.List.{append_assoc, take_at, drop_at, take-append-drop, length-append, length-take-le, length-drop, length-map}
use Rattle.std.proofs.lemmas.Bool.{le-ltb}
use Rattle.std.proofs.lemmas.List.Elements.{All-nil, All-cons, All-head, All-tail}
use Rattle.std.proofs.lemmas.List.Sums.{sum_by-cons}
use Rattle.crack_row.specs.Ranges.{Range}
use Rattle.crack_row.specs.declared.InnerBound.{InnerBound}
use Rattle.crack_row.specs.declared.Row.{Row}
use Rattle.crack_arena.specs.Arena.{Cell, Handle}
use Rattle.crack_arena.specs.Rows.{key_at}
use Rattle.crack_arena.specs.Memories.{Remembers}
use Rattle.crack_index.specs.declared.mark.Mark.{Mark}
use Rattle.crack_index.specs.Marks.{Rising}
use Rattle.crack_index.specs.Places.{Places, at_place}
use Rattle.crack_pending.proofs.Searches.{is_in-true, is_in-false}
use Rattle.crack_state.specs.State.{State, IsIntact, greatest}
use Rattle.crack_state.specs.Steps.{SameButRoom, buried}
use Rattle.crack_state.proofs.StepLaws.{IsIntact-room}
use Rattle.crack_state.specs.Carried.{carried_in_bulk, inside_of, pieces_of}
use Rattle.crack_state.specs.Pieces.{cut}
use Rattle.crack_state.specs.Pulled.{buried_all}
use Rattle.crack_state.specs.Sweeps.{Swept, goes_on, is_lower}
use Rattle.crack_state.proofs.SweptUp.{swept_up, swept_marks}
use Rattle.crack_state.proofs.EndLaws.{AreBuried-apart}
use Rattle.crack_state.proofs.FallLaws.{AreBuried as Bulk}
use Rattle.crack_state.proofs.SiftedLaws.{min_and}
use Rattle.crack_state.proofs.AllCarriedLaws.{inside_or}
use Rattle.crack_state.proofs.SweepLaws.{length-swept_by, length-swept_up, few-turn_by, swept_by-off}
use Rattle.crack_state.proofs.SweptLaws.{rows_in, sweep, unburied, hands-apart, carried-sweeping}
use Rattle.crack_store.specs.Drainings.{AreBuried}
use Rattle.crack_store.specs.declared.sweeping.Sweep.{Sweep}
use Rattle.crack_store.specs.Sweepings.{ends_in, up_to, sweep_of, going_on, IsSweepReady, IsSweptTo, SweepPasses, Sweeps, SweepTurns}
use Rattle.crack_store.proofs.SweepLemmas.{four}

-- the parts of a list of four
record Parts (h a b c d : List Handle) (s e f : ℕ) : Type 0 where
  front : take s h ≡ a
  rows : between s e h ≡ b
  mid : between e f h ≡ c
  tail : drop f h ≡ d

parts-of : (h a b c d : List Handle) (s e f : ℕ) → h ≡ a ++ (b ++ (c ++ d)) → length a ≡ s → s + length b ≡ e → e + length c ≡ f → Parts h a b c d s e f
parts-of h a b c d s e f is at_s at_e at_f =
    let size_b : e - s ≡ length b = omega (arith, at_e) in
    let size_c : f - e ≡ length c = omega (arith, at_f) in
    let after_a : drop s h ≡ b ++ (c ++ d) = ap (drop s) is ∙ drop_at a (b ++ (c ++ d)) s at_s in
    let two : h ≡ (a ++ b) ++ (c ++ d) = is ∙ sym (append_assoc a b (c ++ d)) in
    let after_b : drop e h ≡ c ++ d = ap (drop e) two ∙ drop_at (a ++ b) (c ++ d) e (omega (arith, at_s, at_e, length-append a b)) in
    let three : h ≡ ((a ++ b) ++ c) ++ d = two ∙ sym (append_assoc (a ++ b) c d) in
    record {
      front = ap (take s) is ∙ take_at a (b ++ (c ++ d)) s at_s;
      rows = ap (take (e - s)) after_a ∙ take_at b (c ++ d) (e - s) (sym size_b);
      mid = ap (take (f - e)) after_b ∙ take_at c d (f - e) (sym size_c);
      tail = ap (drop f) three ∙ drop_at ((a ++ b) ++ c) d f (omega (arith, at_s, at_e, at_f, length-append (a ++ b) c, length-append a b));
    }

module _ (cells : List (Cell Row)) (out : List Handle) where
  abbrev key : Handle → ℕ
  key = key_at cells

  -- the rows before the next piece, from it on, and after the column's last row
  pub record At (v : Sweep) (front rows tail : List Handle) : Type 0 where
    pub ready : IsSweepReady v
    pub cells_are : v.arena.now.cells ≡ cells
    pub out_is : v.pending_out.now.handles ≡ out
    pub handles_are : v.column.handles ≡ front ++ (rows ++ tail)
    pub front_is : length front ≡ v.start
    pub rows_are : v.start + length rows ≡ v.from
    pub small : v.moved ≤ greatest

  At-tail : (v : Sweep) (front rows tail : List Handle) → At v front rows tail → drop v.from v.column.handles ≡ tail
  At-tail v front rows tail at =
      ap (drop v.from) (at.handles_are ∙ sym (append_assoc front rows tail)) ∙ drop_at (front ++ rows) tail v.from (omega (arith, at.front_is, at.rows_are, length-append front rows))

  abbrev here : ℕ → InnerBound → List Handle → List Handle → Swept Handle
  here low bound tail rows = sweep_of cells out low (Some bound) tail rows

  -- one bound is passed
  record IsOver (v y : Sweep) (m : Mark) (front rows tail : List Handle) (place made : ℕ) : Type 0 where
    at : At y (front ++ (here v.low m.bound tail (take (m.position - v.start) rows)).piece) (drop (m.position - v.start) rows) (here v.low m.bound tail (take (m.position - v.start) rows)).tail
    count : y.count ≡ going_on cells out m.bound.0 (here v.low m.bound tail (take (m.position - v.start) rows)).tail
    before : v.count ≡ going_on cells out v.low tail
    made_is : made ≡ (here v.low m.bound tail (take (m.position - v.start) rows)).made
    long : length (take (m.position - v.start) rows) ≡ m.position - v.start

  over : (v y : Sweep) (m : Mark) (front rows tail : List Handle) (place : ℕ) (p : SweepPasses v m place y) → At v front rows tail → v.start ≤ m.position → m.position ≤ v.from → IsOver v y m front rows tail place p.made
  over v y m front rows tail place p at low high =
      let n : ℕ = m.position - v.start in
      let mine : List Handle = take n rows in
      let later : List Handle = drop n rows in
      let S : Swept Handle = here v.low m.bound tail mine in
      let h = v.column.handles in
      let long : length mine ≡ n = length-take-le n rows (omega (arith, high, at.rows_are)) in
      let rest : length later ≡ length rows - n = length-drop n rows in
      let split : h ≡ front ++ (mine ++ (later ++ tail)) = at.handles_are ∙ ap (λ zs. front ++ (zs ++ tail)) (sym (take-append-drop n rows)) ∙ ap (λ zs. front ++ zs) (append_assoc mine later tail) in
      let parts = parts-of h front mine later tail v.start m.position v.from split at.front_is (omega (arith, long, low)) (omega (arith, rest, high, low, at.rows_are)) in
      let sizes = length-swept_by key (ends_in out) v.low (up_to cells out (Some m.bound)) tail mine in
      let same : sweep_of v.arena.now.cells v.pending_out.now.handles v.low (Some m.bound) (drop v.from h) (between v.start m.position h) ≡ S = rw (at.cells_are, at.out_is, parts.tail, parts.rows) refl in
      let new : y.column.handles ≡ (front ++ S.piece) ++ (later ++ S.tail) = p.sweeps.handles_are ∙ rw (same, parts.front, parts.mid) (sym (append_assoc front S.piece (later ++ S.tail))) in
      let cells_y : y.arena.now.cells ≡ cells = rw p.arena_is at.cells_are in
      let out_y : y.pending_out.now.handles ≡ out = rw p.out_is at.out_is in
      let at_y : At y (front ++ S.piece) later S.tail = record {
        ready = p.ready;
        cells_are = cells_y;
        out_is = out_y;
        handles_are = new;
        front_is = omega (arith, p.start_is, length-append front S.piece, sizes.0, long, at.front_is, low);
        rows_are = omega (arith, p.start_is, p.from_is, rest, high, low, at.rows_are);
        small = omega (arith, p.moved_is);
      } in
      record {
        at = at_y;
        count = p.ready.counted ∙ rw (cells_y, out_y, p.low_is, At-tail y (front ++ S.piece) later S.tail at_y) refl;
        before = at.ready.counted ∙ rw (at.cells_are, at.out_is, At-tail v front rows tail at) refl;
        made_is = p.sweeps.made_is ∙ ap (λ (s : Swept Handle). s.made) same;
        long = long;
      }

  -- at the walk's end
  pub record IsThrough (v w : Sweep) (front rows tail : List Handle) (ms ms' : List Mark) : Type 0 where
    pub marks_are : ms' ≡ swept_marks key (ends_in out) v.start v.low tail (cut v.start ms rows)
    pub front' : List Handle
    pub rows' : List Handle
    pub tail' : List Handle
    pub at : At w front' rows' tail'
    pub whole : front ++ (swept_up key (ends_in out) v.low tail (cut v.start ms rows)).piece ≡ front' ++ (sweep_of cells out w.low None tail' rows').piece
    pub tail_is : (swept_up key (ends_in out) v.low tail (cut v.start ms rows)).tail ≡ (sweep_of cells out w.low None tail' rows').tail
    pub made : ℕ
    pub moved_is : w.moved ≡ min (v.moved + made) greatest
    pub total : made + (sweep_of cells out w.low None tail' rows').made ≡ (swept_up key (ends_in out) v.low tail (cut v.start ms rows)).made
    pub from_is : w.from ≡ v.from

  through : (ms : List Mark) (least last : ℕ) (ms' : List Mark) (v w : Sweep) (front rows tail : List Handle) → At v front rows tail → least ≤ v.start + v.count → All (λ m. (v.start ≤ m.position) × (m.position ≤ v.from)) ms → All (λ m. v.low ≤ m.bound.0) ms → Rising ms → Places SweepTurns least ms v ms' w last → IsThrough v w front rows tail ms ms'
  through ms least last ms' v w front rows tail at few inside bounds rising (Places.done n x) =
      let none : min (x.moved + 0) greatest ≡ x.moved = min-eq_left (omega (arith, at.small)) ∙ omega arith in
      record {
        marks_are = refl;
        front' = front;
        rows' = rows;
        tail' = tail;
        at = at;
        whole = refl;
        tail_is = refl;
        made = 0;
        moved_is = sym none;
        total = omega arith;
        from_is = refl;
      }
  through ms least last ms' v w front rows tail at few inside bounds rising (Places.goes_on n place l m ns ns' x y z told rest) =
      let b = All-head (λ k. (x.start ≤ k.position) × (k.position ≤ x.from)) m ns inside in
      let low = All-head (λ k. x.low ≤ k.bound.0) m ns bounds in
      let p = told b.0 b.1 low in
      let one = over x y m front rows tail place p at b.0 b.1 in
      let mine : List Handle = take (m.position - x.start) rows in
      let later : List Handle = drop (m.position - x.start) rows in
      let S : Swept Handle = here x.low m.bound tail mine in
      let turn = few-turn_by key (ends_in out) x.low m.bound tail mine low in
      let clamp : max place n ≡ place = omega (arith, turn, one.before, one.count, one.long, p.place_is, few, b.0) in
      let inside_on : All (λ k. (y.start ≤ k.position) × (k.position ≤ y.from)) ns = λ k e h.
      let order = rising zero (suc k) e (omega arith) (omega (arith, h)) in
      let was = All-tail (λ j. (x.start ≤ j.position) × (j.position ≤ x.from)) m ns inside k e h in
      (omega (arith, order.positions, p.start_is), omega (arith, was.1, p.from_is)) in
      let bounds_on : All (λ k. y.low ≤ k.bound.0) ns = λ k e h. omega (arith, (rising zero (suc k) e (omega arith) (omega (arith, h))).bounds, p.low_is) in
      let rising_on : Rising ns = λ i j e h k. rising (suc i) (suc j) e (omega (arith, h)) (omega (arith, k)) in
      let all = through ns (max place n) l ns' y z (front ++ S.piece) later S.tail one.at (omega (arith, clamp, p.place_is, p.start_is)) inside_on bounds_on rising_on rest in
      let up : Swept Handle = swept_up key (ends_in out) m.bound.0 S.tail (cut m.position ns later) in
      let up_is : swept_up key (ends_in out) y.low S.tail (cut y.start ns later) ≡ up = rw (p.low_is, p.start_is) refl in
      let ends : x.start + length mine ≡ m.position = omega (arith, one.long, b.0) in
      let top : at_place (max place n) m ≡ record { bound = m.bound; position = x.start + length mine + going_on cells out m.bound.0 S.tail } = ap (λ k. at_place k m) (clamp ∙ omega (arith, p.place_is, one.count, ends)) in
      let marks_on : ns' ≡ swept_marks key (ends_in out) (x.start + length mine) m.bound.0 S.tail (cut m.position ns later) = all.marks_are ∙ rw (p.low_is, p.start_is, ends) refl in
      record {
        marks_are = rw (top, marks_on) refl;
        front' = all.front';
        rows' = all.rows';
        tail' = all.tail';
        at = all.at;
        whole = sym (append_assoc front S.piece up.piece) ∙ ap (λ (s : Swept Handle). (front ++ S.piece) ++ s.piece) (sym up_is) ∙ all.whole;
        tail_is = ap (λ (s : Swept Handle). s.tail) (sym up_is) ∙ all.tail_is;
        made = p.made + all.made;
        moved_is = all.moved_is ∙ ap (λ k. min (k + all.made) greatest) p.moved_is ∙ min_and x.moved p.made all.made;
        total = omega (arith, all.total, one.made_is, ap (λ (s : Swept Handle). s.made) up_is);
        from_is = all.from_is ∙ p.from_is;
      }

-- The whole

-- the rows that are buried don't depend on the room
buried-room : (hs : List Handle) (t : State) (a b : ℕ) → buried_all hs (record t { column_room = a; in_room = b }) ≡ record (buried_all hs t) { column_room = a; in_room = b }
buried-room [] t a b = refl
buried-room (h ∷ hs) t a b = buried-room hs (buried (record { store = t; hand = h })) a b

-- a store that differs only in its room
same-room : (s u : State) (a b : ℕ) → u ≡ record s { column_room = a; in_room = b } → SameButRoom s u
same-room s u a b is = rw is (record { same = refl })

sweep-same : (cells cells' : List (Cell Row)) (out out' : List Handle) (low : ℕ) (high : Option InnerBound) (ts ts' rows rows' : List Handle) → cells ≡ cells' → out ≡ out' → ts ≡ ts' → rows ≡ rows' → sweep_of cells out low high ts rows ≡ sweep_of cells' out' low high ts' rows'
sweep-same cells cells' out out' low high ts ts' rows rows' a b c d = rw (a, b, c, d) refl

-- if none is below the floor, none turns a piece that begins at or below it
pub none-below : (cells : List (Cell Row)) (out : List Handle) (low floor : ℕ) (ts : List Handle) → low ≤ floor → All (λ h. floor ≤ key_at cells h) ts → going_on cells out low ts ≡ 0
none-below cells out low floor [] order above = refl
none-below cells out low floor (t ∷ ts) order above =
    let least : floor ≤ key_at cells t = All-head (λ h. floor ≤ key_at cells h) t ts above in
    let off : goes_on (ends_in out) (is_lower (key_at cells) (ends_in out) low) t ≡ false = rw (le-ltb (key_at cells t) low (omega (arith, order, least))) refl in
    let rest = none-below cells out low floor ts order (All-tail (λ h. floor ≤ key_at cells h) t ts above) in
    sum_by-cons (λ y. cond {A = ℕ} (goes_on (ends_in out) (is_lower (key_at cells) (ends_in out) low) y) 1 0) t ts ∙ rw off (omega (arith, rest))

-- if none turns the piece, nothing changes
pub Sweeps-off : (cells : List (Cell Row)) (out : List Handle) (low : ℕ) (high : Option InnerBound) (start end from : ℕ) (handles : List Handle) → start ≤ end → end ≤ from → from ≤ length handles → going_on cells out low (drop from handles) ≡ 0 → Sweeps cells out low high start end from handles handles 0
Sweeps-off cells out low high start end from handles order before within none =
    let parts = four handles start end from order before within in
    let off = swept_by-off (key_at cells) (ends_in out) low (up_to cells out high) (drop from handles) (between start end handles) none in
    record {
      handles_are = rw off parts.all;
      made_is = rw off refl;
    }

-- if the next piece ends at or below the floor, none turns the one above it
pub IsReady-on : (v : Sweep) (low start : ℕ) → IsSweepReady v → start ≤ v.from → v.low ≤ low → low ≤ v.floor.0 → IsSweepReady (record v { low = low; start = start; count = 0 })
IsReady-on v low start ready order up under =
    let above = ready.above (omega (arith, up, under)) in
    record {
      order = order;
      within = ready.within;
      remembers = ready.remembers;
      counted = sym (none-below v.arena.now.cells v.pending_out.now.handles low v.floor.0 (drop v.from v.column.handles) under above);
      above = λ below. above;
      small = ready.small;
    }

-- a row in a range isn't below it
inside-least : (cells : List (Cell Row)) (r : Range) (hs : List Handle) → All (λ h. r.low ≤ key_at cells h) (inside_of cells r hs)
inside-least cells r [] = All-nil (λ h. r.low ≤ key_at cells h)
inside-least cells r (h ∷ hs) = elim (inside_or r (key_at cells h)) [
  | inl inside ↦ rw (is_in-true r (key_at cells h) inside) (All-cons (λ g. r.low ≤ key_at cells g) h (inside_of cells r hs) inside.0 (inside-least cells r hs))
  | inr outside ↦ rw (is_in-false r (key_at cells h) outside) (inside-least cells r hs)
]

module _ (r : Range) (s : State) (intact : IsIntact s []) where
  abbrev pub sw : Swept Handle
  sw = sweep r s intact

  abbrev pub hands : List Handle
  hands = filter (ends_in s.pending_out) (sweep r s intact).tail

  -- the walk began with the rows after the column's last
  pub record Begins (v : Sweep) : Type 0 where
    pub handles_are : v.column.handles ≡ s.column ++ rows_in r s intact
    pub from_is : v.from ≡ length s.column
    pub floor_is : v.floor.0 ≡ r.low
    pub low_is : v.low ≡ 0
    pub start_is : v.start ≡ 0
    pub count_is : v.count ≡ 0
    pub moved_is : v.moved ≡ s.tally.moved
    pub cells_are : v.arena.now.cells ≡ s.cells
    pub out_is : v.pending_out.now.handles ≡ s.pending_out
    pub remembers : Remembers v.arena.now.cells v.column.handles v.column.remembered

  pub ready-begins : (v : Sweep) → Begins v → IsSweepReady v
  ready-begins v b =
      let rest : drop v.from v.column.handles ≡ rows_in r s intact = ap (drop v.from) b.handles_are ∙ drop_at s.column (rows_in r s intact) v.from (sym b.from_is) in
      let above : All (λ h. v.floor.0 ≤ key_at v.arena.now.cells h) (drop v.from v.column.handles) = rw (b.floor_is, b.cells_are, rest) (inside-least s.cells r s.pending_in) in
      let none = none-below v.arena.now.cells v.pending_out.now.handles v.low v.floor.0 (drop v.from v.column.handles) (omega (arith, b.low_is)) above in
      record {
        order = omega (arith, b.start_is);
        within = omega (arith, b.from_is, ap length b.handles_are, length-append s.column (rows_in r s intact));
        remembers = b.remembers;
        counted = b.count_is ∙ sym none;
        above = λ below. above;
        small = omega (arith, b.moved_is, intact.counted.moved);
      }

  -- where it has ended
  pub record IsDone (ms' : List Mark) (z : Sweep) : Type 0 where
    pub handles_are : z.column.handles ≡ sw.piece ++ sw.tail
    pub first : length sw.piece ≡ length s.column
    pub marks_are : ms' ≡ swept_marks (key_at s.cells) (ends_in s.pending_out) 0 0 (rows_in r s intact) (pieces_of s)
    pub moved_is : z.moved ≡ min (s.tally.moved + sw.made) greatest
    pub from_is : z.from ≡ length s.column
    pub long : length z.column.handles ≡ length s.column + length (rows_in r s intact)
    pub remembers : Remembers s.cells z.column.handles z.column.remembered

  -- where those that came in begin
  pub take-done : (ms' : List Mark) (z : Sweep) (from : ℕ) → from ≡ length s.column → IsDone ms' z → (take from z.column.handles ≡ sw.piece) × (drop from z.column.handles ≡ sw.tail)
  take-done ms' z from is d =
      (ap (take from) d.handles_are ∙ take_at sw.piece sw.tail from (omega (arith, d.first, is)), ap (drop from) d.handles_are ∙ drop_at sw.piece sw.tail from (omega (arith, d.first, is)))

  pub done-of : (last : ℕ) (ms' : List Mark) (v w z : Sweep) → Places SweepTurns 0 s.marks v ms' w last → Begins v → IsSweptTo w z → IsDone ms' z
  done-of last ms' v w z placed b swept_to =
      let rows : List Handle = rows_in r s intact in
      let at : At s.cells s.pending_out v [] s.column rows = record {
        ready = ready-begins v b;
        cells_are = b.cells_are;
        out_is = b.out_is;
        handles_are = b.handles_are;
        front_is = sym b.start_is;
        rows_are = omega (arith, b.start_is, b.from_is);
        small = omega (arith, b.moved_is, intact.counted.moved);
      } in
      let inside : All (λ m. (v.start ≤ m.position) × (m.position ≤ v.from)) s.marks = λ k e h. (omega (arith, b.start_is), omega (arith, (intact.obeyed k e h).within, length-map s.column (key_at s.cells), b.from_is)) in
      let all = through s.cells s.pending_out s.marks 0 last ms' v w [] s.column rows at (omega arith) inside (λ k e h. omega (arith, b.low_is)) intact.rising placed in
      let Z : Swept Handle = sweep_of s.cells s.pending_out w.low None all.tail' all.rows' in
      let now = all.at in
      let parts = parts-of w.column.handles all.front' all.rows' [] all.tail' w.start w.from w.from now.handles_are now.front_is now.rows_are (omega arith) in
      let same : sweep_of w.arena.now.cells w.pending_out.now.handles w.low None (drop w.from w.column.handles) (between w.start w.from w.column.handles) ≡ Z = sweep-same w.arena.now.cells s.cells w.pending_out.now.handles s.pending_out w.low None (drop w.from w.column.handles) all.tail' (between w.start w.from w.column.handles) all.rows' now.cells_are now.out_is parts.tail parts.rows in
      let cells_z : z.arena.now.cells ≡ s.cells = rw swept_to.arena_is now.cells_are in
      let sizes = length-swept_by (key_at s.cells) (ends_in s.pending_out) w.low (up_to s.cells s.pending_out None) all.tail' all.rows' in
      let up : swept_up (key_at s.cells) (ends_in s.pending_out) v.low rows (cut v.start s.marks s.column) ≡ sw = rw (b.low_is, b.start_is) refl in
      let piece_is : sw.piece ≡ all.front' ++ Z.piece = ap (λ (x : Swept Handle). x.piece) (sym up) ∙ all.whole in
      let tail_is : sw.tail ≡ Z.tail = ap (λ (x : Swept Handle). x.tail) (sym up) ∙ all.tail_is in
      let made_is : swept_to.made ≡ Z.made = swept_to.sweeps.made_is ∙ ap (λ (x : Swept Handle). x.made) same in
      let flat : z.column.handles ≡ all.front' ++ (Z.piece ++ Z.tail) = swept_to.sweeps.handles_are ∙ rw (same, parts.front, parts.mid) refl in
      let ends_as : all.front' ++ (Z.piece ++ Z.tail) ≡ sw.piece ++ sw.tail = rw (piece_is, tail_is) (sym (append_assoc all.front' Z.piece Z.tail)) in
      let total : all.made + swept_to.made ≡ sw.made = omega (arith, all.total, made_is, ap (λ (x : Swept Handle). x.made) up) in
      record {
        handles_are = flat ∙ ends_as;
        first = omega (arith, ap length piece_is, length-append all.front' Z.piece, sizes.0, now.front_is, now.rows_are, all.from_is, b.from_is);
        marks_are = all.marks_are ∙ rw (b.low_is, b.start_is) refl;
        moved_is = swept_to.moved_is ∙ ap (λ k. min (k + swept_to.made) greatest) all.moved_is ∙ min_and v.moved all.made swept_to.made ∙ rw (total, b.moved_is) refl;
        from_is = swept_to.from_is ∙ all.from_is ∙ b.from_is;
        remembers = rw cells_z at swept_to.remembers;
        long = omega (arith, swept_to.long, ap length now.handles_are, length-append all.front' (all.rows' ++ all.tail'), length-append all.rows' all.tail', ap length tail_is, sizes.1, now.front_is, now.rows_are, all.from_is, b.from_is, tail_long);
      }
    where
      tail_long : length sw.tail ≡ length (rows_in r s intact)
      tail_long = length-swept_up (key_at s.cells) (ends_in s.pending_out) 0 (rows_in r s intact) (pieces_of s)

  -- this is the result of all carries of the range once the rows that end them are buried
  pub carried-is : (a b : ℕ) → SameButRoom (carried_in_bulk None r s) (buried_all hands (record (unburied r s intact) { column_room = a; in_room = b }))
  carried-is a b = same-room (carried_in_bulk None r s) (buried_all hands (record (unburied r s intact) { column_room = a; in_room = b })) a b (buried-room hands (unburied r s intact) a b ∙ ap (λ (x : State). record x { column_room = a; in_room = b }) (sym (carried-sweeping r s intact)))

  pub buried-hands : AreBuried hands s.cells s.pending_out
  buried-hands = again hands s.cells s.pending_out (AreBuried-apart hands s.cells s.pending_out (hands-apart r s intact))
    where
      again : (hs : List Handle) (cells : List (Cell Row)) (out : List Handle) → Bulk hs cells out → AreBuried hs cells out
      again [] cells out can = tt
      again (h ∷ hs) cells out can = (can.0, can.1, can.2, again hs _ _ can.3)

  -- room for them was made before
  pub swept-room : (t u : State) → SameButRoom s t → SameButRoom (carried_in_bulk None r t) u → SameButRoom (carried_in_bulk None r s) u
  swept-room t u made room =
      let more : State = record s { column_room = t.column_room; in_room = t.in_room } in
      let now : SameButRoom (carried_in_bulk None r more) u = rw made.same at room in
      let whole = IsIntact-room s more [] (record { same = refl }) intact in
      let first : carried_in_bulk None r more ≡ record (carried_in_bulk None r s) { column_room = t.column_room; in_room = t.in_room } =
      carried-sweeping r more whole ∙ buried-room hands (unburied r s intact) t.column_room t.in_room ∙ ap (λ (x : State). record x { column_room = t.column_room; in_room = t.in_room }) (sym (carried-sweeping r s intact)) in
      record { same = now.same ∙ ap (λ (x : State). record x { column_room = u.column_room; in_room = u.in_room }) first }
