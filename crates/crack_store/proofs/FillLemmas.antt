-- The store after a walk over the bounds up to one, on which doomed rows are pulled out of the pieces, and after fillers come in before it.
use Rattle.std.proofs.Common.{◌≡◌, ℕ, zero, suc, ◌+◌, ◌-◌, ◌<◌, ◌≤◌, min, max, nat_lt, cond, List, [], ◌∷◌, ◌++◌, map, length, take, drop, reverse, get_or, set, None, refl, sym, ap, ◌∙◌, inl, inr, arith}
use Rattle.std.specs.List.{All, remove}
use Rattle.std.proofs.lemmas.Bool.{cases_lt, lt-ltb, le-ltb}
use Rattle.std.proofs.lemmas.List.{append_assoc, append_cancel_right, length-append, length-map, length-set, map-append, reverse-append, get_or_append_left, get_or_at, get_or_default, drop_more, length-take-le, take_all, take_at, drop_at, take-take, take-append-drop}
use Rattle.std.proofs.lemmas.List.Elements.{All-nil, All-cons, All-head, All-tail, All-push, All-take}
use Rattle.crack_row.specs.Ranges.{Range, IsIn}
use Rattle.crack_row.specs.declared.Row.{Row}
use Rattle.crack_arena.specs.Arena.{Cell, Handle, no_handle}
use Rattle.crack_arena.specs.Rows.{key_at, keys_at}
use Rattle.crack_column.specs.declared.draining.Doomed.{Doomed}
use Rattle.crack_arena.specs.Memories.{Remembers}
use Rattle.crack_column.specs.Column.{Column}
use Rattle.crack_column.specs.Drains.{doomed_below, doomed_handle, drained, drawn}
use Rattle.crack_index.specs.declared.mark.Mark.{Mark}
use Rattle.crack_index.specs.Marks.{Rising}
use Rattle.crack_index.specs.Places.{Places, at_place}
use Rattle.crack_pending.specs.Pending.{Pending, Finds, NoneIn, IsFirstIn}
use Rattle.crack_pending.proofs.Searches.{is_in-true, is_in-false}
use Rattle.crack_state.specs.State.{State, Reads, IsIntact, live_rows, greatest}
use Rattle.crack_state.specs.Pieces.{Pieces, column_of, marks_of, cut}
use Rattle.crack_state.specs.Carried.{inside_of}
use Rattle.crack_state.specs.Pulled.{any_doomed, pulled, all_drawn, itself}
use Rattle.crack_state.specs.Filled.{lacking, pieces_under, IsFilled}
use Rattle.crack_state.proofs.AllCarriedLaws.{All-left, All-right, inside_or}
use Rattle.crack_state.proofs.FilledLaws.{FirstInside, first-inside, first-found, none-before, filled_by, doomed_first, AreFilled, fills-on}
use Rattle.crack_state.proofs.FillLaws.{high-are}
use Rattle.crack_state.proofs.FallLaws.{AreBuried as Bulk, count_under, fallen_by}
use Rattle.crack_state.proofs.LastMarkLaws.{last-is}
use Rattle.crack_state.proofs.StepsDown.{AreFrom}
use Rattle.crack_store.specs.declared.draining.Drain.{Drain}
use Rattle.crack_store.specs.declared.filling.DrainBelow.{DrainBelow}
use Rattle.crack_store.specs.Drainings.{doomed_of, Empties, AreBuried}
use Rattle.crack_store.specs.Fillings.{EmptiesBelow, CanBeFilled, FillsAs, IsNextTo, IsStocked, filled_at}
use Rattle.crack_store.proofs.DrainLemmas.{At, fall, left_of, last_low, last_from, through}
use Rattle.crack_store.proofs.ExchangeLemmas.{set_parts}
use Rattle.crack_store.proofs.TakeLemmas.{All-removed}

-- The walk

-- the marks up to the bound, and those above it
record Parts (least : ℕ) (ms hs : List Mark) (v : DrainBelow) (ms' : List Mark) (w : DrainBelow) (last : ℕ) : Type 0 where
  lower : List Mark
  upper : List Mark
  mid : DrainBelow
  stop : ℕ
  first : Places Empties least ms v.drain lower mid.drain stop
  rest : Places EmptiesBelow stop hs mid upper w last
  same : ms' ≡ lower ++ upper
  edge_is : mid.edge ≡ v.edge

parts : (least : ℕ) (ms hs : List Mark) (v : DrainBelow) (ms' : List Mark) (w : DrainBelow) (last : ℕ) → All (λ m. m.bound.0 ≤ v.edge) ms → Places EmptiesBelow least (ms ++ hs) v ms' w last → Parts least ms hs v ms' w last
parts least [] hs v ms' w last under placed = record { lower = []; upper = ms'; mid = v; stop = least; first = Places.done least v.drain; rest = placed; same = refl; edge_is = refl }
parts least (k ∷ ks) hs v ms' w last under (Places.goes_on n place l m ns ns' x y z told rest) =
    let below = All-tail (λ j. j.bound.0 ≤ x.edge) m ks under in
    let on = parts (max place n) ks hs y ns' z l (λ i e h. omega (arith, below i e h, told.edge_is)) rest in
    record {
      lower = at_place (max place n) m ∷ on.lower;
      upper = on.upper;
      mid = on.mid;
      stop = on.stop;
      first = Places.goes_on n place on.stop m ks on.lower x.drain y.drain on.mid.drain (told.under (All-head (λ j. j.bound.0 ≤ x.edge) m ks under)) on.first;
      rest = on.rest;
      same = ap (λ js. at_place (max place n) m ∷ js) on.same;
      edge_is = on.edge_is ∙ told.edge_is;
    }

-- those above it stay where they are
stay : (hs : List Mark) (stop : ℕ) (v : DrainBelow) (ms' : List Mark) (w : DrainBelow) (last : ℕ) → All (λ m. v.edge < m.bound.0) hs → All (λ m. stop ≤ m.position) hs → Rising hs → Places EmptiesBelow stop hs v ms' w last → (ms' ≡ hs) × (w ≡ v)
stay hs stop v ms' w last over behind rising (Places.done n x) = (refl, refl)
stay hs stop v ms' w last over behind rising (Places.goes_on n place l m ns ns' x y z told rest) =
    let here = told.over (All-head (λ j. x.edge < j.bound.0) m ns over) in
    let from : n ≤ m.position = All-head (λ j. n ≤ j.position) m ns behind in
    let clamp : max place n ≡ m.position = omega (arith, here.0, from) in
    let over_on : All (λ j. y.edge < j.bound.0) ns = λ i e h. omega (arith, All-tail (λ j. x.edge < j.bound.0) m ns over i e h, told.edge_is) in
    let behind_on : All (λ j. max place n ≤ j.position) ns = λ i e h. omega (arith, clamp, (rising zero (suc i) e (omega arith) (omega (arith, h))).positions) in
    let rising_on : Rising ns = λ i j e h k. rising (suc i) (suc j) e (omega (arith, h)) (omega (arith, k)) in
    let on = stay ns (max place n) y ns' z l over_on behind_on rising_on rest in
    (rw (clamp, on.0) refl, on.1 ∙ here.1)

Rising-left : (ms hs : List Mark) → Rising (ms ++ hs) → Rising ms
Rising-left ms hs rising = λ i j e h k.
    let long = length-append ms hs in
    rw (get_or_append_left ms hs e i (omega (arith, h, k)), get_or_append_left ms hs e j k) at (rising i j e h (omega (arith, k, long)))

Rising-right : (ms hs : List Mark) → Rising (ms ++ hs) → Rising hs
Rising-right [] hs rising = rising
Rising-right (m ∷ ms) hs rising = Rising-right ms hs (λ i j e h k. rising (suc i) (suc j) e (omega (arith, h)) (omega (arith, k)))

module _ (cells : List (Cell Row)) where
  all-counted : (bound : ℕ) (gs : List Handle) → All (λ h. key_at cells h < bound) gs → doomed_below bound (map (doomed_of cells) gs) ≡ length gs
  all-counted bound [] under = refl
  all-counted bound (g ∷ gs) under = rw (lt-ltb (key_at cells g) bound (All-head (λ h. key_at cells h < bound) g gs under)) (omega (arith, all-counted bound gs (All-tail (λ h. key_at cells h < bound) g gs under)))

  none-counted : (gs : List Handle) → doomed_below 0 (map (doomed_of cells) gs) ≡ 0
  none-counted [] = refl
  none-counted (g ∷ gs) = rw (le-ltb (key_at cells g) 0 (omega arith)) (omega (arith, none-counted gs))

  last_low-is : (gs : List Handle) (n : ℕ) (ms : List Mark) (m : Mark) → last_low cells gs n (ms ++ m ∷ []) ≡ m.bound.0
  last_low-is gs n [] m = refl
  last_low-is gs n (k ∷ ks) m = last_low-is gs k.bound.0 ks m

  last_from-is : (gs : List Handle) (n : ℕ) (ms : List Mark) (m : Mark) → last_from cells gs n (ms ++ m ∷ []) ≡ m.position
  last_from-is gs n [] m = refl
  last_from-is gs n (k ∷ ks) m = last_from-is gs k.position ks m

module _ (s : State) (ds : List Doomed) (fillers : Range) (edge : Mark) (intact : IsIntact s []) (can : CanBeFilled ds fillers edge s) where
  abbrev gs : List Handle
  gs = map doomed_handle ds

  abbrev under_edge : Pieces Handle
  under_edge = pulled (key_at s.cells) itself 0 (map doomed_handle ds) (pieces_under s can.low edge)

  -- a column and its marks after the walk
  pub record IsBelow (ms' : List Mark) (z : Drain) : Type 0 where
    pub front_is : take (edge.position - length ds) z.column.handles ≡ column_of under_edge
    pub behind_is : drop edge.position z.column.handles ≡ drop edge.position s.column
    pub marks_are : ms' ≡ marks_of 0 under_edge ++ record edge { position = edge.position - length ds } ∷ can.high
    pub pulled_is : z.pulled ≡ min (s.tally.pulled + all_drawn (key_at s.cells) itself 0 gs (pieces_under s can.low edge)) greatest
    pub room_is : z.column.room ≡ s.column_room
    pub doomed_are : z.doomed.items ≡ ds
    pub remembers : Remembers s.cells z.column.handles z.column.remembered
    pub long : length z.column.handles ≡ length s.column

  pub below-whole : (end : ℕ) (ms' : List Mark) (v : Drain) (w : DrainBelow) → v.column.handles ≡ s.column → v.column.room ≡ s.column_room → v.doomed.items ≡ ds → v.low ≡ 0 → v.from ≡ 0 → v.gap ≡ 0 → v.pulled ≡ s.tally.pulled → Remembers s.cells v.column.handles v.column.remembered → Places EmptiesBelow 0 s.marks (record { drain = v; edge = edge.bound.0 }) ms' w end → IsBelow ms' w.drain
  below-whole end ms' v w column_is room_is doomed_is low_is from_is gap_is tally_is remembers placed =
      let key = key_at s.cells in
      let ms : List Mark = can.low ++ edge ∷ [] in
      let n : ℕ = length ds in
      let size : length gs ≡ n = length-map ds doomed_handle in
      let split : s.marks ≡ ms ++ can.high = can.marks_are ∙ sym (append_assoc can.low (edge ∷ []) can.high) in
      let start : v.from - v.gap ≡ 0 = omega (arith, from_is, gap_is) in
      let at : At s.cells gs v [] s.column = record {
        ready = record { gap = omega (arith, from_is, gap_is); within = omega (arith, from_is) };
        doomed_are = doomed_is ∙ can.are;
        counted = ap (λ k. doomed_below k (map (doomed_of s.cells) gs)) low_is ∙ none-counted s.cells gs ∙ sym gap_is;
        front_is = ap (λ k. take k v.column.handles) start;
        rows_is = ap (λ k. drop k v.column.handles) from_is ∙ column_is;
        small = omega (arith, tally_is, intact.counted.pulled);
      } in
      let rising_all : Rising (ms ++ can.high) = rw split at intact.rising in
      let rising : Rising ms = Rising-left ms can.high rising_all in
      let all_under : All (λ m. m.bound.0 ≤ edge.bound.0) ms = All-push (λ m. m.bound.0 ≤ edge.bound.0) can.low edge (lows rising) (omega arith) in
      let P = parts 0 ms can.high (record { drain = v; edge = edge.bound.0 }) ms' w end all_under (rw split at placed) in
      let counted : doomed_below edge.bound.0 (map (doomed_of s.cells) gs) ≡ n = all-counted s.cells edge.bound.0 gs can.under ∙ size in
      let same_low : All (λ m. doomed_below m.bound.0 (map (doomed_of s.cells) gs) ≤ m.position) can.low = λ k e h. rw (← can.are) (can.few k e h) in
      let few : All (λ m. doomed_below m.bound.0 (map (doomed_of s.cells) gs) ≤ m.position) ms = All-push (λ m. doomed_below m.bound.0 (map (doomed_of s.cells) gs) ≤ m.position) can.low edge same_low (omega (arith, counted, can.long)) in
      let whole : edge.position - 0 ≡ edge.position = omega arith in
      let are : AreFrom key 0 ms = record { pairs = rising; behind = λ k e h. omega arith } in
      let top = last-is key gs 0 0 can.low edge s.column are can.under in
      let lower_marks : marks_of 0 (pulled key itself 0 gs (cut 0 ms s.column)) ≡ marks_of 0 under_edge ++ record edge { position = 0 + length (column_of under_edge) } ∷ [] = rw whole at (top.marks 0) in
      let lower_column : column_of (pulled key itself 0 gs (cut 0 ms s.column)) ≡ column_of under_edge ++ drained key itself edge.bound.0 (any_doomed key itself) gs (drop edge.position s.column) = rw whole at top.column in
      let lower_drawn : all_drawn key itself 0 gs (cut 0 ms s.column) ≡ all_drawn key itself 0 gs (pieces_under s can.low edge) + drawn key itself edge.bound.0 (any_doomed key itself) gs (drop edge.position s.column) = rw whole at top.drew in
      let place_is : 0 + length (column_of under_edge) ≡ edge.position - n = omega (arith, can.long) in
      let edge_falls : fall s.cells gs edge ≡ record edge { position = edge.position - n } = rw counted refl in
      let low_falls : map (fall s.cells gs) can.low ≡ marks_of 0 under_edge = ap (λ es. map (λ (m : Mark). record m { position = m.position - doomed_below m.bound.0 es }) can.low) (sym can.are) ∙ sym can.marks in
      let all_fall : map (fall s.cells gs) ms ≡ marks_of 0 under_edge ++ record edge { position = edge.position - n } ∷ [] = map-append (fall s.cells gs) can.low (edge ∷ []) ∙ rw (low_falls, edge_falls) refl in
      let falls : marks_of (v.from - v.gap) (left_of s.cells gs v ms s.column) ≡ map (fall s.cells gs) ms = rw (start, low_is, from_is) (lower_marks ∙ ap (λ k. marks_of 0 under_edge ++ record edge { position = k } ∷ []) place_is ∙ sym all_fall) in
      let inside_all : All (λ m. (v.from ≤ m.position) × (m.position ≤ length v.column.handles)) s.marks = λ k e h. (omega (arith, from_is), omega (arith, (intact.obeyed k e h).within, length-map s.column key, ap length column_is)) in
      let inside : All (λ m. (v.from ≤ m.position) × (m.position ≤ length v.column.handles)) ms = All-left (λ m. (v.from ≤ m.position) × (m.position ≤ length v.column.handles)) ms can.high (rw split at inside_all) in
      let T = through s.cells gs ms 0 P.stop P.lower v P.mid.drain [] s.column at (omega arith) inside rising few falls P.first in
      let low_last : P.mid.drain.low ≡ edge.bound.0 = T.low_is ∙ last_low-is s.cells gs v.low can.low edge in
      let from_last : P.mid.drain.from ≡ edge.position = T.from_is ∙ last_from-is s.cells gs v.from can.low edge in
      let gap_last : P.mid.drain.gap ≡ n = sym T.at.counted ∙ ap (λ k. doomed_below k (map (doomed_of s.cells) gs)) low_last ∙ counted in
      let rest : T.rows' ≡ drop edge.position s.column = sym T.at.rows_is ∙ T.behind ∙ ap (λ k. drop k v.column.handles) from_last ∙ ap (drop edge.position) column_is in
      let left_is : column_of (left_of s.cells gs v ms s.column) ≡ column_of (pulled key itself 0 gs (cut 0 ms s.column)) = rw (low_is, from_is) refl in
      let over : List Handle = drained key itself edge.bound.0 (any_doomed key itself) gs (drop edge.position s.column) in
      let same_over : drained key itself P.mid.drain.low (any_doomed key itself) gs T.rows' ≡ over = rw (low_last, rest) refl in
      let both : T.front' ++ over ≡ column_of under_edge ++ over = ap (λ hs. T.front' ++ hs) (sym same_over) ∙ sym T.whole ∙ left_is ∙ lower_column in
      let front : T.front' ≡ column_of under_edge = append_cancel_right T.front' (column_of under_edge) over both in
      let behind : All (λ m. P.stop ≤ m.position) can.high = λ k e h.
      let order = highs rising_all k e h in
      omega (arith, T.stop, from_last, order.1) in
      let above : All (λ m. P.mid.edge < m.bound.0) can.high = λ k e h. omega (arith, P.edge_is, (highs rising_all k e h).0) in
      let still = stay can.high P.stop P.mid P.upper w end above behind (Rising-right ms can.high rising_all) P.rest in
      let drawn_is : T.made ≡ all_drawn key itself 0 gs (pieces_under s can.low edge) =
      let drew : drawn key itself P.mid.drain.low (any_doomed key itself) gs T.rows' ≡ drawn key itself edge.bound.0 (any_doomed key itself) gs (drop edge.position s.column) = rw (low_last, rest) refl in
      let all_is : all_drawn key itself v.low gs (cut v.from ms s.column) ≡ all_drawn key itself 0 gs (cut 0 ms s.column) = rw (low_is, from_is) refl in
      omega (arith, T.total, drew, all_is, lower_drawn) in
      rw still.1 (record {
        front_is = ap (λ k. take k P.mid.drain.column.handles) (omega (arith, from_last, gap_last)) ∙ T.at.front_is ∙ front;
        behind_is = ap (λ k. drop k P.mid.drain.column.handles) (sym from_last) ∙ T.behind ∙ ap (λ k. drop k v.column.handles) from_last ∙ ap (drop edge.position) column_is;
        marks_are = P.same ∙ rw (T.marks_are, still.0, all_fall) (append_assoc (marks_of 0 under_edge) (record edge { position = edge.position - n } ∷ []) can.high);
        pulled_is = T.pulled_is ∙ ap (λ k. min (k + T.made) greatest) tally_is ∙ ap (λ k. min (s.tally.pulled + k) greatest) drawn_is;
        room_is = T.room ∙ room_is;
        doomed_are = T.at.doomed_are ∙ sym can.are;
        remembers = T.remembered s.cells remembers;
        long = T.long ∙ ap length column_is;
      })
    where
      lows : Rising (can.low ++ edge ∷ []) → All (λ m. m.bound.0 ≤ edge.bound.0) can.low
      lows rising = λ k e h.
          let one = rising k (length can.low) e h (omega (arith, length-append can.low (edge ∷ []))) in
          omega (arith, (rw (get_or_append_left can.low (edge ∷ []) e k h, get_or_at can.low edge [] e (length can.low) refl) at one).bounds)

      highs : Rising ((can.low ++ edge ∷ []) ++ can.high) → All (λ m. (edge.bound.0 < m.bound.0) × (edge.position ≤ m.position)) can.high
      highs rising = λ k e h.
          let moved : Rising (can.low ++ edge ∷ can.high) = rw (append_assoc can.low (edge ∷ []) can.high) at rising in
          let after : Rising (edge ∷ can.high) = Rising-right can.low (edge ∷ can.high) moved in
          let one = after zero (suc k) e (omega arith) (omega (arith, h)) in
          (one.bounds, one.positions)

-- The fillers

module _ (cells : List (Cell Row)) (fillers : Range) (place count : ℕ) (c0 : Column) (p0 : Pending) where
  -- this many came in, the last one first, and the others are left
  pub record IsFilling (i at : ℕ) (c : Column) (p : Pending) : Type 0 where
    pub up_to : i ≤ count
    pub none : NoneIn fillers (keys_at cells p.handles) 0 at
    pub enough : count - i ≤ length (inside_of cells fillers p.handles)
    pub left : lacking cells fillers (count - i) p.handles ≡ lacking cells fillers count p0.handles
    pub front : take (place - i) c.handles ≡ take (place - i) c0.handles
    pub rest : reverse (take (count - i) (inside_of cells fillers p.handles)) ++ drop (place - i) c.handles ≡ reverse (take count (inside_of cells fillers p0.handles)) ++ drop place c0.handles
    pub remembers : Remembers cells c.handles c.remembered
    pub keys : Remembers cells p.handles p.remembered
    pub reads : All (Reads cells) p.handles
    pub long : length c.handles ≡ length c0.handles
    pub column_room : c.room ≡ c0.room
    pub in_room : p0.room ≤ p.room
    pub covered : p.covered ≡ p0.covered

  pub IsFilling-begins : (first : ℕ) → NoneIn fillers (keys_at cells p0.handles) 0 first → count ≤ length (inside_of cells fillers p0.handles) → Remembers cells c0.handles c0.remembered → Remembers cells p0.handles p0.remembered → All (Reads cells) p0.handles → IsFilling 0 first c0 p0
  IsFilling-begins first none enough remembers keys reads =
      let all : count - 0 ≡ count = omega arith in
      let whole : place - 0 ≡ place = omega arith in
      record {
        up_to = omega arith;
        none = none;
        enough = omega (arith, enough);
        left = rw all refl;
        front = refl;
        rest = rw (all, whole) refl;
        remembers = remembers;
        keys = keys;
        reads = reads;
        long = refl;
        column_room = refl;
        in_room = omega arith;
        covered = refl;
      }

  -- as long as some are to come in, there is one
  module _ (i at : ℕ) (c : Column) (p : Pending) (on : IsFilling i at c p) (less : i < count) where
    first : FirstInside cells fillers p.handles
    first = first-inside cells fillers p.handles (omega (arith, on.enough, less))

    found-first : IsFirstIn fillers (keys_at cells p.handles) at first.place
    found-first = first-found cells fillers p.handles at first on.none

    pub one-is-left : Finds fillers (keys_at cells p.handles) at None → ⊥
    one-is-left none = none first.place found-first.after found-first.within found-first.holds

    module _ (found : ℕ) (finds : IsFirstIn fillers (keys_at cells p.handles) at found) where
      same-place : first.place ≡ found
      same-place = elim (cases_lt first.place found) [
        | inl l ↦ absurd (finds.before first.place found-first.after l found-first.holds)
        | inr from ↦ elim (cases_lt found first.place) [
          | inl l ↦ absurd (found-first.before found finds.after l finds.holds)
          | inr to ↦ omega (arith, from, to)
        ]
      ]

      pub IsFilling-next : (c' : Column) (p' : Pending) (h : Handle) → count ≤ place → place ≤ length c0.handles → p'.handles ≡ remove p.handles found → get_or p.handles found no_handle ≡ h → c'.handles ≡ set c.handles (place - 1 - i) h → Remembers cells c'.handles c'.remembered → Remembers cells p'.handles p'.remembered → c'.room ≡ c.room → p.room ≤ p'.room → p'.covered ≡ p.covered → IsFilling (i + 1) found c' p'
      IsFilling-next c' p' h fits within handles stands put remembers keys room in_room covered =
          let n : ℕ = count - (i + 1) in
          let k : ℕ = place - (i + 1) in
          let more : count - i ≡ suc n = omega (arith, less) in
          let there : place - 1 - i ≡ k = omega arith in
          let back : k + 1 ≡ place - i = omega (arith, less, fits) in
          let inside_is : inside_of cells fillers p.handles ≡ h ∷ inside_of cells fillers p'.handles = rw (same-place, stands, ← handles) at first.inside_is in
          let lacks : lacking cells fillers (suc n) p.handles ≡ lacking cells fillers n p'.handles = rw (same-place, ← handles) at (first.lacking_is n) in
          let parts : c'.handles ≡ take k c.handles ++ h ∷ drop (k + 1) c.handles = put ∙ ap (λ j. set c.handles j h) there ∙ set_parts c.handles k h (omega (arith, less, fits, within, on.long)) in
          let short : length (take k c.handles) ≡ k = length-take-le k c.handles (omega (arith, fits, within, on.long)) in
          let behind : drop k c'.handles ≡ h ∷ drop (place - i) c.handles = ap (drop k) parts ∙ drop_at (take k c.handles) (h ∷ drop (k + 1) c.handles) k short ∙ ap (λ j. h ∷ drop j c.handles) back in
          let before : take k c'.handles ≡ take k c.handles = ap (take k) parts ∙ take_at (take k c.handles) (h ∷ drop (k + 1) c.handles) k short in
          let lower : (hs : List Handle) → take k (take (place - i) hs) ≡ take k hs = λ hs. take-take k (place - i) hs (omega arith) in
          let xs : List Handle = take n (inside_of cells fillers p'.handles) in
          let taken : take (count - i) (inside_of cells fillers p.handles) ≡ h ∷ xs = rw (more, inside_is) refl in
          let turn : reverse xs ++ drop k c'.handles ≡ reverse (take (count - i) (inside_of cells fillers p.handles)) ++ drop (place - i) c.handles = ap (λ hs. reverse xs ++ hs) behind ∙ sym (append_assoc (reverse xs) (h ∷ []) (drop (place - i) c.handles)) ∙ ap (λ hs. hs ++ drop (place - i) c.handles) (sym (reverse-append (h ∷ []) xs) ∙ ap reverse (sym taken)) in
          record {
            up_to = omega (arith, less);
            none = rw handles (rw same-place at (none-before cells fillers cells p.handles first (λ j e l. refl)));
            enough = omega (arith, on.enough, ap length inside_is, less);
            left = sym lacks ∙ ap (λ j. lacking cells fillers j p.handles) (sym more) ∙ on.left;
            front = before ∙ sym (lower c.handles) ∙ ap (take k) on.front ∙ lower c0.handles;
            rest = turn ∙ on.rest;
            remembers = remembers;
            keys = keys;
            reads = rw handles (All-removed (Reads cells) p.handles found (omega (arith, finds.within, length-map p.handles (key_at cells))) on.reads);
            long = ap length put ∙ length-set c.handles (place - 1 - i) h ∙ on.long;
            column_room = room ∙ on.column_room;
            in_room = omega (arith, in_room, on.in_room);
            covered = covered ∙ on.covered;
          }

  pub IsStocked-ends : (i at : ℕ) (c : Column) (p : Pending) → IsFilling i at c p → count ≤ i → IsStocked cells fillers place count c0 p0 c p
  IsStocked-ends i at c p on all =
      let is : i ≡ count = omega (arith, all, on.up_to) in
      let none : count - i ≡ 0 = omega (arith, all) in
      let rest : drop (place - count) c.handles ≡ reverse (take count (inside_of cells fillers p0.handles)) ++ drop place c0.handles = rw (none, is) at on.rest in
      let front : take (place - count) c.handles ≡ take (place - count) c0.handles = rw is at on.front in
      record {
        handles_are = sym (take-append-drop (place - count) c.handles) ∙ rw (front, rest) refl;
        pending_are = rw none at on.left;
        remembers = on.remembers;
        keys = on.keys;
        column_room = on.column_room;
        in_room = on.in_room;
        covered = on.covered;
      }

-- The first doomed rows of a range can be pulled, each by a filler

pub take-few : (k : ℕ) (hs : List Handle) → take k hs ≡ take (min (length hs) k) hs
take-few k hs = elim (cases_lt k (length hs)) [
  | inl l ↦
      let few : k ≡ min (length hs) k = omega (arith, l) in
      ap (λ n. take n hs) few
  | inr l ↦ take_all k hs l ∙ sym (take_all (min (length hs) k) hs (omega (arith, l)))
]

module _ (r fillers : Range) (s : State) (edge : Mark) (intact : IsIntact s []) (behind : r.high ≤ fillers.low) (next : IsNextTo fillers s.marks edge) where
  abbrev rows : List Handle
  rows = inside_of s.cells r s.pending_out

  abbrev fills : List Handle
  fills = inside_of s.cells fillers s.pending_in

  -- no other bound is among the fillers' keys
  beyond-all : (low high : List Mark) → s.marks ≡ low ++ edge ∷ high → All (λ m. fillers.high ≤ m.bound.0) high
  beyond-all low high marks_are =
      let all : All (λ m. fillers.low < m.bound.0 → fillers.high ≤ m.bound.0) (low ++ edge ∷ high) = rw marks_are at next.beyond in
      let after = All-tail (λ m. fillers.low < m.bound.0 → fillers.high ≤ m.bound.0) edge high (All-right (λ m. fillers.low < m.bound.0 → fillers.high ≤ m.bound.0) low (edge ∷ high) all) in
      λ k e h. after k e h (omega (arith, (high-are s low edge high marks_are intact k e h).bounds, next.same))

  abbrev Any : ℕ → ℕ → State → Type 0
  Any from seen t = Unit {0}

  -- the store after the first pulls, this many
  filled-so : (n : ℕ) (low high : List Mark) → s.marks ≡ low ++ edge ∷ high → n ≤ length rows → n ≤ length fills → AreFilled r fillers Any n low edge (doomed_first r fillers n s) s (filled_by r fillers n low edge high s)
  filled-so n low high marks_are few_out few_in =
      fills-on r fillers Any (λ from place seen to t v on whole found found_in leads. tt) n low edge high s 0 0 (record { intact = intact; marks_are = marks_are; edge_is = next.same; beyond = beyond-all low high marks_are; behind = behind }) few_out few_in tt (λ k f l. absurd (omega (arith, f, l))) (λ k f l. absurd (omega (arith, f, l)))

  module _ (n : ℕ) (ds : List Doomed) (few_out : n ≤ length rows) (few_in : n ≤ length fills) (are : ds ≡ map (doomed_of s.cells) (take n rows)) where
    handles-of : map doomed_handle ds ≡ take n rows
    handles-of = ap (map doomed_handle) are ∙ back (take n rows)
      where
        back : (hs : List Handle) → map doomed_handle (map (doomed_of s.cells) hs) ≡ hs
        back [] = refl
        back (h ∷ hs) = ap (λ ys. h ∷ ys) (back hs)

    pub long-of : length ds ≡ n
    long-of = ap length are ∙ length-map (take n rows) (doomed_of s.cells) ∙ length-take-le n rows few_out

    filled-same : (low high : List Mark) → filled_at ds fillers low edge high s ≡ filled_by r fillers n low edge high s
    filled-same low high = rw (handles-of, long-of) refl

    count-same : (bound : ℕ) → doomed_below bound ds ≡ count_under (key_at s.cells) bound (take n rows)
    count-same bound = ap (doomed_below bound) are ∙ same (take n rows)
      where
        same : (hs : List Handle) → doomed_below bound (map (doomed_of s.cells) hs) ≡ count_under (key_at s.cells) bound hs
        same [] = refl
        same (h ∷ hs) = ap (λ k. cond (nat_lt (key_at s.cells h) bound) 1 0 + k) (same hs)

    falls-same : (ms : List Mark) → map (fallen_by (key_at s.cells) (take n rows)) ms ≡ map (λ (m : Mark). record m { position = m.position - doomed_below m.bound.0 ds }) ms
    falls-same [] = refl
    falls-same (m ∷ ms) = rw (count-same m.bound.0, falls-same ms) refl

    buried-so : (hs : List Handle) (cells : List (Cell Row)) (out : List Handle) → Bulk hs cells out → AreBuried hs cells out
    buried-so [] cells out can = tt
    buried-so (h ∷ hs) cells out can = (can.0, can.1, can.2, buried-so hs _ _ can.3)

    all-in : (hs : List Handle) → All (λ h. IsIn r (key_at s.cells h)) (inside_of s.cells r hs)
    all-in [] = All-nil (λ h. IsIn r (key_at s.cells h))
    all-in (h ∷ hs) = elim (inside_or r (key_at s.cells h)) [
      | inl is ↦ rw (is_in-true r (key_at s.cells h) is) (All-cons (λ g. IsIn r (key_at s.cells g)) h (inside_of s.cells r hs) is (all-in hs))
      | inr beyond ↦ rw (is_in-false r (key_at s.cells h) beyond) (all-in hs)
    ]

    pub CanBeFilled-in : CanBeFilled ds fillers edge s
    CanBeFilled-in =
        let i : ℕ = next.there.0 in
        let low : List Mark = take i s.marks in
        let high : List Mark = drop (i + 1) s.marks in
        let there : get_or s.marks i edge ≡ edge = get_or_default s.marks i edge _ next.there.1 ∙ next.there.2 in
        let split : s.marks ≡ low ++ edge ∷ high = sym (take-append-drop i s.marks) ∙ ap (λ ms. low ++ ms) (drop_more s.marks i edge next.there.1 ∙ ap (λ m. m ∷ high) there) in
        let so = filled-so n low high split few_out few_in in
        record {
          low = low;
          high = high;
          marks_are = split;
          are = are ∙ ap (map (doomed_of s.cells)) (sym handles-of);
          under = rw handles-of (λ k d h. omega (arith, (All-take (λ g. IsIn r (key_at s.cells g)) n rows (all-in s.pending_out) k d h).1, behind, next.same));
          enough = omega (arith, long-of, few_in);
          intact = rw (filled-same low high) so.intact;
          marks = rw handles-of (so.fallen_are ∙ falls-same low);
          few = λ k e h. rw (count-same (get_or low k e).bound.0) (so.few k e h);
          long = rw handles-of (omega (arith, so.long, long-of));
          buried = rw handles-of (buried-so (take n rows) s.cells s.pending_out so.buried);
        }

    -- they were pulled
    pub IsFilled-as : (t : State) → n ≡ min (length rows) (length fills) → FillsAs ds fillers edge s t → IsFilled r fillers s t
    IsFilled-as t count_is so = record {
      low = so.low;
      edge = edge;
      high = so.high;
      marks_are = so.marks_are;
      edge_is = next.same;
      beyond = beyond-all so.low so.high so.marks_are;
      count = n;
      count_is = count_is;
      after = so.after ∙ filled-same so.low so.high;
    }

    pub live-filled : (t : State) → FillsAs ds fillers edge s t → live_rows t ≡ live_rows s
    live-filled t so = ap live_rows (so.after ∙ filled-same so.low so.high) ∙ (filled-so n so.low so.high so.marks_are few_out few_in).live
