-- The store after a walk over the bounds from the lowest up, on which doomed rows are pulled out of the pieces.
use Rattle.std.proofs.Common.{◌≡◌, ℕ, zero, suc, ◌+◌, ◌-◌, ◌≤◌, Bool, cond, min, max, nat_lt, nat_eq, List, [], ◌∷◌, ◌++◌, map, length, take, drop, get_or, set, Option, Some, None, refl, sym, ap, ◌∙◌, inl, inr, arith}
use Rattle.std.specs.List.{All, between}
use Rattle.std.proofs.Math.Nat.{min-eq_left}
use Rattle.std.proofs.Math.Seq.{take-add}
use Rattle.std.proofs.lemmas.Bool.{le-ltb, cases_eq, cases_lt, cases_Bool, true≢false}
use Rattle.std.proofs.lemmas.List.{append_assoc, drop-drop, take_all, length-drop, length-map, length-take-le, length-set, set_past, get_or-set_same}
use Rattle.std.proofs.lemmas.List.Elements.{All-head, All-tail}
use Rattle.crack_row.specs.declared.InnerBound.{InnerBound}
use Rattle.crack_row.specs.declared.Row.{Row}
use Rattle.crack_arena.specs.Arena.{Cell, Handle, read, cell_at, empty_cell}
use Rattle.crack_arena.specs.Rows.{key_at}
use Rattle.crack_column.specs.declared.draining.Doomed.{Doomed}
use Rattle.crack_arena.specs.Memories.{Memory, Remembers}
use Rattle.crack_column.specs.Column.{StillRemembers}
use Rattle.crack_column.specs.Drains.{doomed_below, doomed_key, doomed_handle, drained_once, drained, drawn_once, drawn, is_under, left_drained}
use Rattle.crack_arena.proofs.Remembering.{Remembers-take}
use Rattle.crack_index.specs.declared.mark.Mark.{Mark}
use Rattle.crack_index.specs.Marks.{Rising}
use Rattle.crack_index.specs.Places.{Places, at_place}
use Rattle.crack_state.specs.State.{State, Reads, IsIntact, greatest}
use Rattle.crack_state.specs.Steps.{buried}
use Rattle.crack_state.proofs.CellLaws.{AgreeOff-set, read-off}
use Rattle.crack_state.specs.Pieces.{Pieces, column_of, marks_of, cut}
use Rattle.crack_state.specs.Carried.{pieces_of, inside_of}
use Rattle.crack_state.specs.Pulled.{any_doomed, ends_above, pulled, all_drawn, itself, pulled_by, buried_all}
use Rattle.crack_state.proofs.SiftedLaws.{min_and}
use Rattle.crack_state.proofs.AllPulledLaws.{IsDrained-in_bulk}
use Rattle.crack_state.proofs.FallLaws.{AreBuried as Bulk, count_under, fallen_by, AreCounted-in_bulk}
use Rattle.crack_row.specs.Ranges.{Range}
use Rattle.crack_store.specs.declared.draining.Drain.{Drain}
use Rattle.crack_store.specs.Drainings.{doomed_of, IsDrainReady, DrainPasses, Empties, IsDrainedTo, AreBuried, CanBePulled}

-- a list up to a place, and on to a later one
up-to : (a b : ℕ) (hs : List Handle) → a ≤ b → take b hs ≡ take a hs ++ between a b hs
up-to a b hs order =
    let both : b ≡ a + (b - a) = omega (arith, order) in
    ap (λ n. take n hs) both ∙ take-add a (b - a) hs

module _ (cells : List (Cell Row)) (hs : List Handle) where
  abbrev pub key : Handle → ℕ
  key = key_at cells

  abbrev pub ds : List Doomed
  ds = map (doomed_of cells) hs

  -- doomed rows have the effect of their handles
  pub map-drained : (low : ℕ) (high : Option InnerBound) (own : Handle → Bool) → ((h : Handle) → is_under high (key h) ≡ own h) → (gs rows : List Handle) → (left_drained low high (map (doomed_of cells) gs) rows ≡ drained key itself low own gs rows) × (drawn doomed_key doomed_handle low (λ d. is_under high d.key) (map (doomed_of cells) gs) rows ≡ drawn key itself low own gs rows)
  map-drained low high own owns [] rows = (refl, refl)
  map-drained low high own owns (g ∷ gs) rows =
      let d = doomed_of cells g in
      let once : drained_once doomed_key doomed_handle low (λ e. is_under high e.key) d rows ≡ drained_once key itself low own g rows = rw (owns g) refl in
      let count : drawn_once doomed_key doomed_handle low (λ e. is_under high e.key) d rows ≡ drawn_once key itself low own g rows = rw (owns g) refl in
      let rest = map-drained low high own owns gs (drained_once key itself low own g rows) in
      (ap (left_drained low high (map (doomed_of cells) gs)) once ∙ rest.0, rw (once, count) (ap (λ n. drawn_once key itself low own g rows + n) rest.1))

  -- a bound falls by as many as are below it
  abbrev pub fall : Mark → Mark
  fall m = record m { position = m.position - doomed_below m.bound.0 ds }

  -- the rows before the gap, and those from the next piece on
  pub record At (v : Drain) (front rows : List Handle) : Type 0 where
    pub ready : IsDrainReady v
    pub doomed_are : v.doomed.items ≡ ds
    pub counted : doomed_below v.low ds ≡ v.gap
    pub front_is : take (v.from - v.gap) v.column.handles ≡ front
    pub rows_is : drop v.from v.column.handles ≡ rows
    pub small : v.pulled ≤ greatest

  abbrev pub left_of : Drain → List Mark → List Handle → Pieces Handle
  left_of v ms rows = pulled key itself v.low hs (cut v.from ms rows)

  -- the bound of the last mark, and its place; before any, those from which the walk came
  abbrev pub last_low : ℕ → List Mark → ℕ
  last_low low [] = low
  last_low low (m ∷ ms) = last_low m.bound.0 ms

  abbrev pub last_from : ℕ → List Mark → ℕ
  last_from from [] = from
  last_from from (m ∷ ms) = last_from m.position ms

  -- at the walk's end
  pub record IsThrough (v w : Drain) (front rows : List Handle) (ms ms' : List Mark) (end : ℕ) : Type 0 where
    pub marks_are : ms' ≡ map fall ms
    pub front' : List Handle
    pub rows' : List Handle
    pub at : At w front' rows'
    pub whole : front ++ column_of (left_of v ms rows) ≡ front' ++ drained key itself w.low (any_doomed key itself) hs rows'
    pub made : ℕ
    pub pulled_is : w.pulled ≡ min (v.pulled + made) greatest
    pub total : made + drawn key itself w.low (any_doomed key itself) hs rows' ≡ all_drawn key itself v.low hs (cut v.from ms rows)
    pub long : length w.column.handles ≡ length v.column.handles
    pub room : w.column.room ≡ v.column.room
    pub remembered : StillRemembers v.column w.column
    pub low_is : w.low ≡ last_low v.low ms
    pub from_is : w.from ≡ last_from v.from ms
    pub on : v.from ≤ w.from
    pub behind : drop w.from w.column.handles ≡ drop w.from v.column.handles
    pub stop : end ≤ w.from - w.gap

  -- one bound is passed
  record IsOn (v y : Drain) (m : Mark) (ns : List Mark) (front rows : List Handle) (end made : ℕ) : Type 0 where
    at : At y (front ++ drained key itself v.low (ends_above key itself m.bound) hs (take (m.position - v.from) rows)) (drop (m.position - v.from) rows)
    falls : end ≡ m.position - doomed_below m.bound.0 ds
    start : y.from - y.gap ≡ end
    rest : marks_of end (pulled key itself m.bound.0 hs (cut m.position ns (drop (m.position - v.from) rows))) ≡ map fall ns
    drew : made ≡ drawn key itself v.low (ends_above key itself m.bound) hs (take (m.position - v.from) rows)

  passed : (v y : Drain) (m : Mark) (ns : List Mark) (front rows : List Handle) (end : ℕ) (p : DrainPasses v m end y) → At v front rows → v.from ≤ m.position → m.position ≤ length v.column.handles → doomed_below m.bound.0 ds ≤ m.position → marks_of (v.from - v.gap) (left_of v (m ∷ ns) rows) ≡ map fall (m ∷ ns) → IsOn v y m ns front rows end p.made
  passed v y m ns front rows end p at from to few marks =
      let D = p.drains (ap (doomed_below v.low) at.doomed_are ∙ at.counted) in
      let start : ℕ = v.from - v.gap in
      let own : Handle → Bool = ends_above key itself m.bound in
      let mine : List Handle = take (m.position - v.from) rows in
      let piece : List Handle = drained key itself v.low own hs mine in
      let here : between v.from m.position v.column.handles ≡ mine = ap (take (m.position - v.from)) at.rows_is in
      let mapped = map-drained v.low (Some m.bound) own (λ h. refl) hs mine in
      let left_is : left_drained v.low (Some m.bound) v.doomed.items (between v.from m.position v.column.handles) ≡ piece = ap (λ es. left_drained v.low (Some m.bound) es (between v.from m.position v.column.handles)) at.doomed_are ∙ ap (left_drained v.low (Some m.bound) ds) here ∙ mapped.0 in
      let ends : end ≡ start + length piece = D.end_is ∙ ap (λ ys. start + length ys) left_is in
      let Q : Pieces Handle = pulled key itself m.bound.0 hs (cut m.position ns (drop (m.position - v.from) rows)) in
      let head : start + length piece ≡ m.position - doomed_below m.bound.0 ds = ap (λ ms. (get_or ms 0 m).position) marks in
      let tail : marks_of (start + length piece) Q ≡ map fall ns = ap (drop 1) marks in
      let split = up-to start end y.column.handles p.from_end in
      let before : take start y.column.handles ≡ front = D.front ∙ at.front_is in
      let between_is : between start end y.column.handles ≡ piece = D.piece ∙ left_is in
      let on : v.from + (m.position - v.from) ≡ m.position = omega (arith, from) in
      let gap : y.from - y.gap ≡ end = omega (arith, p.from_is, p.gap_is, p.to_end) in
      let drawn_is : p.made ≡ drawn key itself v.low own hs mine = D.pulled_is ∙ ap (λ es. drawn doomed_key doomed_handle v.low (λ d. is_under (Some m.bound) d.key) es (between v.from m.position v.column.handles)) at.doomed_are ∙ ap (drawn doomed_key doomed_handle v.low (λ d. is_under (Some m.bound) d.key) ds) here ∙ mapped.1 in
      record {
        at = record {
          ready = record { gap = omega (arith, p.from_is, p.gap_is); within = omega (arith, p.from_is, p.long, to) };
          doomed_are = ap (λ d. d.items) p.doomed_are ∙ at.doomed_are;
          counted = ap (λ n. doomed_below n ds) p.low_is ∙ omega (arith, p.gap_is, ends, head, few);
          front_is = ap (λ n. take n y.column.handles) gap ∙ split ∙ rw (before, between_is) refl;
          rows_is = ap (λ n. drop n y.column.handles) p.from_is ∙ D.behind ∙ ap (λ n. drop n v.column.handles) (sym on) ∙ sym (drop-drop (m.position - v.from) v.from v.column.handles) ∙ ap (drop (m.position - v.from)) at.rows_is;
          small = omega (arith, p.pulled_is);
        };
        falls = ends ∙ head;
        start = gap;
        rest = ap (λ n. marks_of n Q) ends ∙ tail;
        drew = drawn_is;
      }

  pub through : (ms : List Mark) (least end : ℕ) (ms' : List Mark) (v w : Drain) (front rows : List Handle) → At v front rows → least ≤ v.from - v.gap → All (λ m. (v.from ≤ m.position) × (m.position ≤ length v.column.handles)) ms → Rising ms → All (λ m. doomed_below m.bound.0 ds ≤ m.position) ms → marks_of (v.from - v.gap) (left_of v ms rows) ≡ map fall ms → Places Empties least ms v ms' w end → IsThrough v w front rows ms ms' end
  through ms least end ms' v w front rows at low inside rising few marks (Places.done n x) =
      let none : min (x.pulled + 0) greatest ≡ x.pulled = min-eq_left (omega (arith, at.small)) ∙ omega arith in
      record {
        marks_are = refl;
        front' = front;
        rows' = rows;
        at = at;
        whole = refl;
        made = 0;
        pulled_is = sym none;
        total = omega arith;
        long = refl;
        room = refl;
        remembered = λ c known. known;
        low_is = refl;
        from_is = refl;
        on = omega arith;
        behind = refl;
        stop = low;
      }
  through ms least end ms' v w front rows at low inside rising few marks (Places.goes_on n place l m ns ns' x y z told rest) =
      let b = All-head (λ k. (x.from ≤ k.position) × (k.position ≤ length x.column.handles)) m ns inside in
      let p = told b.0 b.1 in
      let one = passed x y m ns front rows place p at b.0 b.1 (All-head (λ k. doomed_below k.bound.0 ds ≤ k.position) m ns few) marks in
      let clamp : max place n ≡ place = omega (arith, p.from_end, low) in
      let inside_on : All (λ k. (y.from ≤ k.position) × (k.position ≤ length y.column.handles)) ns = λ k e h.
      let order = rising zero (suc k) e (omega arith) (omega (arith, h)) in
      let was = All-tail (λ j. (x.from ≤ j.position) × (j.position ≤ length x.column.handles)) m ns inside k e h in
      (omega (arith, order.positions, p.from_is), omega (arith, was.1, p.long)) in
      let rising_on : Rising ns = λ i j e h k. rising (suc i) (suc j) e (omega (arith, h)) (omega (arith, k)) in
      let few_on = All-tail (λ k. doomed_below k.bound.0 ds ≤ k.position) m ns few in
      let behind : List Handle = drop (m.position - x.from) rows in
      let piece : List Handle = drained key itself x.low (ends_above key itself m.bound) hs (take (m.position - x.from) rows) in
      let marks_on : marks_of (y.from - y.gap) (left_of y ns behind) ≡ map fall ns = rw (one.start, p.low_is, p.from_is) one.rest in
      let all = through ns (max place n) l ns' y z (front ++ piece) behind one.at (omega (arith, clamp, one.start)) inside_on rising_on few_on marks_on rest in
      let left_is : left_of y ns behind ≡ pulled key itself m.bound.0 hs (cut m.position ns behind) = rw (p.low_is, p.from_is) refl in
      let drawn_is : all_drawn key itself y.low hs (cut y.from ns behind) ≡ all_drawn key itself m.bound.0 hs (cut m.position ns behind) = rw (p.low_is, p.from_is) refl in
      let top : at_place (max place n) m ≡ fall m = ap (λ k. at_place k m) (clamp ∙ one.falls) in
      record {
        marks_are = rw (top, all.marks_are) refl;
        front' = all.front';
        rows' = all.rows';
        at = all.at;
        whole = sym (append_assoc front piece (column_of (pulled key itself m.bound.0 hs (cut m.position ns behind)))) ∙ ap (λ q. (front ++ piece) ++ column_of q) (sym left_is) ∙ all.whole;
        made = p.made + all.made;
        pulled_is = all.pulled_is ∙ ap (λ k. min (k + all.made) greatest) p.pulled_is ∙ min_and x.pulled p.made all.made;
        total = omega (arith, all.total, drawn_is, one.drew);
        long = all.long ∙ p.long;
        room = all.room ∙ p.room;
        remembered = λ c known. all.remembered c (p.remembered c known);
        low_is = all.low_is ∙ ap (λ n. last_low n ns) p.low_is;
        from_is = all.from_is ∙ ap (λ n. last_from n ns) p.from_is;
        on = omega (arith, b.0, p.from_is, all.on);
        behind = all.behind ∙ later y.column.handles x.column.handles m.position z.from (omega (arith, p.from_is, all.on)) (p.drains (ap (doomed_below x.low) at.doomed_are ∙ at.counted)).behind;
        stop = all.stop;
      }
    where
      -- lists that are the same from a place on are the same from a later one on
      later : (xs ys : List Handle) (n k : ℕ) → n ≤ k → drop n xs ≡ drop n ys → drop k xs ≡ drop k ys
      later xs ys n k order same =
          let both : n + (k - n) ≡ k = omega (arith, order) in
          rw both at (sym (drop-drop (k - n) n xs) ∙ ap (drop (k - n)) same ∙ drop-drop (k - n) n ys)

-- The whole

module _ (s : State) (ds : List Doomed) (intact : IsIntact s []) (can : CanBePulled ds s) where
  abbrev gs : List Handle
  gs = map doomed_handle ds

  abbrev after : Pieces Handle
  after = pulled (key_at s.cells) itself 0 gs (pieces_of s)

  -- the store before they are buried
  abbrev unburied : State
  unburied = record s {
    column = column_of after;
    marks = marks_of 0 after;
    tally = pulled_by (all_drawn (key_at s.cells) itself 0 gs (pieces_of s)) s.tally;
    column_room = s.column_room + length gs;
  }

  -- the store after all were pulled
  pub record IsPulled (ms' : List Mark) (z : Drain) : Type 0 where
    pub column_is : z.column.handles ≡ column_of after
    pub marks_are : ms' ≡ marks_of 0 after
    pub pulled_is : z.pulled ≡ min (s.tally.pulled + all_drawn (key_at s.cells) itself 0 gs (pieces_of s)) greatest
    pub room_is : z.column.room ≡ s.column_room + length gs
    pub doomed_are : z.doomed.items ≡ ds
    pub remembers : Remembers s.cells z.column.handles z.column.remembered

  buried-column : (hs : List Handle) (t : State) → ((buried_all hs t).column ≡ t.column) × ((buried_all hs t).marks ≡ t.marks)
  buried-column [] t = (refl, refl)
  buried-column (h ∷ hs) t = buried-column hs _

  pub pulled-whole : (end : ℕ) (ms' : List Mark) (v w z : Drain) → v.column.handles ≡ s.column → v.column.room ≡ s.column_room → v.doomed.items ≡ ds → v.low ≡ 0 → v.from ≡ 0 → v.gap ≡ 0 → v.pulled ≡ s.tally.pulled → Remembers s.cells v.column.handles v.column.remembered → Places Empties 0 s.marks v ms' w end → IsDrainedTo w z → IsPulled ms' z
  pulled-whole end ms' v w z column_is room_is doomed_is low_is from_is gap_is tally_is remembers placed last_one =
      let key = key_at s.cells in
      let ms = s.marks in
      let same : ds ≡ map (doomed_of s.cells) gs = can.are in
      let none_below : (es : List Doomed) → doomed_below 0 es ≡ 0 = no_one in
      let start : v.from - v.gap ≡ 0 = omega (arith, from_is, gap_is) in
      let at : At s.cells gs v [] s.column = record {
        ready = record { gap = omega (arith, from_is, gap_is); within = omega (arith, from_is) };
        doomed_are = doomed_is ∙ same;
        counted = ap (λ n. doomed_below n (map (doomed_of s.cells) gs)) low_is ∙ none_below (map (doomed_of s.cells) gs) ∙ sym gap_is;
        front_is = ap (λ n. take n v.column.handles) start;
        rows_is = ap (λ n. drop n v.column.handles) from_is ∙ column_is;
        small = omega (arith, tally_is, intact.counted.pulled);
      } in
      let falls : marks_of 0 after ≡ map (λ (m : Mark). record m { position = m.position - doomed_below m.bound.0 ds }) ms = sym (buried-column gs unburied).1 ∙ can.marks in
      let falls_too : marks_of (v.from - v.gap) (left_of s.cells gs v ms s.column) ≡ map (fall s.cells gs) ms = rw (start, low_is, from_is) (falls ∙ ap (λ es. map (λ (m : Mark). record m { position = m.position - doomed_below m.bound.0 es }) ms) same) in
      let few : All (λ m. doomed_below m.bound.0 (map (doomed_of s.cells) gs) ≤ m.position) ms = λ k e h. rw (← same) (can.few k e h) in
      let inside : All (λ m. (v.from ≤ m.position) × (m.position ≤ length v.column.handles)) ms = λ k e h. (omega (arith, from_is), omega (arith, (intact.obeyed k e h).within, length-map s.column key, ap length column_is)) in
      let all = through s.cells gs ms 0 end ms' v w [] s.column at (omega arith) inside intact.rising few falls_too placed in
      let D = last_one.drains (ap (doomed_below w.low) all.at.doomed_are ∙ all.at.counted) in
      let own : Handle → Bool = any_doomed key itself in
      let rest : between w.from (length w.column.handles) w.column.handles ≡ all.rows' = ap (λ ys. take (length w.column.handles - w.from) ys) all.at.rows_is ∙ take_all (length w.column.handles - w.from) all.rows' (omega (arith, ap length all.at.rows_is, length-drop w.from w.column.handles)) in
      let mapped = map-drained s.cells gs w.low None own (λ h. refl) gs all.rows' in
      let left_is : left_drained w.low None w.doomed.items (between w.from (length w.column.handles) w.column.handles) ≡ drained key itself w.low own gs all.rows' = ap (λ es. left_drained w.low None es (between w.from (length w.column.handles) w.column.handles)) all.at.doomed_are ∙ ap (left_drained w.low None (map (doomed_of s.cells) gs)) rest ∙ mapped.0 in
      let drew : last_one.made ≡ drawn key itself w.low own gs all.rows' = D.pulled_is ∙ ap (λ es. drawn doomed_key doomed_handle w.low (λ d. is_under None d.key) es (between w.from (length w.column.handles) w.column.handles)) all.at.doomed_are ∙ ap (drawn doomed_key doomed_handle w.low (λ d. is_under None d.key) (map (doomed_of s.cells) gs)) rest ∙ mapped.1 in
      let ends : last_one.end ≡ (w.from - w.gap) + length (drained key itself w.low own gs all.rows') = D.end_is ∙ ap (λ ys. (w.from - w.gap) + length ys) left_is in
      let after_is : after ≡ left_of s.cells gs v ms s.column = rw (low_is, from_is) refl in
      let all_is : all_drawn key itself v.low gs (cut v.from ms s.column) ≡ all_drawn key itself 0 gs (pieces_of s) = rw (low_is, from_is) refl in
      let whole : column_of after ≡ all.front' ++ drained key itself w.low own gs all.rows' = ap column_of after_is ∙ all.whole in
      let handles : z.column.handles ≡ column_of after =
      last_one.short.handles_are ∙ up-to (w.from - w.gap) last_one.end last_one.drained.handles (omega (arith, ends)) ∙ rw (D.front, D.piece, all.at.front_is, left_is) refl ∙ sym whole in
      let shorter : length (column_of after) + length ds ≡ length s.column = omega (arith, ap length (buried-column gs unburied).0, can.long) in
      let kept = last_one.remembered s.cells (all.remembered s.cells remembers) in
      let short = Remembers-take s.cells last_one.drained.handles last_one.drained.remembered last_one.end (omega (arith, last_one.long, last_one.within)) kept in
      let size : length z.column.handles ≡ last_one.end = ap length last_one.short.handles_are ∙ length-take-le last_one.end last_one.drained.handles (omega (arith, last_one.long, last_one.within)) in
      let total : all.made + last_one.made ≡ all_drawn key itself 0 gs (pieces_of s) = omega (arith, all.total, drew, all_is) in
      record {
        column_is = handles;
        marks_are = all.marks_are ∙ sym (falls ∙ ap (λ es. map (λ (m : Mark). record m { position = m.position - doomed_below m.bound.0 es }) ms) same);
        pulled_is = last_one.pulled_is ∙ ap (λ k. min (k + last_one.made) greatest) all.pulled_is ∙ min_and v.pulled all.made last_one.made ∙ ap (λ k. min (v.pulled + k) greatest) total ∙ ap (λ k. min (k + all_drawn key itself 0 gs (pieces_of s)) greatest) tally_is;
        room_is = omega (arith, last_one.short.room_is, last_one.room, last_one.long, all.room, all.long, room_is, ap length column_is, size, ap length handles, shorter, length-map ds doomed_handle);
        doomed_are = ap (λ d. d.items) last_one.doomed_are ∙ all.at.doomed_are ∙ sym same;
        remembers = rw (last_one.short.handles_are, last_one.short.remembered_are) short;
      }
    where
      no_one : (es : List Doomed) → doomed_below 0 es ≡ 0
      no_one [] = refl
      no_one (e ∷ es) = rw (le-ltb e.key 0 (omega arith)) (omega (arith, no_one es))

-- Handles that still read a row read the row that they read before

buried-read : (hs : List Handle) (t : State) (h : Handle) → Reads (buried_all hs t).cells h → read (buried_all hs t).cells h ≡ read t.cells h
buried-read [] t h reads = refl
buried-read (g ∷ gs) t h reads =
    let u : State = buried (record { store = t; hand = g }) in
    let rest = buried-read gs u h reads in
    let some : Reads u.cells h = rw rest at reads in
    rest ∙ one some
  where
    spent : Cell Row
    spent = record { generation = g.generation + 1; value = None }

    one : Reads (set t.cells g.slot spent) h → read (set t.cells g.slot spent) h ≡ read t.cells h
    one some = elim (cases_eq h.slot g.slot) [
      | inr ne ↦ read-off g.slot t.cells (set t.cells g.slot spent) h (AgreeOff-set t.cells g.slot spent) ne
      | inl e ↦ elim (cases_lt g.slot (length t.cells)) [
        | inl within ↦
            let there : cell_at (set t.cells g.slot spent) h.slot ≡ spent = ap (λ n. get_or (set t.cells g.slot spent) n empty_cell) e ∙ get_or-set_same t.cells g.slot spent empty_cell within in
            let gone : read (set t.cells g.slot spent) h ≡ None = rw there (elim (cases_Bool (nat_eq (g.generation + 1) h.generation)) [
              | inl is ↦ rw is refl
              | inr isnt ↦ rw isnt refl
            ]) in
            absurd (true≢false (sym (rw gone at some)))
        | inr past ↦ ap (λ (cs : List (Cell Row)). read cs h) (set_past t.cells g.slot spent past)
      ]
    ]

pub buried-length : (hs : List Handle) (t : State) → length (buried_all hs t).cells ≡ length t.cells
buried-length [] t = refl
buried-length (g ∷ gs) t = buried-length gs (buried (record { store = t; hand = g })) ∙ length-set t.cells g.slot (record { generation = g.generation + 1; value = None })

pub Remembers-buried : (hs : List Handle) (t : State) (rows : List Handle) (ms : List Memory) → All (Reads (buried_all hs t).cells) rows → Remembers t.cells rows ms → Remembers (buried_all hs t).cells rows ms
Remembers-buried hs t rows ms reads r = record {
  beside = r.beside;
  right = λ k d l. rw (buried-read hs t (get_or rows k d) (reads k d l)) (r.right k d l);
}

-- The doomed rows of a range can be pulled

module _ (r : Range) (s : State) (ds : List Doomed) (intact : IsIntact s []) (are : ds ≡ map (doomed_of s.cells) (inside_of s.cells r s.pending_out)) where
  abbrev rows : List Handle
  rows = inside_of s.cells r s.pending_out

  pub handles-of : map doomed_handle ds ≡ rows
  handles-of = ap (map doomed_handle) are ∙ back rows
    where
      back : (hs : List Handle) → map doomed_handle (map (doomed_of s.cells) hs) ≡ hs
      back [] = refl
      back (h ∷ hs) = ap (λ ys. h ∷ ys) (back hs)

  count-same : (bound : ℕ) → doomed_below bound ds ≡ count_under (key_at s.cells) bound rows
  count-same bound = ap (doomed_below bound) are ∙ same rows
    where
      same : (hs : List Handle) → doomed_below bound (map (doomed_of s.cells) hs) ≡ count_under (key_at s.cells) bound hs
      same [] = refl
      same (h ∷ hs) = ap (λ n. cond (nat_lt (key_at s.cells h) bound) 1 0 + n) (same hs)

  falls-same : (ms : List Mark) → map (fallen_by (key_at s.cells) rows) ms ≡ map (λ (m : Mark). record m { position = m.position - doomed_below m.bound.0 ds }) ms
  falls-same [] = refl
  falls-same (m ∷ ms) = rw (count-same m.bound.0, falls-same ms) refl

  buried-same : (hs : List Handle) (cells : List (Cell Row)) (out : List Handle) → Bulk hs cells out → AreBuried hs cells out
  buried-same [] cells out can = tt
  buried-same (h ∷ hs) cells out can = (can.0, can.1, can.2, buried-same hs _ _ can.3)

  pub CanBePulled-in : CanBePulled ds s
  CanBePulled-in =
      let counted = AreCounted-in_bulk r s intact in
      let left = IsDrained-in_bulk r s intact in
      let long : length ds ≡ length rows = ap length are ∙ length-map rows (doomed_of s.cells) in
      record {
        are = are ∙ ap (map (doomed_of s.cells)) (sym handles-of);
        intact = rw handles-of left.intact;
        marks = rw handles-of (counted.marks ∙ falls-same s.marks);
        few = λ k e h. rw (count-same (get_or s.marks k e).bound.0) (counted.few k e h);
        long = rw handles-of (omega (arith, counted.long, long));
        buried = rw handles-of (buried-same rows s.cells s.pending_out counted.buried);
      }
