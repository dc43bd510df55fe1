-- A column into which rows came, and its bounds, after a walk over the bounds from the highest down.
use Rattle.std.proofs.Common.{◌≡◌, ℕ, zero, suc, ◌+◌, ◌-◌, ◌≤◌, false, min, List, [], ◌∷◌, ◌++◌, map, length, take, drop, reverse, Some, None, refl, sym, ap, ◌∙◌, arith}
use Rattle.std.specs.Prelude.{All, AllPairs}
use Rattle.std.specs.List.{between}
use Rattle.std.proofs.Math.Nat.{min-eq_left}
use Rattle.std.proofs.lemmas.List.{append_assoc, append-nil, take-append-drop, drop-drop, drop-take, take-append-le, take_all, length-take-le, length-append, map-append, reverse-append, reverse-reverse, length-reverse, get_or-reverse}
use Rattle.std.proofs.lemmas.List.Elements.{All-head, All-tail}
use Rattle.std.proofs.Math.Seq.{drop-append_seam}
use Rattle.crack_row.specs.Ranges.{Range}
use Rattle.crack_row.specs.declared.Row.{Row}
use Rattle.crack_arena.specs.Arena.{Cell, Handle}
use Rattle.crack_arena.specs.Rows.{key_at, keys_at}
use Rattle.crack_arena.specs.Memories.{Remembers}
use Rattle.crack_column.specs.Sifts.{below_bound, queued, made_way, AreRead}
use Rattle.crack_index.specs.declared.mark.Mark.{Mark}
use Rattle.crack_index.specs.Marks.{InOrder, Rising}
use Rattle.crack_index.specs.Raises.{Raises, higher}
use Rattle.crack_pending.specs.Pending.{Finds}
use Rattle.crack_state.specs.State.{State, IsIntact, greatest}
use Rattle.crack_state.specs.Steps.{SameButRoom}
use Rattle.crack_state.proofs.StepLaws.{IsIntact-room}
use Rattle.crack_state.specs.Carried.{inside_of, carried_in_bulk, pieces_of}
use Rattle.crack_state.proofs.Carried.{carried_by_sifting}
use Rattle.crack_state.proofs.Sifts.{all_made_way, count_below, risen}
use Rattle.crack_state.proofs.SiftLaws.{count-below_bound}
use Rattle.crack_state.proofs.SiftedLaws.{GoThrough, carried-sifting, min_and}
use Rattle.crack_state.proofs.StepsDown.{sifted_from, made_way_from, queued-lowest, made_way-lowest, sifted_from-none, made_way_from-none, sifted_down-is}
use Rattle.crack_state.proofs.AllCarriedLaws.{IsKept, IsKept-in_bulk}
use Rattle.crack_state.proofs.ClearLaws.{OfMet-clear}
use Rattle.crack_store.specs.declared.sifting.Sieve.{Sieve}
use Rattle.crack_store.specs.Sieves.{AreClear, SievePasses, SieveRises}

-- Parts of lists

-- the element at each place of three lists, one after another
three : {X : Type 0} (front lower rest : List X) (a b : ℕ) → length front ≡ a → length lower ≡ b → (take a (front ++ (lower ++ rest)) ≡ front) × (between a (a + b) (front ++ (lower ++ rest)) ≡ lower) × (drop (a + b) (front ++ (lower ++ rest)) ≡ rest)
three front lower rest a b is_front is_lower =
    let all = front ++ (lower ++ rest) in
    let behind : drop a all ≡ lower ++ rest = ap (λ n. drop n all) (sym is_front) ∙ drop-append_seam front (lower ++ rest) in
    let count : a + b - a ≡ length lower = omega (arith, is_lower) in
    let first : take a all ≡ front = ap (λ n. take n all) (sym is_front) ∙ take-append-le (length front) front (lower ++ rest) (omega arith) ∙ take_all (length front) front (omega arith) in
    let middle : between a (a + b) all ≡ lower = ap (take (a + b - a)) behind ∙ ap (λ n. take n (lower ++ rest)) count ∙ take-append-le (length lower) lower rest (omega arith) ∙ take_all (length lower) lower (omega arith) in
    let swap : a + b ≡ b + a = omega arith in
    let back : drop (a + b) all ≡ rest = sym (drop-drop b a all) ∙ ap (drop b) behind ∙ ap (λ n. drop n (lower ++ rest)) (sym is_lower) ∙ drop-append_seam lower rest in
    (first, middle, back)

-- the first rows, those up to a place, and the others
parts : {X : Type 0} (xs : List X) (from to : ℕ) → from ≤ to → xs ≡ (take from xs ++ between from to xs) ++ drop to xs
parts xs from to order =
    let on : from + (to - from) ≡ to = omega arith in
    let rest : between from to xs ++ drop to xs ≡ drop from xs = ap (λ ys. between from to xs ++ ys) (ap (λ n. drop n xs) (sym on) ∙ sym (drop-drop (to - from) from xs)) ∙ take-append-drop (to - from) (drop from xs) in
    sym (append_assoc (take from xs) (between from to xs) (drop to xs) ∙ ap (λ ys. take from xs ++ ys) rest ∙ take-append-drop from xs)

take_less : {X : Type 0} (i n : ℕ) (xs : List X) → i ≤ n → take i (take n xs) ≡ take i xs
take_less zero n xs few = refl
take_less (suc i) zero xs few = absurd (omega arith)
take_less (suc i) (suc n) [] few = refl
take_less (suc i) (suc n) (x ∷ xs) few = ap (λ ys. x ∷ ys) (take_less i n xs (omega arith))

drop_between : {X : Type 0} (xs : List X) (from to : ℕ) → from ≤ to → drop from (take to xs) ≡ between from to xs
drop_between xs from to order =
    let on : to ≡ from + (to - from) = omega arith in
    ap (λ n. drop from (take n xs)) on ∙ drop-take from (to - from) xs

-- The walk

-- if no bound may rise
nothing-rises : (most last : ℕ) (ms ms' : List Mark) (v w : Sieve) → most ≡ 0 → Raises SieveRises most ms v ms' w last → (ms' ≡ ms) × (w ≡ v)
nothing-rises most last ms ms' v w none (Raises.done m x) = (refl, refl)
nothing-rises most last ms ms' v w none (Raises.stays m ns ns' x y l on) =
    let rest = nothing-rises 0 l ns ns' x y refl on in
    (ap (λ ks. m ∷ ks) rest.0, rest.1)
nothing-rises most last ms ms' v w none (Raises.goes_on n rise l m ns ns' x y z some told on) = absurd (omega (arith, some, none))

-- the marks, the highest first
abbrev pub Falls : List Mark → Type 0
Falls ms = AllPairs (λ m n. InOrder n m) ms

module _ (cells : List (Cell Row)) where
  abbrev key : Handle → ℕ
  key = key_at cells

  -- before the walk
  pub record IsBefore (ms : List Mark) (v : Sieve) : Type 0 where
    pub order : v.from ≤ v.to
    pub within : v.to ≤ length v.column.handles
    pub falls : Falls ms
    pub under : All (λ m. m.position ≤ v.from) ms
    pub read : AreRead cells v.from v.to v.column
    pub remembers : Remembers cells v.column.handles v.column.remembered
    pub counted : v.moved ≤ greatest

  -- the rows that came in, and those of the pieces below
  abbrev pub came : Sieve → List Handle
  came v = between v.from v.to v.column.handles

  abbrev pub stood : Sieve → List Handle
  stood v = take v.from v.column.handles

  -- and after it
  pub record IsAfter (ms ms' : List Mark) (v w : Sieve) : Type 0 where
    pub handles_are : w.column.handles ≡ sifted_from key ms (stood v) (came v) ++ drop v.to v.column.handles
    pub marks_are : ms' ≡ map (risen key (came v)) ms
    pub moved_is : w.moved ≡ min (v.moved + made_way_from key ms (stood v) (came v)) greatest
    pub remembers : Remembers cells w.column.handles w.column.remembered
    pub room : w.column.room ≡ v.column.room

  risen-none : (m : Mark) → risen key [] m ≡ m
  risen-none m =
      let same : m.position + 0 ≡ m.position = omega arith in
      ap (λ n. let k : Mark = record { bound = m.bound; position = n } in k) same

  all_risen-none : (ms : List Mark) → map (risen key []) ms ≡ ms
  all_risen-none [] = refl
  all_risen-none (m ∷ ms) = rw (risen-none m, all_risen-none ms) refl

  IsAfter-none : (most last : ℕ) (ms ms' : List Mark) (v w : Sieve) → most ≡ 0 → most ≡ v.to - v.from → IsBefore ms v → Raises SieveRises most ms v ms' w last → IsAfter ms ms' v w
  IsAfter-none most last ms ms' v w none count before raises =
      let stays = nothing-rises most last ms ms' v w none raises in
      let gap : v.to - v.from ≡ 0 = omega (arith, none, count) in
      let empty : came v ≡ [] = ap (λ n. take n (drop v.from v.column.handles)) gap in
      let same : v.from ≡ v.to = omega (arith, gap, before.order) in
      let least : min (v.moved + 0) greatest ≡ v.moved = min-eq_left (omega (arith, before.counted)) ∙ omega arith in
      rw (stays.0, stays.1) (record {
        handles_are = rw empty (sym (ap (λ ys. ys ++ drop v.to v.column.handles) (sifted_from-none key ms (stood v)) ∙ ap (λ n. take n v.column.handles ++ drop v.to v.column.handles) same ∙ take-append-drop v.to v.column.handles));
        marks_are = rw empty (sym (all_risen-none ms));
        moved_is = rw empty (sym (ap (λ n. min (v.moved + n) greatest) (made_way_from-none key ms (stood v)) ∙ least));
        remembers = before.remembers;
        room = refl;
      })

  -- bounds below another rise by as many, whether the rows that are at or above that one are counted or not
  all_risen-below : (bound : ℕ) (xs : List Handle) (ms : List Mark) → All (λ m. m.bound.0 ≤ bound) ms → map (risen key (below_bound key bound xs)) ms ≡ map (risen key xs) ms
  all_risen-below bound xs [] all = refl
  all_risen-below bound xs (m ∷ ms) all =
      let counted = (count-below_bound key (λ h. false) m.bound.0 bound xs (All-head (λ n. n.bound.0 ≤ bound) m ms all)).0 in
      rw (counted, all_risen-below bound xs ms (All-tail (λ n. n.bound.0 ≤ bound) m ms all)) refl

  -- one bound is passed
  record IsOn (m : Mark) (ns : List Mark) (v y : Sieve) (rise made : ℕ) : Type 0 where
    before : IsBefore ns y
    stood_is : stood y ≡ take m.position (stood v)
    came_is : came y ≡ below_bound key m.bound.0 (came v)
    rest_is : drop y.to y.column.handles ≡ queued key m.bound.0 (came v) (drop m.position (stood v)) ++ drop v.to v.column.handles
    rise_is : rise ≡ count_below key m.bound.0 (came v)
    made_is : made ≡ made_way key m.bound.0 (came v) (drop m.position (stood v))
    gap : rise ≡ y.to - y.from

  passed : (m : Mark) (ns : List Mark) (v y : Sieve) (rise : ℕ) (p : SievePasses v m rise y) → IsBefore (m ∷ ns) v → m.position ≤ v.from → IsOn m ns v y rise p.made
  passed m ns v y rise p before under =
      let h : List Handle = v.column.handles in
      let s = p.sifts cells before.read in
      let lower : List Handle = below_bound key m.bound.0 (came v) in
      let queue : List Handle = queued key m.bound.0 (came v) (between m.position v.from h) in
      let back : List Handle = drop v.to h in
      let front : List Handle = take m.position h in
      let split : y.column.handles ≡ front ++ (lower ++ (queue ++ back)) = s.handles_are ∙ append_assoc front (lower ++ queue) back ∙ ap (λ ys. front ++ ys) (append_assoc lower queue back) in
      let long : length front ≡ m.position = length-take-le m.position h (omega (arith, under, before.order, before.within)) in
      let now = three front lower (queue ++ back) m.position rise long (sym s.below_is) in
      let own : drop m.position (stood v) ≡ between m.position v.from h = drop_between h m.position v.from under in
      let counted = count-below_bound key (λ x. false) m.bound.0 m.bound.0 (came v) (omega arith) in
      record {
        before = record {
          order = omega (arith, p.from_is, p.to_is);
          within = omega (arith, p.to_is, p.few, p.long, under, before.order, before.within);
          falls = λ i j d a b. before.falls (suc i) (suc j) d (omega (arith, a)) (omega (arith, b));
          under = λ k d a. omega (arith, p.from_is, (before.falls zero (suc k) d (omega arith) (omega (arith, a))).positions);
          read = rw (p.from_is, p.to_is) s.read;
          remembers = p.remembered cells before.remembers;
          counted = omega (arith, p.moved_is);
        };
        stood_is = rw (p.from_is, split) now.0 ∙ sym (take_less m.position v.from h under);
        came_is = rw (p.from_is, p.to_is, split) now.1;
        rest_is = rw (p.to_is, split, own) now.2;
        rise_is = s.below_is ∙ counted.1;
        made_is = rw own s.moved_is;
        gap = omega (arith, p.from_is, p.to_is);
      }

  pub through : (most last : ℕ) (ms ms' : List Mark) (v w : Sieve) → most ≡ v.to - v.from → IsBefore ms v → Raises SieveRises most ms v ms' w last → IsAfter ms ms' v w
  through most last ms ms' v w count before (Raises.done n x) =
      let least : min (x.moved + 0) greatest ≡ x.moved = min-eq_left (omega (arith, before.counted)) ∙ omega arith in
      record {
        handles_are = parts x.column.handles x.from x.to before.order ∙ ap (λ ys. ys ++ drop x.to x.column.handles) (sym (queued-lowest key (came x) (stood x)));
        marks_are = refl;
        moved_is = sym (ap (λ n. min (x.moved + n) greatest) (made_way-lowest key (came x) (stood x)) ∙ least);
        remembers = before.remembers;
        room = refl;
      }
  through most last ms ms' v w count before (Raises.stays m ns ns' x y l on) = IsAfter-none 0 l (m ∷ ns) (m ∷ ns') x y refl count before (Raises.stays m ns ns' x y l on)
  through most last ms ms' v w count before (Raises.goes_on n rise l m ns ns' x y z some told on) =
      let under = All-head (λ k. k.position ≤ x.from) m ns before.under in
      let p = told under in
      let one = passed m ns x y rise p before under in
      let less : min rise n ≡ rise = min-eq_left (omega (arith, p.few, count)) in
      let rest = through (min rise n) l ns ns' y z (less ∙ one.gap) one.before on in
      let lower : List Handle = below_bound key m.bound.0 (came x) in
      let back : List Handle = drop x.to x.column.handles in
      let queue : List Handle = queued key m.bound.0 (came x) (drop m.position (stood x)) in
      let below : List Handle = sifted_from key ns (take m.position (stood x)) lower in
      let bounds : All (λ k. k.bound.0 ≤ m.bound.0) ns = λ k d a. omega (arith, (before.falls zero (suc k) d (omega arith) (omega (arith, a))).bounds) in
      let handles : z.column.handles ≡ below ++ (queue ++ back) = rw (one.stood_is, one.came_is, one.rest_is) at rest.handles_are in
      let marks : ns' ≡ map (risen key (came x)) ns = rest.marks_are ∙ ap (λ ys. map (risen key ys) ns) one.came_is ∙ all_risen-below m.bound.0 (came x) ns bounds in
      let top : higher (min rise n) m ≡ risen key (came x) m = ap (λ k. higher k m) (less ∙ one.rise_is) in
      let counts : z.moved ≡ min (y.moved + made_way_from key ns (take m.position (stood x)) lower) greatest = rw (one.stood_is, one.came_is) at rest.moved_is in
      record {
        handles_are = handles ∙ sym (append_assoc below queue back);
        marks_are = rw (top, marks) refl;
        moved_is = counts ∙ ap (λ k. min (k + made_way_from key ns (take m.position (stood x)) lower) greatest) (p.moved_is ∙ ap (λ k. min (x.moved + k) greatest) one.made_is) ∙ min_and x.moved (made_way key m.bound.0 (came x) (drop m.position (stood x))) (made_way_from key ns (take m.position (stood x)) lower);
        remembers = rest.remembers;
        room = rest.room ∙ p.room;
      }

-- The whole

map-reversed : (f : Mark → Mark) (ms : List Mark) → map f (reverse ms) ≡ reverse (map f ms)
map-reversed f [] = refl
map-reversed f (m ∷ ms) = ap (map f) (reverse-append (m ∷ []) ms) ∙ map-append f (reverse ms) (m ∷ []) ∙ ap (λ ns. ns ++ f m ∷ []) (map-reversed f ms) ∙ sym (reverse-append (f m ∷ []) (map f ms))

module _ (r : Range) (s : State) (intact : IsIntact s []) where
  abbrev rows : List Handle
  rows = inside_of s.cells r s.pending_in

  GoThrough-clear : AreClear (length rows) s → GoThrough None r s
  GoThrough-clear clear = record { met = OfMet-clear (length rows) s intact clear rows (omega arith); under = λ k d l. refl }

  -- the walk began with the rows after the column's last
  pub record IsSifted (ms' : List Mark) (w : Sieve) : Type 0 where
    pub column_is : w.column.handles ≡ (carried_by_sifting r s).column
    pub marks_are : ms' ≡ (carried_by_sifting r s).marks
    pub moved_is : w.moved ≡ min (s.tally.moved + all_made_way (key_at s.cells) 0 rows (pieces_of s)) greatest
    pub remembers : Remembers s.cells w.column.handles w.column.remembered

  pub whole : (most last : ℕ) (ms' : List Mark) (v w : Sieve) → most ≡ length rows → v.column.handles ≡ s.column ++ rows → v.from ≡ length s.column → v.to ≡ length s.column + length rows → v.moved ≡ s.tally.moved → AreRead s.cells v.from v.to v.column → Remembers s.cells v.column.handles v.column.remembered → Raises SieveRises most (reverse s.marks) v (reverse ms') w last → IsSifted ms' w
  whole most last ms' v w count handles from to moved read remembers raises =
      let long : length v.column.handles ≡ length s.column + length rows = ap length handles ∙ length-append s.column rows in
      let plain : s.column ++ rows ≡ s.column ++ (rows ++ []) = ap (λ ys. s.column ++ ys) (sym (append-nil rows)) in
      let now = three s.column rows [] (length s.column) (length rows) refl refl in
      let before : IsBefore s.cells (reverse s.marks) v = record {
        order = omega (arith, from, to);
        within = omega (arith, to, long);
        falls = falls_reverse s.marks intact.rising;
        under = λ k d l.
            let far = length-reverse s.marks in
            let same = get_or-reverse s.marks k d (omega (arith, l, far)) in
            let one = intact.obeyed (length s.marks - 1 - k) d (omega (arith, l, far)) in
            rw same (omega (arith, one.within, from, length-keys s.column));
        read = read;
        remembers = remembers;
        counted = omega (arith, moved, intact.counted.moved);
      } in
      let done = through s.cells most last (reverse s.marks) (reverse ms') v w (omega (arith, count, from, to)) before raises in
      let stood_is : stood s.cells v ≡ s.column = rw (from, handles, plain) now.0 in
      let came_is : came s.cells v ≡ rows = rw (from, to, handles, plain) now.1 in
      let rest : drop v.to v.column.handles ≡ [] = rw (to, handles, plain) now.2 in
      let down = sifted_down-is (key_at s.cells) s.marks s.column rows intact.rising in
      let column : w.column.handles ≡ sifted_from (key_at s.cells) (reverse s.marks) s.column rows ++ [] = rw (stood_is, came_is, rest) at done.handles_are in
      let marks : reverse ms' ≡ map (risen (key_at s.cells) rows) (reverse s.marks) = rw came_is at done.marks_are in
      let turned : reverse ms' ≡ reverse (map (risen (key_at s.cells) rows) s.marks) = marks ∙ map-reversed (risen (key_at s.cells) rows) s.marks in
      let moves : w.moved ≡ min (v.moved + made_way_from (key_at s.cells) (reverse s.marks) s.column rows) greatest = rw (stood_is, came_is) at done.moved_is in
      record {
        column_is = column ∙ append-nil (sifted_from (key_at s.cells) (reverse s.marks) s.column rows) ∙ down.0;
        marks_are = sym (reverse-reverse ms') ∙ ap reverse turned ∙ reverse-reverse (map (risen (key_at s.cells) rows) s.marks);
        moved_is = moves ∙ rw (moved, down.1) refl;
        remembers = done.remembers;
      }
    where
      falls_reverse : (xs : List Mark) → Rising xs → Falls (reverse xs)
      falls_reverse xs rising = λ i j d h k.
          let far = length-reverse xs in
          rw (get_or-reverse xs i d (omega (arith, h, k, far)), get_or-reverse xs j d (omega (arith, k, far))) (rising (length xs - 1 - j) (length xs - 1 - i) d (omega (arith, h, k, far)) (omega (arith, h, k, far)))

      length-keys : (hs : List Handle) → length (map (key_at s.cells) hs) ≡ length hs
      length-keys [] = refl
      length-keys (h ∷ hs) = ap suc (length-keys hs)

  -- once all were sifted, the result is that of the carries
  pub record IsCarried (u : State) : Type 0 where
    pub carried : SameButRoom (carried_in_bulk None r s) u
    pub kept : IsKept s u

  pub carried : (u : State) (first : ℕ) → AreClear (length rows) s → Finds r (keys_at s.cells s.pending_in) 0 (Some first) → SameButRoom (carried_by_sifting r s) u → IsCarried u
  carried u first clear found room =
      let same = carried-sifting None r s intact (GoThrough-clear clear) in
      let done : SameButRoom (carried_in_bulk None r s) u = rw same room in
      record { carried = done; kept = IsKept-in_bulk None r s u first (λ key inside. refl) intact found done }

  -- room for them was made before
  pub carried-room : (t u : State) → AreClear (length rows) s → SameButRoom s t → SameButRoom (carried_in_bulk None r t) u → SameButRoom (carried_in_bulk None r s) u
  carried-room t u clear made room =
      let more : State = record s { column_room = t.column_room; in_room = t.in_room } in
      let go = GoThrough-clear clear in
      let now : SameButRoom (carried_in_bulk None r more) u = rw made.same at room in
      let same = carried-sifting None r more (IsIntact-room s more [] (record { same = refl }) intact) (record { met = go.met; under = go.under }) in
      let sifted_more : SameButRoom (carried_by_sifting r more) u = rw same at now in
      rw (carried-sifting None r s intact go) (record { same = sifted_more.same })
