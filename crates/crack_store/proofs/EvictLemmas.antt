-- The bounds after the walks under a ceiling, and the column after an exchange of rows at its place.
use Rattle.std.proofs.Common.{◌≡◌, ℕ, zero, suc, ◌+◌, ◌-◌, ◌<◌, ◌≤◌, min, max, List, [], ◌∷◌, ◌++◌, map, length, take, drop, reverse, get_or, refl, sym, ap, ◌∙◌, inl, inr, arith}
use Rattle.std.specs.Prelude.{All, AllPairs}
use Rattle.std.proofs.lemmas.Bool.{cases_lt, lt-ltb, le-ltb}
use Rattle.std.proofs.lemmas.List.{map-append, reverse-append, reverse-reverse, length-append, get_or_at, get_or_append_left}
use Rattle.std.proofs.lemmas.List.Elements.{All-nil, All-cons, All-head, All-tail}
use Rattle.crack_index.specs.declared.mark.Mark.{Mark}
use Rattle.crack_index.specs.Marks.{InOrder, Rising}
use Rattle.crack_index.specs.Places.{Places, at_place}
use Rattle.crack_index.specs.Raises.{Raises, higher}
use Rattle.crack_store.specs.declared.evicting.CeilingSieve.{CeilingSieve}
use Rattle.crack_store.specs.declared.evicting.CeilingStop.{CeilingStop}
use Rattle.crack_store.specs.Sieves.{SieveRises}
use Rattle.crack_store.specs.Evictions.{RisesUnder, StandsUnder, stop_of, not_before}

-- a list around one of its elements
pub around : (ms : List Mark) (k : ℕ) (d : Mark) → k < length ms → ms ≡ take k ms ++ get_or ms k d ∷ drop (suc k) ms
around [] k d within = absurd (omega (arith, within))
around (m ∷ ms) zero d within = refl
around (m ∷ ms) (suc k) d within = ap (λ ns. m ∷ ns) (around ms k d (omega (arith, within)))

-- The walk down

-- the first step of a walk that goes on
record IsFirst (most last : ℕ) (m : Mark) (ns ms' : List Mark) (v w : CeilingSieve) : Type 0 where
  rise : ℕ
  y : CeilingSieve
  ns' : List Mark
  told : RisesUnder v m rise y
  is : ms' ≡ higher (min rise most) m ∷ ns'
  rest : Raises RisesUnder (min rise most) ns y ns' w last

first : (most last : ℕ) (m : Mark) (ns ms' : List Mark) (v w : CeilingSieve) → 0 < most → Raises RisesUnder most (m ∷ ns) v ms' w last → IsFirst most last m ns ms' v w
first most last m ns ms' v w some (Raises.stays n ks ks' x y l on) = absurd (omega (arith, some))
first most last m ns ms' v w some (Raises.goes_on n rise l k ks ks' x y z more told on) = record { rise = rise; y = y; ns' = ks'; told = told; is = refl; rest = on }

-- the bounds from the ceiling on have risen by as many as rows come in
record IsOver (count last : ℕ) (hs ls ms' : List Mark) (v w : CeilingSieve) : Type 0 where
  ls' : List Mark
  is : ms' ≡ map (higher count) hs ++ ls'
  rest : Raises RisesUnder count ls v ls' w last

over : (count last : ℕ) (hs ls ms' : List Mark) (v w : CeilingSieve) → v.count ≡ count → 0 < count → All (λ m. v.ceiling ≤ m.bound.0) hs → Raises RisesUnder count (hs ++ ls) v ms' w last → IsOver count last hs ls ms' v w
over count last [] ls ms' v w is some all raises = record { ls' = ms'; is = refl; rest = raises }
over count last (m ∷ hs) ls ms' v w is some all raises =
    let one = first count last m (hs ++ ls) ms' v w some raises in
    let told = one.told.over (All-head (λ k. v.ceiling ≤ k.bound.0) m hs all) in
    let same : min one.rise count ≡ count = omega (arith, told.0, is) in
    let rest = over count last hs ls one.ns' v w is some (All-tail (λ k. v.ceiling ≤ k.bound.0) m hs all) (rw (same, told.1) at one.rest) in
    record {
      ls' = rest.ls';
      is = one.is ∙ ap (λ k. higher k m ∷ one.ns') same ∙ ap (λ ks. higher count m ∷ ks) rest.is;
      rest = rest.rest;
    }

-- below it, the rows were sifted
under : (most last : ℕ) (ms ms' : List Mark) (v w : CeilingSieve) → All (λ m. m.bound.0 < v.ceiling) ms → Raises RisesUnder most ms v ms' w last → Raises SieveRises most ms v.sieve ms' w.sieve last
under most last ms ms' v w all (Raises.done n x) = Raises.done n x.sieve
under most last ms ms' v w all (Raises.stays m ns ns' x y l on) =
    Raises.stays m ns ns' x.sieve y.sieve l (under 0 l ns ns' x y (All-tail (λ k. k.bound.0 < x.ceiling) m ns all) on)
under most last ms ms' v w all (Raises.goes_on n rise l m ns ns' x y z some told on) =
    let below : All (λ k. k.bound.0 < y.ceiling) ns = rw told.ceiling_is (All-tail (λ k. k.bound.0 < x.ceiling) m ns all) in
    Raises.goes_on n rise l m ns ns' x.sieve y.sieve z.sieve some (told.under (All-head (λ k. k.bound.0 < x.ceiling) m ns all)) (under (min rise n) l ns ns' y z below on)

pub map-reversed : (f : Mark → Mark) (ms : List Mark) → map f (reverse ms) ≡ reverse (map f ms)
map-reversed f [] = refl
map-reversed f (m ∷ ms) = ap (map f) (reverse-append (m ∷ []) ms) ∙ map-append f (reverse ms) (m ∷ []) ∙ ap (λ ns. ns ++ f m ∷ []) (map-reversed f ms) ∙ sym (reverse-append (f m ∷ []) (map f ms))

-- the marks around that of the ceiling after the walk down
pub record IsDown (edge : Mark) (count last : ℕ) (low high marks' : List Mark) (v w : CeilingSieve) : Type 0 where
  pub low' : List Mark
  pub after : marks' ≡ low' ++ map (higher count) (edge ∷ high)
  pub raises : Raises SieveRises count (reverse low) v.sieve (reverse low') w.sieve last

pub All-reversed : (P : Mark → Type 0) (ms : List Mark) → All P ms → All P (reverse ms)
All-reversed P [] all = All-nil P
All-reversed P (m ∷ ms) all =
    let one : reverse (m ∷ ms) ≡ reverse ms ++ m ∷ [] = reverse-append (m ∷ []) ms in
    rw one (push (reverse ms) m (All-reversed P ms (All-tail P m ms all)) (All-head P m ms all))
  where
    push : (xs : List Mark) (x : Mark) → All P xs → P x → All P (xs ++ x ∷ [])
    push [] x all one = All-cons P x [] one (All-nil P)
    push (y ∷ ys) x all one = All-cons P y (ys ++ x ∷ []) (All-head P y ys all) (push ys x (All-tail P y ys all) one)

pub down : (edge : Mark) (count last : ℕ) (low high marks' : List Mark) (v w : CeilingSieve) → v.count ≡ count → v.ceiling ≡ edge.bound.0 → 0 < count → Rising (low ++ edge ∷ high) → Raises RisesUnder count (reverse (low ++ edge ∷ high)) v (reverse marks') w last → IsDown edge count last low high marks' v w
down edge count last low high marks' v w count_is ceiling_is some rising raises =
    let others : List Mark = edge ∷ high in
    let flipped : reverse (low ++ others) ≡ reverse others ++ reverse low = reverse-append low others in
    let upper : Rising others = λ i j d h k. rw (skip low i d, skip low j d) at (rising (length low + i) (length low + j) d (omega (arith, h)) (omega (arith, k, length-append low others))) in
    let above : All (λ m. v.ceiling ≤ m.bound.0) others = All-cons (λ m. v.ceiling ≤ m.bound.0) edge high (omega (arith, ceiling_is)) (λ k d h. let one = upper zero (suc k) d (omega arith) (omega (arith, h)) in omega (arith, one.bounds, ceiling_is)) in
    let below : All (λ m. m.bound.0 < v.ceiling) low = λ k d h.
    let one = rising k (length low) d h (omega (arith, length-append low others)) in
    let bounds = one.bounds in
    let less : (get_or low k d).bound.0 < edge.bound.0 = rw (get_or_append_left low others d k h, get_or_at low edge high d (length low) refl) at bounds in
    omega (arith, less, ceiling_is) in
    let top = over count last (reverse others) (reverse low) (reverse marks') v w count_is some (All-reversed (λ m. v.ceiling ≤ m.bound.0) others above) (rw flipped at raises) in
    let turned : reverse (reverse marks') ≡ reverse (map (higher count) (reverse others) ++ top.ls') = ap reverse top.is in
    let upside : reverse (map (higher count) (reverse others)) ≡ map (higher count) others = ap reverse (map-reversed (higher count) others) ∙ reverse-reverse (map (higher count) others) in
    record {
      low' = reverse top.ls';
      after = sym (reverse-reverse marks') ∙ turned ∙ reverse-append (map (higher count) (reverse others)) top.ls' ∙ ap (λ ys. reverse top.ls' ++ ys) upside;
      raises = rw (reverse-reverse top.ls') (under count last (reverse low) top.ls' v w (All-reversed (λ m. m.bound.0 < v.ceiling) low below) top.rest);
    }
  where
    skip : (xs : List Mark) (i : ℕ) (d : Mark) → get_or (xs ++ edge ∷ high) (length xs + i) d ≡ get_or (edge ∷ high) i d
    skip [] i d =
        let same : 0 + i ≡ i = omega arith in
        ap (λ n. get_or (edge ∷ high) n d) same
    skip (x ∷ xs) i d =
        let next : suc (length xs) + i ≡ suc (length xs + i) = omega arith in
        ap (λ n. get_or (x ∷ (xs ++ edge ∷ high)) n d) next ∙ skip xs i d

-- The walk up

placed : (v : CeilingStop) (least last : ℕ) (ms ms' : List Mark) (u w : CeilingStop) → u ≡ v → All (λ m. least ≤ stop_of v m) ms → AllPairs (λ m n. stop_of v m ≤ stop_of v n) ms → Places StandsUnder least ms u ms' w last → ms' ≡ map (λ m. at_place (stop_of v m) m) ms
placed v least last ms ms' u w same from pairs (Places.done n x) = refl
placed v least last ms ms' u w same from pairs (Places.goes_on n place l m ns ns' x y z told on) =
    let high : n ≤ stop_of v m = All-head (λ k. n ≤ stop_of v k) m ns from in
    let here : place ≡ stop_of v m = told.0 ∙ ap (λ k. stop_of k m) same in
    let top : max place n ≡ stop_of v m = omega (arith, here, high) in
    let rest = placed v (max place n) l ns ns' y z (told.1 ∙ same) (λ k d h. let one = pairs zero (suc k) d (omega arith) (omega (arith, h)) in omega (arith, top, one)) (λ i j d h k. pairs (suc i) (suc j) d (omega (arith, h)) (omega (arith, k))) on in
    ap (λ k. at_place k m ∷ ns') top ∙ ap (λ ks. at_place (stop_of v m) m ∷ ks) rest

-- where each mark that is in order moves, if those below the ceiling are before the least place of the others
stops_rise : (v : CeilingStop) (m n : Mark) → InOrder m n → (m.bound.0 < v.ceiling → m.position ≤ v.least) → stop_of v m ≤ stop_of v n
stops_rise v m n order least = elim (cases_lt n.bound.0 v.ceiling) [
  | inl under_n ↦
      let under_m : m.bound.0 < v.ceiling = omega (arith, order.bounds, under_n) in
      rw (lt-ltb m.bound.0 v.ceiling under_m, lt-ltb n.bound.0 v.ceiling under_n) order.positions
  | inr over_n ↦ elim (cases_lt m.bound.0 v.ceiling) [
    | inl under_m ↦
        let low = least under_m in
        rw (lt-ltb m.bound.0 v.ceiling under_m, le-ltb n.bound.0 v.ceiling over_n) (omega (arith, low))
    | inr over_m ↦
        let places = order.positions in
        rw (le-ltb m.bound.0 v.ceiling over_m, le-ltb n.bound.0 v.ceiling over_n) (omega (arith, places))
  ]
]

pub up : (edge : Mark) (count last : ℕ) (low high marks' : List Mark) (v w : CeilingStop) → v.count ≡ count → v.ceiling ≡ edge.bound.0 → v.least ≡ edge.position + count → Rising (low ++ map (higher count) (edge ∷ high)) → Places StandsUnder 0 (low ++ map (higher count) (edge ∷ high)) v marks' w last → marks' ≡ low ++ map (not_before (edge.position + count)) (edge ∷ high)
up edge count last low high marks' v w count_is ceiling_is least_is rising places =
    let others : List Mark = map (higher count) (edge ∷ high) in
    let before : All (λ m. (m.bound.0 < v.ceiling) × (m.position ≤ v.least)) low = λ k d h.
    let one = rising k (length low) d h (omega (arith, length-append low others)) in
    let order : InOrder (get_or low k d) (higher count edge) = rw (get_or_append_left low others d k h, get_or_at low (higher count edge) (map (higher count) high) d (length low) refl) at one in
    (omega (arith, order.bounds, ceiling_is), omega (arith, order.positions, least_is)) in
    let low_enough : (k : ℕ) (d : Mark) → k < length (low ++ others) → (get_or (low ++ others) k d).bound.0 < v.ceiling → (get_or (low ++ others) k d).position ≤ v.least = λ k d h less. elim (cases_lt k (length low)) [
      | inl l ↦ rw (get_or_append_left low others d k l) (before k d l).1
      | inr l ↦
          absurd (above k d h l less)
    ] in
    let pairs : AllPairs (λ m n. stop_of v m ≤ stop_of v n) (low ++ others) = λ i j d h k. stops_rise v (get_or (low ++ others) i d) (get_or (low ++ others) j d) (rising i j d h k) (low_enough i d (omega (arith, h, k))) in
    let walked = placed v 0 last (low ++ others) marks' v w refl (λ k d h. omega arith) pairs places in
    walked ∙ map-append (λ m. at_place (stop_of v m) m) low others ∙ rw (stays low before, goes (edge ∷ high) from) refl
  where
    above : (k : ℕ) (d : Mark) → k < length (low ++ map (higher count) (edge ∷ high)) → length low ≤ k → (get_or (low ++ map (higher count) (edge ∷ high)) k d).bound.0 < v.ceiling → ⊥
    above k d h l less = elim (cases_lt (length low) k) [
      | inl far ↦
          let one = rising (length low) k d far h in
          let bounds = one.bounds in
          let order : edge.bound.0 < (get_or (low ++ map (higher count) (edge ∷ high)) k d).bound.0 = rw (get_or_at low (higher count edge) (map (higher count) high) d (length low) refl) at bounds in
          omega (arith, order, less, ceiling_is)
      | inr near ↦
          let here : k ≡ length low = omega (arith, near, l) in
          let is : get_or (low ++ map (higher count) (edge ∷ high)) k d ≡ higher count edge = get_or_at low (higher count edge) (map (higher count) high) d k (sym here) in
          let bound : edge.bound.0 < v.ceiling = rw is at less in
          omega (arith, bound, ceiling_is)
    ]

    stays : (ms : List Mark) → All (λ m. (m.bound.0 < v.ceiling) × (m.position ≤ v.least)) ms → map (λ m. at_place (stop_of v m) m) ms ≡ ms
    stays [] all = refl
    stays (m ∷ ms) all =
        let one = All-head (λ k. (k.bound.0 < v.ceiling) × (k.position ≤ v.least)) m ms all in
        rw (lt-ltb m.bound.0 v.ceiling one.0, stays ms (All-tail (λ k. (k.bound.0 < v.ceiling) × (k.position ≤ v.least)) m ms all)) refl

    from : All (λ m. v.ceiling ≤ m.bound.0) (edge ∷ high)
    from = All-cons (λ m. v.ceiling ≤ m.bound.0) edge high (omega (arith, ceiling_is)) (λ k d h.
        let far : length low + suc k < length (low ++ map (higher count) (edge ∷ high)) = omega (arith, h, length-append low (map (higher count) (edge ∷ high)), many high) in
        let one = rising (length low) (length low + suc k) d (omega arith) far in
        let bounds = one.bounds in
        let order : edge.bound.0 < (get_or high k d).bound.0 = rw (get_or_at low (higher count edge) (map (higher count) high) d (length low) refl, skip low (suc k) d, raised high k d h) at bounds in
        omega (arith, order, ceiling_is))
      where
        many : (ms : List Mark) → length (map (higher count) ms) ≡ length ms
        many [] = refl
        many (m ∷ ms) = ap suc (many ms)

        skip : (xs : List Mark) (i : ℕ) (d : Mark) → get_or (xs ++ map (higher count) (edge ∷ high)) (length xs + i) d ≡ get_or (map (higher count) (edge ∷ high)) i d
        skip [] i d =
            let same : 0 + i ≡ i = omega arith in
            ap (λ n. get_or (map (higher count) (edge ∷ high)) n d) same
        skip (x ∷ xs) i d =
            let next : suc (length xs) + i ≡ suc (length xs + i) = omega arith in
            ap (λ n. get_or (x ∷ (xs ++ map (higher count) (edge ∷ high))) n d) next ∙ skip xs i d

        raised : (ms : List Mark) (k : ℕ) (d : Mark) → k < length ms → get_or (map (higher count) ms) k d ≡ higher count (get_or ms k d)
        raised [] k d h = absurd (omega (arith, h))
        raised (m ∷ ms) zero d h = refl
        raised (m ∷ ms) (suc k) d h = raised ms k d (omega (arith, h))

    goes : (ms : List Mark) → All (λ m. v.ceiling ≤ m.bound.0) ms → map (λ m. at_place (stop_of v m) m) (map (higher count) ms) ≡ map (not_before (edge.position + count)) ms
    goes [] all = refl
    goes (m ∷ ms) all =
        let over_it = All-head (λ k. v.ceiling ≤ k.bound.0) m ms all in
        let place : max (m.position + count - v.count) v.least ≡ max m.position (edge.position + count) = omega (arith, count_is, least_is) in
        rw (le-ltb m.bound.0 v.ceiling over_it, place, goes ms (All-tail (λ k. v.ceiling ≤ k.bound.0) m ms all)) refl
