-- A column whose pieces are opened for arrivals, from the highest piece down.
use Rattle.std.proofs.Common.{◌≡◌, ℕ, zero, suc, ◌+◌, ◌-◌, ◌*◌, ◌<◌, ◌≤◌, min, List, [], ◌∷◌, ◌++◌, map, length, take, drop, get_or, refl, sym, ap, subst, ◌∙◌, inl, inr, arith}
use Rattle.std.specs.List.{All, between}
use Rattle.std.proofs.Math.Nat.{mul-le-mul_left}
use Rattle.std.specs.List.Sorted.{IsPermutation}
use Rattle.std.proofs.lemmas.List.{append_assoc, append-nil, length-append, length-map, map-append, length-take-le, take-append-drop, take_at, drop_at, nil_from_length}
use Rattle.std.proofs.lemmas.Bool.{cases_lt}
use Rattle.std.proofs.lemmas.List.Elements.{All-nil, All-cons, All-head, All-tail, All-weaker, All-map}
use Rattle.std.proofs.lemmas.List.Sorted.{IsPermutation-refl, IsPermutation-trans, IsPermutation-append, IsPermutation-append_left, IsPermutation-append_right, IsPermutation-append_comm, All-permutation, length_permutation}
use Rattle.crack_index.specs.declared.mark.Mark.{Mark}
use Rattle.crack_index.specs.Marks.{InOrder, bounds_of}
use Rattle.crack_index.specs.Raises.{Raises, higher}
use Rattle.crack_store.specs.Passes.{OpensPiece}
use Rattle.crack_store.proofs.SplitLaws.{All-left, All-right, Splits, Splits-high, Splits-low_grown, Splits-high_grown}

-- the marks fall: each mark has a higher bound, and no lower place, than every later one
abbrev pub Falling : List Mark → Type 0
Falling ms = (i j : ℕ) (d : Mark) → i < j → j < length ms → InOrder (get_or ms j d) (get_or ms i d)

module _ {X : Type 0} where
  -- the rows before the middle and those that came
  regrouped : (front piece come come' front' passed piece' : List X) → IsPermutation (front ++ come') (front' ++ passed) → IsPermutation (piece ++ come) piece' → IsPermutation ((front ++ piece) ++ (come' ++ come)) (front' ++ (passed ++ piece'))
  regrouped front piece come come' front' passed piece' rest grown =
      let turned : IsPermutation (piece ++ (come' ++ come)) (come' ++ (piece ++ come)) =
      rw (append_assoc piece come' come, append_assoc come' piece come) at (IsPermutation-append_left come (piece ++ come') (come' ++ piece) (IsPermutation-append_comm piece come')) in
      let first : IsPermutation (front ++ (piece ++ (come' ++ come))) (front ++ (come' ++ (piece ++ come))) = IsPermutation-append_right front (piece ++ (come' ++ come)) (come' ++ (piece ++ come)) turned in
      let second : IsPermutation ((front ++ come') ++ (piece ++ come)) ((front' ++ passed) ++ piece') = IsPermutation-append (front ++ come') (front' ++ passed) (piece ++ come) piece' rest grown in
      rw (append_assoc front piece (come' ++ come), ← append_assoc front' passed piece') (IsPermutation-trans (front ++ (piece ++ (come' ++ come))) (front ++ (come' ++ (piece ++ come))) ((front' ++ passed) ++ piece') first (rw (append_assoc front come' (piece ++ come)) at second))

module _ {X : Type 0} where
  -- what was left, and the rows that came
  put_together : (front left left' come front' passed : List X) → IsPermutation left (left' ++ come) → IsPermutation (front ++ come) (front' ++ passed) → IsPermutation (front ++ left) (front' ++ (left' ++ passed))
  put_together front left left' come front' passed arrived moved =
      let one : IsPermutation (front ++ left) (front ++ (come ++ left')) = IsPermutation-append_right front left (come ++ left') (IsPermutation-trans left (left' ++ come) (come ++ left') arrived (IsPermutation-append_comm left' come)) in
      let two : IsPermutation ((front ++ come) ++ left') ((front' ++ passed) ++ left') = IsPermutation-append_left left' (front ++ come) (front' ++ passed) moved in
      let three : IsPermutation (front' ++ (passed ++ left')) (front' ++ (left' ++ passed)) = IsPermutation-append_right front' (passed ++ left') (left' ++ passed) (IsPermutation-append_comm passed left') in
      let two' : IsPermutation (front ++ (come ++ left')) (front' ++ (passed ++ left')) = rw (append_assoc front come left', append_assoc front' passed left') at two in
      IsPermutation-trans (front ++ left) (front ++ (come ++ left')) (front' ++ (left' ++ passed)) one (IsPermutation-trans (front ++ (come ++ left')) (front' ++ (passed ++ left')) (front' ++ (left' ++ passed)) two' three)

module _ {V X A : Type 0} (rows_of : V → List X) (end_of moved_of : V → ℕ) (arrivals_of : V → List A) (row : A → X) (key_of : A → ℕ) (Also : V → V → Type 0) (Also-refl : (v : V) → Also v v) (Also-trans : (u v w : V) → Also u v → Also v w → Also u w) (key : X → ℕ) where
  -- the rows that are left
  abbrev pub left_of : V → List X
  left_of v = map row (arrivals_of v)

  -- the key of an arrival is that of its row
  abbrev pub IsKeyed : A → Type 0
  IsKeyed a = key (row a) ≡ key_of a

  abbrev pub Steps : V → ℕ → ℕ → ℕ → V → Type 0
  Steps = OpensPiece rows_of end_of moved_of arrivals_of row key_of Also

  abbrev pub Opens : V → Mark → ℕ → V → Type 0
  Opens v m rise w = m.position ≤ end_of v → Steps v m.position m.bound.0 rise w

  -- the rows before the hole, in it and after it
  pub record OpenAt (v : V) (front hole behind : List X) : Type 0 where
    pub rows_are : rows_of v ≡ front ++ (hole ++ behind)
    pub gap_is : length hole ≡ length (left_of v)
    pub end_is : end_of v ≡ length front
    pub keyed : All IsKeyed (arrivals_of v)

  -- one piece is opened
  pub record IsOpen (v w : V) (front piece behind : List X) (m : Mark) (rise : ℕ) : Type 0 where
    pub hole' : List X
    pub piece' : List X
    pub come : List X
    pub at' : OpenAt w front hole' (piece' ++ behind)
    pub piece_is : IsPermutation (piece ++ come) piece'
    pub arrived : IsPermutation (left_of v) (left_of w ++ come)
    pub came : All (λ x. m.bound.0 ≤ key x) come
    pub left : All (λ x. key x < m.bound.0) (left_of w)
    pub rise_is : rise ≡ length (left_of w)
    pub few : moved_of w ≤ moved_of v + rise
    pub also : Also v w

  one_opened : (v w : V) (front piece hole behind : List X) (m : Mark) (rise : ℕ) → OpenAt v (front ++ piece) hole behind → m.position ≡ length front → Steps v m.position m.bound.0 rise w → IsOpen v w front piece behind m rise
  one_opened v w front piece hole behind m rise h place_is p =
      let rows = rows_of v in
      let whole : rows ≡ front ++ (piece ++ (hole ++ behind)) = h.rows_are ∙ append_assoc front piece (hole ++ behind) in
      let front_is : take m.position rows ≡ front = ap (take m.position) whole ∙ take_at front (piece ++ (hole ++ behind)) m.position (sym place_is) in
      let after : drop m.position rows ≡ piece ++ (hole ++ behind) = ap (drop m.position) whole ∙ drop_at front (piece ++ (hole ++ behind)) m.position (sym place_is) in
      let size : length piece ≡ end_of v - m.position = omega (arith, h.end_is, place_is, length-append front piece) in
      let piece_at : between m.position (end_of v) rows ≡ piece = ap (take (end_of v - m.position)) after ∙ take_at piece (hole ++ behind) (end_of v - m.position) size in
      let all : rows ≡ ((front ++ piece) ++ hole) ++ behind = h.rows_are ∙ sym (append_assoc (front ++ piece) hole behind) in
      let long = length-map (arrivals_of v) row in
      let long' = length-map (arrivals_of w) row in
      let count = length (arrivals_of v) in
      let behind_at : drop (end_of v + count) rows ≡ behind = ap (drop (end_of v + count)) all ∙ drop_at ((front ++ piece) ++ hole) behind (end_of v + count) (omega (arith, h.end_is, h.gap_is, long, length-append (front ++ piece) hole)) in
      let keyed : All IsKeyed (arrivals_of w ++ p.come) = subst (λ (xs : List A). All IsKeyed xs) p.arrived h.keyed in
      let keyed_left = All-left IsKeyed (arrivals_of w) p.come keyed in
      let keyed_come = All-right IsKeyed (arrivals_of w) p.come keyed in
      record {
        hole' = p.hole;
        piece' = p.piece;
        come = map row p.come;
        at' = record { rows_are = p.rows_are ∙ rw (front_is, behind_at) refl; gap_is = omega (arith, p.hole_is, long'); end_is = p.end_is ∙ place_is; keyed = keyed_left };
        piece_is = rw piece_at at p.piece_is;
        arrived = subst (λ (xs : List X). IsPermutation (left_of v) xs) (ap (map row) p.arrived ∙ map-append row (arrivals_of w) p.come) (IsPermutation-refl (left_of v));
        came = All-map (λ x. m.bound.0 ≤ key x) row p.come (λ k d j. omega (arith, p.came k d j, keyed_come k d j));
        left = All-map (λ x. key x < m.bound.0) row (arrivals_of w) (λ k d j. omega (arith, p.left k d j, keyed_left k d j));
        rise_is = omega (arith, p.rise_is, long');
        few = p.few;
        also = p.also;
      }

  -- the pieces from the last mark on are opened
  pub record IsOpened (v w : V) (front behind : List X) (ms ms' : List Mark) : Type 0 where
    pub front' : List X
    pub hole' : List X
    pub passed : List X
    pub come : List X
    pub at' : OpenAt w front' hole' (passed ++ behind)
    pub arrived : IsPermutation (left_of v) (left_of w ++ come)
    pub permuted : IsPermutation (front ++ come) (front' ++ passed)
    pub obeyed : All (λ (m : Mark). Splits key m.bound.0 (m.position - length (left_of w)) (front' ++ (passed ++ behind))) ms'
    pub left : All (λ (m : Mark). All (λ x. key x < m.bound.0) (left_of w)) ms'
    pub raised : All (λ (m : Mark). length (left_of w) ≤ m.position) ms'
    pub kept : (bound far : ℕ) → All (λ x. key x < bound) (left_of v) → Splits key bound (length front + far) (front ++ behind) → Splits key bound (length front + length come + far) (front' ++ (passed ++ behind))
    pub bounds : bounds_of ms' ≡ bounds_of ms
    pub few : moved_of w ≤ moved_of v + length ms * length (left_of v)
    pub also : Also v w
    pub shorter : length front' ≤ length front
    pub beyond : 0 < length (left_of w) → All (λ (m : Mark). length front' + length (left_of w) ≤ m.position) ms'

  -- a bound at or below the mark
  opened_low : (v w : V) (front piece behind : List X) (m : Mark) (rise bound place : ℕ) → (one : IsOpen v w front piece behind m rise) → bound ≤ m.bound.0 → place ≤ length front → Splits key bound place ((front ++ piece) ++ behind) → Splits key bound place (front ++ (one.piece' ++ behind))
  opened_low v w front piece behind m rise bound place one below before s =
      let came : All (λ x. bound ≤ key x) one.come = All-weaker (λ x. m.bound.0 ≤ key x) (λ x. bound ≤ key x) (λ x h. omega (arith, h, below)) one.come one.came in
      Splits-low_grown key bound place front piece one.come one.piece' behind before one.piece_is came (subst (λ (f : List X). Splits key bound place f) (append_assoc front piece behind) s)

  -- a bound above all that comes
  opened_high : (v w : V) (front piece behind : List X) (m : Mark) (rise bound far : ℕ) → (one : IsOpen v w front piece behind m rise) → All (λ x. key x < bound) (left_of v) → Splits key bound (length (front ++ piece) + far) ((front ++ piece) ++ behind) → Splits key bound (length front + length one.piece' + far) (front ++ (one.piece' ++ behind))
  opened_high v w front piece behind m rise bound far one under s =
      let came : All (λ x. key x < bound) one.come = All-right (λ x. key x < bound) (left_of w) one.come (All-permutation (λ x. key x < bound) (left_of v) (left_of w ++ one.come) one.arrived under) in
      Splits-high_grown key bound (length (front ++ piece) + far) far front piece one.come one.piece' behind (omega (arith, length-append front piece)) one.piece_is came (subst (λ (f : List X). Splits key bound (length (front ++ piece) + far) f) (append_assoc front piece behind) s)

  -- the marks below
  step_rest : (v w : V) (front piece behind : List X) (m : Mark) (ms : List Mark) (rise : ℕ) → (one : IsOpen v w front piece behind m rise) → Falling (m ∷ ms) → m.position ≡ length front → All (λ (k : Mark). Splits key k.bound.0 k.position ((front ++ piece) ++ behind)) ms → All (λ (k : Mark). Splits key k.bound.0 k.position (front ++ (one.piece' ++ behind))) ms
  step_rest v w front piece behind m ms rise one falling place_is splits = λ k e j.
      let order = falling zero (suc k) e (omega arith) (omega (arith, j)) in
      opened_low v w front piece behind m rise (get_or ms k e).bound.0 (get_or ms k e).position one (omega (arith, order.bounds)) (omega (arith, order.positions, place_is)) (splits k e j)

  step_opened : (v w x : V) (front piece behind : List X) (m : Mark) (ms ms' : List Mark) (rise : ℕ) → (one : IsOpen v w front piece behind m rise) → m.position ≡ length front → Splits key m.bound.0 m.position ((front ++ piece) ++ behind) → IsOpened w x front (one.piece' ++ behind) ms ms' → IsOpened v x (front ++ piece) behind (m ∷ ms) (higher rise m ∷ ms')
  step_opened v w x front piece behind m ms ms' rise one place_is here all =
      let arrived = length_permutation (left_of w) (left_of x ++ all.come) all.arrived in
      let arrived' = length_permutation (left_of v) (left_of w ++ one.come) one.arrived in
      let grown = length_permutation (piece ++ one.come) one.piece' one.piece_is in
      let come_long = length-append (left_of x) all.come in
      let fewer : length (left_of w) ≤ length (left_of v) = omega (arith, arrived', length-append (left_of w) one.come) in
      let counted : length ms * length (left_of w) ≤ length ms * length (left_of v) = mul-le-mul_left (length ms) fewer in
      let whole : all.front' ++ (all.passed ++ (one.piece' ++ behind)) ≡ all.front' ++ ((all.passed ++ one.piece') ++ behind) = ap (λ xs. all.front' ++ xs) (sym (append_assoc all.passed one.piece' behind)) in
      let low = opened_low v w front piece behind m rise m.bound.0 m.position one (omega arith) (omega (arith, place_is)) here in
      let mine = all.kept m.bound.0 0 one.left (subst (λ (k : ℕ). Splits key m.bound.0 k (front ++ (one.piece' ++ behind))) (omega (arith, place_is)) low) in
      let now : length front + length all.come + 0 ≡ (m.position + rise) - length (left_of x) = omega (arith, place_is, one.rise_is, arrived, come_long) in
      let mine_is = subst (λ (k : ℕ). Splits key m.bound.0 k (all.front' ++ (all.passed ++ (one.piece' ++ behind)))) now mine in
      let left_all : All (λ y. key y < m.bound.0) (left_of x) = All-left (λ y. key y < m.bound.0) (left_of x) all.come (All-permutation (λ y. key y < m.bound.0) (left_of w) (left_of x ++ all.come) all.arrived one.left) in
      record {
        front' = all.front';
        hole' = all.hole';
        passed = all.passed ++ one.piece';
        come = all.come ++ one.come;
        at' = subst (λ (b : List X). OpenAt x all.front' all.hole' b) (sym (append_assoc all.passed one.piece' behind)) all.at';
        arrived = rw (append_assoc (left_of x) all.come one.come) at (IsPermutation-trans (left_of v) (left_of w ++ one.come) ((left_of x ++ all.come) ++ one.come) one.arrived (IsPermutation-append_left one.come (left_of w) (left_of x ++ all.come) all.arrived));
        permuted = regrouped front piece one.come all.come all.front' all.passed one.piece' all.permuted one.piece_is;
        obeyed = subst (λ (xs : List X). All (λ (k : Mark). Splits key k.bound.0 (k.position - length (left_of x)) xs) (higher rise m ∷ ms')) whole (All-cons (λ (k : Mark). Splits key k.bound.0 (k.position - length (left_of x)) (all.front' ++ (all.passed ++ (one.piece' ++ behind)))) (higher rise m) ms' mine_is all.obeyed);
        left = All-cons (λ (k : Mark). All (λ y. key y < k.bound.0) (left_of x)) (higher rise m) ms' left_all all.left;
        raised = All-cons (λ (k : Mark). length (left_of x) ≤ k.position) (higher rise m) ms' (omega (arith, one.rise_is, arrived, come_long)) all.raised;
        kept = λ bound far under was.
            let high = opened_high v w front piece behind m rise bound far one under was in
            let under' : All (λ y. key y < bound) (left_of w) = All-left (λ y. key y < bound) (left_of w) one.come (All-permutation (λ y. key y < bound) (left_of v) (left_of w ++ one.come) one.arrived under) in
            let on = all.kept bound (length one.piece' + far) under' (subst (λ (k : ℕ). Splits key bound k (front ++ (one.piece' ++ behind))) (omega arith) high) in
            let place : length front + length all.come + (length one.piece' + far) ≡ length (front ++ piece) + length (all.come ++ one.come) + far = omega (arith, grown, length-append piece one.come, length-append front piece, length-append all.come one.come) in
            subst (λ (xs : List X). Splits key bound (length (front ++ piece) + length (all.come ++ one.come) + far) xs) whole (subst (λ (k : ℕ). Splits key bound k (all.front' ++ (all.passed ++ (one.piece' ++ behind)))) place on);
        bounds = ap (λ bs. m.bound.0 ∷ bs) all.bounds;
        few = omega (arith, one.few, one.rise_is, arrived', length-append (left_of w) one.come, all.few, counted);
        also = Also-trans v w x one.also all.also;
        shorter = omega (arith, all.shorter, length-append front piece);
        beyond = λ some. All-cons (λ (k : Mark). length all.front' + length (left_of x) ≤ k.position) (higher rise m) ms' (omega (arith, place_is, one.rise_is, arrived, come_long, all.shorter)) (all.beyond some);
      }

  -- where nothing has yet to come
  opened_none : (v : V) (front hole behind : List X) (ms : List Mark) → OpenAt v front hole behind → All (λ (k : Mark). Splits key k.bound.0 (k.position - length (left_of v)) (front ++ behind)) ms → All (λ (k : Mark). All (λ x. key x < k.bound.0) (left_of v)) ms → All (λ (k : Mark). length (left_of v) ≤ k.position) ms → (0 < length (left_of v) → All (λ (k : Mark). length front + length (left_of v) ≤ k.position) ms) → IsOpened v v front behind ms ms
  opened_none v front hole behind ms at' splits left raised beyond = record {
    front' = front;
    hole' = hole;
    passed = [];
    come = [];
    at' = at';
    arrived = rw (append-nil (left_of v)) (IsPermutation-refl (left_of v));
    permuted = IsPermutation-refl (front ++ []);
    obeyed = splits;
    left = left;
    raised = raised;
    kept = λ bound far under was. subst (λ (k : ℕ). Splits key bound k (front ++ behind)) (omega arith) was;
    bounds = refl;
    few = omega arith;
    also = Also-refl v;
    shorter = omega arith;
    beyond = beyond;
  }

  -- a walk on which no mark may rise changes nothing
  not_raised : (ms : List Mark) (most last : ℕ) (ms' : List Mark) (v w : V) → most ≡ 0 → Raises Opens most ms v ms' w last → (w ≡ v) × (ms' ≡ ms)
  not_raised ms most last ms' v w none (Raises.done n x) = (refl, refl)
  not_raised ms most last ms' v w none (Raises.stays m ns ns' x y l rest) =
      let all = not_raised ns 0 l ns' x y refl rest in (all.0, ap (λ ks. m ∷ ks) all.1)
  not_raised ms most last ms' v w none (Raises.goes_on n rise l m ns ns' x y z some told rest) = absurd (omega (arith, none, some))

  step_on : (x y z : V) (front piece hole behind : List X) (m : Mark) (ns ns' : List Mark) (rise n : ℕ) → OpenAt x (front ++ piece) hole behind → m.position ≡ length front → n ≡ length (left_of x) → Falling (m ∷ ns) → All (λ (k : Mark). Splits key k.bound.0 k.position ((front ++ piece) ++ behind)) (m ∷ ns) → Opens x m rise y → ((f h b : List X) → OpenAt y f h b → min rise n ≡ length (left_of y) → All (λ k. k.position ≤ length f) ns → Falling ns → All (λ (k : Mark). Splits key k.bound.0 k.position (f ++ b)) ns → IsOpened y z f b ns ns') → IsOpened x z (front ++ piece) behind (m ∷ ns) (higher (min rise n) m ∷ ns')
  step_on x y z front piece hole behind m ns ns' rise n at' place_is most_is falling splits told rec =
      step_all (one_opened x y front piece hole behind m rise at' place_is (told (omega (arith, at'.end_is, place_is, length-append front piece))))
    where
      step_all : IsOpen x y front piece behind m rise → IsOpened x z (front ++ piece) behind (m ∷ ns) (higher (min rise n) m ∷ ns')
      step_all one =
          let arrived = length_permutation (left_of x) (left_of y ++ one.come) one.arrived in
          let clamp : min rise n ≡ rise = omega (arith, one.rise_is, most_is, arrived, length-append (left_of y) one.come) in
          let all = rec front one.hole' (one.piece' ++ behind) one.at' (omega (arith, clamp, one.rise_is)) (λ k e j. omega (arith, (falling zero (suc k) e (omega arith) (omega (arith, j))).positions, place_is)) (λ i j e i_j j_in. falling (suc i) (suc j) e (omega (arith, i_j)) (omega (arith, j_in))) (step_rest x y front piece behind m ns rise one falling place_is (All-tail (λ (k : Mark). Splits key k.bound.0 k.position ((front ++ piece) ++ behind)) m ns splits)) in
          subst (λ (k : ℕ). IsOpened x z (front ++ piece) behind (m ∷ ns) (higher k m ∷ ns')) (sym clamp) (step_opened x y z front piece behind m ns ns' rise one place_is (All-head (λ (k : Mark). Splits key k.bound.0 k.position ((front ++ piece) ++ behind)) m ns splits) all)

  pub opened : (ms : List Mark) (most last : ℕ) (ms' : List Mark) (v w : V) (front hole behind : List X) → OpenAt v front hole behind → most ≡ length (left_of v) → All (λ m. m.position ≤ length front) ms → Falling ms → All (λ (m : Mark). Splits key m.bound.0 m.position (front ++ behind)) ms → Raises Opens most ms v ms' w last → IsOpened v w front behind ms ms'
  opened ms most last ms' v w front hole behind h most_is inside falling splits (Raises.done n x) =
      opened_none x front hole behind [] h (All-nil (λ (k : Mark). Splits key k.bound.0 (k.position - length (left_of x)) (front ++ behind))) (All-nil (λ (k : Mark). All (λ x. key x < k.bound.0) (left_of v))) (All-nil (λ (k : Mark). length (left_of x) ≤ k.position)) (λ some. All-nil (λ (k : Mark). length front + length (left_of x) ≤ k.position))
  opened ms most last ms' v w front hole behind h most_is inside falling splits (Raises.stays m ns ns' x y l rest) =
      let same = not_raised ns 0 l ns' x y refl rest in
      let none = opened_none x front hole behind (m ∷ ns) h (λ k e j. subst (λ (p : ℕ). Splits key (get_or (m ∷ ns) k e).bound.0 p (front ++ behind)) (omega (arith, most_is)) (splits k e j)) (λ k e j i d i_in. absurd (omega (arith, most_is, i_in))) (λ k e j. omega (arith, most_is)) (λ some. absurd (omega (arith, most_is, some))) in
      subst (λ (t : V). IsOpened x t front behind (m ∷ ns) (m ∷ ns')) (sym same.0) (subst (λ (ks : List Mark). IsOpened x x front behind (m ∷ ns) (m ∷ ks)) (sym same.1) none)
  opened ms most last ms' v w front hole behind h most_is inside falling splits (Raises.goes_on n rise l m ns ns' x y z some told rest) =
      let before = All-head (λ (k : Mark). k.position ≤ length front) m ns inside in
      let front_is : take m.position front ++ drop m.position front ≡ front = take-append-drop m.position front in
      let go = λ (at' : OpenAt x (take m.position front ++ drop m.position front) hole behind) (splits' : All (λ (k : Mark). Splits key k.bound.0 k.position ((take m.position front ++ drop m.position front) ++ behind)) (m ∷ ns)).
      step_on x y z (take m.position front) (drop m.position front) hole behind m ns ns' rise n at' (sym (length-take-le m.position front before)) most_is falling splits' told (λ f h' b at'' most' inside' falling' splits''. opened ns (min rise n) l ns' y z f h' b at'' most' inside' falling' splits'' rest) in
      subst (λ (f : List X). IsOpened x z f behind (m ∷ ns) (higher (min rise n) m ∷ ns')) front_is (go (subst (λ (f : List X). OpenAt x f hole behind) (sym front_is) h) (subst (λ (f : List X). All (λ (k : Mark). Splits key k.bound.0 k.position (f ++ behind)) (m ∷ ns)) (sym front_is) splits))

  -- the arrivals that are left are put into the hole
  put_left : (bound place : ℕ) (front left passed : List X) → (0 < length left → length front + length left ≤ place) → All (λ x. key x < bound) left → Splits key bound (place - length left) (front ++ passed) → Splits key bound place (front ++ (left ++ passed))
  put_left bound place front left passed beyond under s = elim (cases_lt 0 (length left)) [
    | inl some ↦
        let far : ℕ = place - length left - length front in
        let past = beyond some in
        let high = Splits-high key bound (place - length left) far front [] left passed (omega (arith, past)) under s in
        subst (λ (k : ℕ). Splits key bound k (front ++ (left ++ passed))) (omega (arith, past)) high
    | inr none ↦
        let nothing : left ≡ [] = nil_from_length left (omega (arith, none)) in
        let same : place - length left ≡ place = omega (arith, none) in
        subst (λ (xs : List X). Splits key bound place (front ++ (xs ++ passed))) (sym nothing) (subst (λ (k : ℕ). Splits key bound k (front ++ passed)) same s)
  ]

  -- all pieces are opened, and the arrivals that are left are put into the hole
  pub record IsOpenedWhole (v w : V) (front rows : List X) (ms ms' : List Mark) : Type 0 where
    pub permuted : IsPermutation (front ++ left_of v) rows
    pub obeyed : All (λ (m : Mark). Splits key m.bound.0 m.position rows) ms'
    pub bounds : bounds_of ms' ≡ bounds_of ms
    pub few : moved_of w ≤ moved_of v + length ms * length (left_of v)
    pub also : Also v w

  pub opened_whole : (ms : List Mark) (most last : ℕ) (ms' : List Mark) (v w : V) (front hole rows : List X) → OpenAt v front hole [] → most ≡ length (left_of v) → All (λ m. m.position ≤ length front) ms → Falling ms → All (λ (m : Mark). Splits key m.bound.0 m.position front) ms → Raises Opens most ms v ms' w last → rows ≡ take (end_of w) (rows_of w) ++ (left_of w ++ drop (end_of w + length (left_of w)) (rows_of w)) → IsOpenedWhole v w front rows ms ms'
  opened_whole ms most last ms' v w front hole rows h most_is inside falling splits walk rows_are =
      whole_of (opened ms most last ms' v w front hole [] h most_is inside falling (λ k e j. subst (λ (f : List X). Splits key (get_or ms k e).bound.0 (get_or ms k e).position f) (sym (append-nil front)) (splits k e j)) walk)
    where
      whole_of : IsOpened v w front [] ms ms' → IsOpenedWhole v w front rows ms ms'
      whole_of all =
          let left = left_of w in
          let at' = all.at' in
          let first : take (end_of w) (rows_of w) ≡ all.front' = ap (take (end_of w)) at'.rows_are ∙ take_at all.front' (all.hole' ++ (all.passed ++ [])) (end_of w) (sym at'.end_is) in
          let whole : rows_of w ≡ (all.front' ++ all.hole') ++ (all.passed ++ []) = at'.rows_are ∙ sym (append_assoc all.front' all.hole' (all.passed ++ [])) in
          let rest : drop (end_of w + length left) (rows_of w) ≡ all.passed = ap (drop (end_of w + length left)) whole ∙ drop_at (all.front' ++ all.hole') (all.passed ++ []) (end_of w + length left) (omega (arith, at'.end_is, at'.gap_is, length-append all.front' all.hole')) ∙ append-nil all.passed in
          let now : rows ≡ all.front' ++ (left ++ all.passed) = rows_are ∙ ap (λ xs. xs ++ (left ++ drop (end_of w + length left) (rows_of w))) first ∙ ap (λ xs. all.front' ++ (left ++ xs)) rest in
          record {
            permuted = subst (λ (xs : List X). IsPermutation (front ++ left_of v) xs) (sym now) (put_together front (left_of v) left all.come all.front' all.passed all.arrived all.permuted);
            obeyed = λ k e j. subst (λ (xs : List X). Splits key (get_or ms' k e).bound.0 (get_or ms' k e).position xs) (sym now) (put_left (get_or ms' k e).bound.0 (get_or ms' k e).position all.front' left all.passed (λ some. all.beyond some k e j) (all.left k e j) (subst (λ (xs : List X). Splits key (get_or ms' k e).bound.0 ((get_or ms' k e).position - length left) (all.front' ++ xs)) (append-nil all.passed) (all.obeyed k e j)));
            bounds = all.bounds;
            few = all.few;
            also = all.also;
          }
