-- A column whose pieces are closed over the rows that go, from the lowest piece up.
use Rattle.std.proofs.Common.{◌≡◌, ℕ, zero, suc, ◌+◌, ◌-◌, ◌*◌, ◌≤◌, Bool, true, false, max, List, [], ◌∷◌, ◌++◌, length, take, drop, get_or, refl, sym, ap, subst, ◌∙◌, arith}
use Rattle.std.specs.List.{All, between}
use Rattle.std.proofs.Math.Nat.{mul-le-mul_left}
use Rattle.std.specs.List.Sorted.{IsPermutation}
use Rattle.std.proofs.lemmas.List.{append_assoc, append-nil, length-append, length-take-le, take-append-drop, take_at, drop_at, drop-drop}
use Rattle.std.proofs.lemmas.List.Elements.{All-nil, All-cons, All-append, All-head, All-tail}
use Rattle.std.proofs.lemmas.List.Sorted.{IsPermutation-refl, IsPermutation-trans, IsPermutation-append_left, IsPermutation-append_right, IsPermutation-append_comm, All-permutation, length_permutation}
use Rattle.crack_index.specs.declared.mark.Mark.{Mark}
use Rattle.crack_index.specs.Marks.{Rising, bounds_of}
use Rattle.crack_index.specs.Places.{Places, at_place}
use Rattle.crack_store.specs.Passes.{ClosesPiece}
use Rattle.crack_store.proofs.SplitLaws.{Splits, Splits-low_left, Splits-high_left}

module _ {V X : Type 0} (rows_of : V → List X) (from_of gap_of moved_of : V → ℕ) (goes_of : V → X → Bool) (Also : V → V → Type 0) where
  abbrev pub Steps : V → ℕ → ℕ → V → Type 0
  Steps = ClosesPiece rows_of from_of gap_of moved_of goes_of Also

  -- at a mark
  abbrev pub Closes : V → Mark → ℕ → V → Type 0
  Closes v m place w = from_of v ≤ m.position → m.position ≤ length (rows_of v) → Steps v m.position place w

  -- what stays, what is left and what is in the hole, in another order
  regrouped : (piece after hole stay out hole' passed behind' hole'' : List X) → IsPermutation piece (stay ++ out) → IsPermutation (hole ++ out) hole' → IsPermutation (after ++ hole') ((passed ++ behind') ++ hole'') → IsPermutation ((piece ++ after) ++ hole) (((stay ++ passed) ++ behind') ++ hole'')
  regrouped piece after hole stay out hole' passed behind' hole'' parted grown rest =
      let first : IsPermutation ((piece ++ after) ++ hole) (((stay ++ out) ++ after) ++ hole) = IsPermutation-append_left hole (piece ++ after) ((stay ++ out) ++ after) (IsPermutation-append_left after piece (stay ++ out) parted) in
      let assoc : ((stay ++ out) ++ after) ++ hole ≡ stay ++ (out ++ (after ++ hole)) = append_assoc (stay ++ out) after hole ∙ append_assoc stay out (after ++ hole) in
      let turned : IsPermutation (out ++ (after ++ hole)) (after ++ (hole ++ out)) = rw (append_assoc after hole out) at (IsPermutation-append_comm out (after ++ hole)) in
      let second : IsPermutation (out ++ (after ++ hole)) ((passed ++ behind') ++ hole'') = IsPermutation-trans (out ++ (after ++ hole)) (after ++ (hole ++ out)) ((passed ++ behind') ++ hole'') turned (IsPermutation-trans (after ++ (hole ++ out)) (after ++ hole') ((passed ++ behind') ++ hole'') (IsPermutation-append_right after (hole ++ out) hole' grown) rest) in
      let third = IsPermutation-append_right stay (out ++ (after ++ hole)) ((passed ++ behind') ++ hole'') second in
      let last : stay ++ ((passed ++ behind') ++ hole'') ≡ ((stay ++ passed) ++ behind') ++ hole'' = sym (append_assoc stay (passed ++ behind') hole'') ∙ ap (λ xs. xs ++ hole'') (sym (append_assoc stay passed behind')) in
      rw last at (IsPermutation-trans ((piece ++ after) ++ hole) (stay ++ (out ++ (after ++ hole))) (stay ++ ((passed ++ behind') ++ hole'')) (rw assoc at first) third)

  whole_moved : (passed piece hole stay out hole' : List X) → IsPermutation piece (stay ++ out) → IsPermutation (hole ++ out) hole' → IsPermutation ((passed ++ piece) ++ hole) ((passed ++ stay) ++ hole')
  whole_moved passed piece hole stay out hole' parted grown =
      let moved = regrouped piece [] hole stay out hole' [] [] hole' parted grown (IsPermutation-refl hole') in
      let plain : IsPermutation (piece ++ hole) (stay ++ hole') = rw (append-nil piece, append-nil stay, append-nil stay) at moved in
      rw (append_assoc passed piece hole, append_assoc passed stay hole') (IsPermutation-append_right passed (piece ++ hole) (stay ++ hole') plain)

  -- the rows before the hole, in it and after it
  pub record HoleAt (v : V) (front hole behind : List X) : Type 0 where
    pub rows_are : rows_of v ≡ front ++ (hole ++ behind)
    pub gap_is : gap_of v ≡ length hole
    pub from_is : from_of v ≡ length front + length hole

  -- one piece is closed
  pub record IsOn (v w : V) (front piece behind hole : List X) (place : ℕ) : Type 0 where
    pub stay : List X
    pub out : List X
    pub hole' : List X
    pub at' : HoleAt w (front ++ stay) hole' behind
    pub piece_is : IsPermutation piece (stay ++ out)
    pub hole_is : IsPermutation (hole ++ out) hole'
    pub stays : All (λ x. goes_of v x ≡ false) stay
    pub went : All (λ x. goes_of v x ≡ true) out
    pub place_is : place ≡ length front + length stay
    pub few : moved_of w ≤ moved_of v + gap_of w
    pub also : Also v w

  pub one_closed : (v w : V) (front hole piece behind : List X) (to place : ℕ) → HoleAt v front hole (piece ++ behind) → to ≡ from_of v + length piece → Steps v to place w → IsOn v w front piece behind hole place
  one_closed v w front hole piece behind to place h to_is p =
      let rows = rows_of v in
      let start_is : from_of v - gap_of v ≡ length front = omega (arith, h.from_is, h.gap_is) in
      let front_is : take (from_of v - gap_of v) rows ≡ front = ap (λ n. take n rows) start_is ∙ ap (take (length front)) h.rows_are ∙ take_at front (hole ++ (piece ++ behind)) (length front) refl in
      let after_front : drop (from_of v - gap_of v) rows ≡ hole ++ (piece ++ behind) = ap (λ n. drop n rows) start_is ∙ ap (drop (length front)) h.rows_are ∙ drop_at front (hole ++ (piece ++ behind)) (length front) refl in
      let hole_at : between (from_of v - gap_of v) (from_of v) rows ≡ hole = ap (take (from_of v - (from_of v - gap_of v))) after_front ∙ take_at hole (piece ++ behind) (from_of v - (from_of v - gap_of v)) (omega (arith, h.from_is, h.gap_is)) in
      let whole : rows ≡ (front ++ hole) ++ (piece ++ behind) = h.rows_are ∙ sym (append_assoc front hole (piece ++ behind)) in
      let first_long : length (front ++ hole) ≡ from_of v = omega (arith, h.from_is, length-append front hole) in
      let after : drop (from_of v) rows ≡ piece ++ behind = ap (drop (from_of v)) whole ∙ drop_at (front ++ hole) (piece ++ behind) (from_of v) first_long in
      let piece_at : between (from_of v) to rows ≡ piece = ap (take (to - from_of v)) after ∙ take_at piece behind (to - from_of v) (omega (arith, to_is)) in
      let behind_at : drop to rows ≡ behind = ap (λ n. drop n rows) to_is ∙ sym (drop-drop (length piece) (from_of v) rows) ∙ ap (drop (length piece)) after ∙ drop_at piece behind (length piece) refl in
      let kept : IsPermutation piece (p.stay ++ p.out) = rw piece_at at p.piece in
      let grown : IsPermutation (hole ++ p.out) p.hole = rw hole_at at p.hole_is in
      let size = length_permutation piece (p.stay ++ p.out) kept in
      let size' = length_permutation (hole ++ p.out) p.hole grown in
      let place_is : place ≡ length front + length p.stay = omega (arith, p.place_is, start_is) in
      record {
        stay = p.stay;
        out = p.out;
        hole' = p.hole;
        at' = record {
          rows_are = p.rows_are ∙ rw (front_is, behind_at) (sym (append_assoc front p.stay (p.hole ++ behind)));
          gap_is = omega (arith, p.gap_is, place_is, to_is, h.from_is, size, size', length-append p.stay p.out, length-append hole p.out);
          from_is = omega (arith, p.from_is, to_is, h.from_is, size, size', length-append p.stay p.out, length-append hole p.out, length-append front p.stay);
        };
        piece_is = kept;
        hole_is = grown;
        stays = p.stays;
        went = p.leaves;
        place_is = place_is;
        few = p.few;
        also = p.also;
      }

  -- the place of the last mark, or the given one if there is none
  abbrev pub last_from : ℕ → List Mark → ℕ
  last_from from [] = from
  last_from from (m ∷ ms) = last_from m.position ms

  module _ (key : X → ℕ) (Also-refl : (v : V) → Also v v) (Also-trans : (u v w : V) → Also u v → Also v w → Also u w) (same_goes : (v w : V) → Also v w → goes_of w ≡ goes_of v) where
    -- the pieces up to the last mark are closed
    pub record IsClosed (v w : V) (front hole behind : List X) (ms ms' : List Mark) : Type 0 where
      pub passed : List X
      pub hole' : List X
      pub behind' : List X
      pub at' : HoleAt w (front ++ passed) hole' behind'
      pub stay : All (λ x. goes_of v x ≡ false) passed
      pub went : All (λ x. goes_of v x ≡ true) hole → All (λ x. goes_of v x ≡ true) hole'
      pub wider : gap_of v ≤ gap_of w
      pub few : moved_of w ≤ moved_of v + length ms * gap_of w
      pub also : Also v w
      pub permuted : IsPermutation (behind ++ hole) ((passed ++ behind') ++ hole')
      pub obeyed : All (λ (m : Mark). Splits key m.bound.0 m.position ((front ++ passed) ++ behind')) ms'
      pub kept : (bound place : ℕ) → place ≤ length front → Splits key bound place (front ++ behind) → Splits key bound place ((front ++ passed) ++ behind')
      pub placed : All (λ (m : Mark). m.position ≤ length (front ++ passed)) ms'
      pub bounds : bounds_of ms' ≡ bounds_of ms
      pub from_is : from_of w ≡ last_from (from_of v) ms
      pub behind_is : behind' ≡ drop (from_of w - from_of v) behind
      pub on : from_of v ≤ from_of w

    -- the piece that ends at the mark is closed
    record Step (x y : V) (front hole piece after : List X) (m : Mark) (ns : List Mark) (place : ℕ) : Type 0 where
      at' : HoleAt x front hole (piece ++ after)
      one : IsOn x y front piece after hole place
      from : from_of x ≤ m.position
      size : length piece ≡ m.position - from_of x
      from_is : from_of y ≡ m.position
      higher : All (λ (k : Mark). m.position ≤ k.position) ns

    step_sizes : (x y : V) (front hole piece after : List X) (m : Mark) (ns : List Mark) (place : ℕ) → (s : Step x y front hole piece after m ns place) → (length (front ++ s.one.stay) ≡ place) × (gap_of y + place ≡ m.position) × (length (rows_of y) ≡ length (rows_of x))
    step_sizes x y front hole piece after m ns place s =
        let one = s.one in
        let parted = length_permutation piece (one.stay ++ one.out) one.piece_is in
        let grown = length_permutation (hole ++ one.out) one.hole' one.hole_is in
        let front_long = length-append front one.stay in
        let placed : length (front ++ one.stay) ≡ place = omega (arith, one.place_is, front_long) in
        let gap : gap_of y + place ≡ m.position = omega (arith, one.at'.gap_is, one.place_is, s.at'.from_is, s.from, s.size, parted, grown, length-append one.stay one.out, length-append hole one.out) in
        let all : length (rows_of y) ≡ length (rows_of x) = omega (arith, ap length one.at'.rows_are, ap length s.at'.rows_are, length-append (front ++ one.stay) (one.hole' ++ after), length-append one.hole' after, length-append front (hole ++ (piece ++ after)), length-append hole (piece ++ after), length-append piece after, front_long, parted, grown, length-append one.stay one.out, length-append hole one.out) in
        (placed, gap, all)

    step_splits : (x y : V) (front hole piece after : List X) (m : Mark) (ns : List Mark) (place : ℕ) → (s : Step x y front hole piece after m ns place) → (bound q far : ℕ) → q ≡ m.position + far → Splits key bound (q - gap_of x) (front ++ (piece ++ after)) → Splits key bound (q - gap_of y) ((front ++ s.one.stay) ++ after)
    step_splits x y front hole piece after m ns place s bound q far q_is was =
        let one = s.one in
        let sizes = step_sizes x y front hole piece after m ns place s in
        let then_is : q - gap_of x ≡ length front + length piece + far = omega (arith, q_is, s.at'.from_is, s.at'.gap_is, s.size, s.from) in
        let now_is : q - gap_of y ≡ length front + length one.stay + far = omega (arith, q_is, sizes.1, one.place_is) in
        let new = Splits-high_left key bound (q - gap_of x) far front piece one.stay one.out after then_is one.piece_is was in
        let moved : Splits key bound (q - gap_of y) (front ++ (one.stay ++ after)) = subst (λ (k : ℕ). Splits key bound k (front ++ (one.stay ++ after))) (sym now_is) new in
        subst (λ (f : List X). Splits key bound (q - gap_of y) f) (sym (append_assoc front one.stay after)) moved

    step_rest : (x y : V) (front hole piece after : List X) (m : Mark) (ns : List Mark) (place : ℕ) → Step x y front hole piece after m ns place → All (λ (k : Mark). Splits key k.bound.0 (k.position - gap_of x) (front ++ (piece ++ after))) ns → (stay : List X) → (s : Step x y front hole piece after m ns place) → stay ≡ s.one.stay → All (λ (k : Mark). Splits key k.bound.0 (k.position - gap_of y) ((front ++ stay) ++ after)) ns
    step_rest x y front hole piece after m ns place s0 splits stay s same = λ k e j.
        let q = get_or ns k e in
        let far : ℕ = q.position - m.position in
        let q_is : q.position ≡ m.position + far = omega (arith, s.higher k e j) in
        subst (λ (c : List X). Splits key q.bound.0 (q.position - gap_of y) ((front ++ c) ++ after)) (sym same) (step_splits x y front hole piece after m ns place s q.bound.0 q.position far q_is (splits k e j))

    -- and those above it
    step_closed : (x y z : V) (front hole piece after : List X) (m : Mark) (ns ns' : List Mark) (place : ℕ) → (s : Step x y front hole piece after m ns place) → Splits key m.bound.0 (m.position - gap_of x) (front ++ (piece ++ after)) → IsClosed y z (front ++ s.one.stay) s.one.hole' after ns ns' → IsClosed x z front hole (piece ++ after) (m ∷ ns) (at_place place m ∷ ns')
    step_closed x y z front hole piece after m ns ns' place s here all =
        let one = s.one in
        let sizes = step_sizes x y front hole piece after m ns place s in
        let goes : goes_of y ≡ goes_of x = same_goes x y one.also in
        let widened : gap_of x ≤ gap_of y = omega (arith, s.at'.gap_is, one.at'.gap_is, length_permutation (hole ++ one.out) one.hole' one.hole_is, length-append hole one.out) in
        let whole : front ++ (one.stay ++ all.passed) ≡ (front ++ one.stay) ++ all.passed = sym (append_assoc front one.stay all.passed) in
        let gap : m.position - gap_of y ≡ length (front ++ one.stay) = omega (arith, sizes.0, sizes.1) in
        let here_is : Splits key m.bound.0 (length (front ++ one.stay)) ((front ++ one.stay) ++ after) = subst (λ (k : ℕ). Splits key m.bound.0 k ((front ++ one.stay) ++ after)) gap (step_splits x y front hole piece after m ns place s m.bound.0 m.position 0 (omega arith) here) in
        let mine : Splits key m.bound.0 place (((front ++ one.stay) ++ all.passed) ++ all.behind') = subst (λ (k : ℕ). Splits key m.bound.0 k (((front ++ one.stay) ++ all.passed) ++ all.behind')) sizes.0 (all.kept m.bound.0 (length (front ++ one.stay)) (omega arith) here_is) in
        record {
          passed = one.stay ++ all.passed;
          hole' = all.hole';
          behind' = all.behind';
          at' = subst (λ (f : List X). HoleAt z f all.hole' all.behind') (sym whole) all.at';
          stay = All-append (λ e. goes_of x e ≡ false) one.stay all.passed one.stays (subst (λ (g : X → Bool). All (λ e. g e ≡ false) all.passed) goes all.stay);
          went = λ g. subst (λ (t : X → Bool). All (λ e. t e ≡ true) all.hole') goes (all.went (subst (λ (t : X → Bool). All (λ e. t e ≡ true) one.hole') (sym goes) (All-permutation (λ e. goes_of x e ≡ true) (hole ++ one.out) one.hole' one.hole_is (All-append (λ e. goes_of x e ≡ true) hole one.out g one.went))));
          wider = omega (arith, widened, all.wider);
          few = omega (arith, one.few, all.few, all.wider);
          also = Also-trans x y z one.also all.also;
          permuted = regrouped piece after hole one.stay one.out one.hole' all.passed all.behind' all.hole' one.piece_is one.hole_is all.permuted;
          obeyed = subst (λ (f : List X). All (λ (k : Mark). Splits key k.bound.0 k.position (f ++ all.behind')) (at_place place m ∷ ns')) (sym whole) (All-cons (λ (k : Mark). Splits key k.bound.0 k.position (((front ++ one.stay) ++ all.passed) ++ all.behind')) (at_place place m) ns' mine all.obeyed);
          kept = λ bound q within was.
              let low = Splits-low_left key bound q front piece one.stay one.out after within one.piece_is was in
              let front_is : Splits key bound q ((front ++ one.stay) ++ after) = subst (λ (f : List X). Splits key bound q f) (sym (append_assoc front one.stay after)) low in
              subst (λ (f : List X). Splits key bound q (f ++ all.behind')) (sym whole) (all.kept bound q (omega (arith, within, length-append front one.stay)) front_is);
          placed = subst (λ (f : List X). All (λ (k : Mark). k.position ≤ length f) (at_place place m ∷ ns')) (sym whole) (All-cons (λ (k : Mark). k.position ≤ length ((front ++ one.stay) ++ all.passed)) (at_place place m) ns' (omega (arith, sizes.0, length-append (front ++ one.stay) all.passed)) all.placed);
          bounds = ap (λ bs. m.bound.0 ∷ bs) all.bounds;
          from_is = all.from_is ∙ ap (λ k. last_from k ns) s.from_is;
          behind_is = all.behind_is ∙ ap (λ k. drop k after) (omega (arith, s.from_is, all.on)) ∙ past piece after (from_of z - from_of x) (from_of z - m.position) (omega (arith, s.size, s.from, s.from_is, all.on));
          on = omega (arith, s.from_is, s.from, all.on);
        }
      where
        past : (xs ys : List X) (n k : ℕ) → n ≡ length xs + k → drop k ys ≡ drop n (xs ++ ys)
        past xs ys n k e = sym (ap (λ j. drop j (xs ++ ys)) e ∙ sym (drop-drop k (length xs) (xs ++ ys)) ∙ ap (drop k) (drop_at xs ys (length xs) refl))

    step_on : (x y z : V) (front hole piece after : List X) (m : Mark) (ns ns' : List Mark) (place n : ℕ) → HoleAt x front hole (piece ++ after) → length piece ≡ m.position - from_of x → n ≤ length front → All (λ k. (from_of x ≤ k.position) × (k.position ≤ length (rows_of x))) (m ∷ ns) → Rising (m ∷ ns) → All (λ (k : Mark). Splits key k.bound.0 (k.position - gap_of x) (front ++ (piece ++ after))) (m ∷ ns) → Closes x m place y → ((f h a : List X) → HoleAt y f h a → max place n ≤ length f → All (λ k. (from_of y ≤ k.position) × (k.position ≤ length (rows_of y))) ns → Rising ns → All (λ (k : Mark). Splits key k.bound.0 (k.position - gap_of y) (f ++ a)) ns → IsClosed y z f h a ns ns') → IsClosed x z front hole (piece ++ after) (m ∷ ns) (at_place (max place n) m ∷ ns')
    step_on x y z front hole piece after m ns ns' place n at' size low inside rising splits told rec =
        let inner = All-head (λ (k : Mark). (from_of x ≤ k.position) × (k.position ≤ length (rows_of x))) m ns inside in
        let p = told inner.0 inner.1 in
        step_all (one_closed x y front hole piece after m.position place at' (omega (arith, inner.0, size)) p) inner.0 p.from_is
      where
        step_all : IsOn x y front piece after hole place → from_of x ≤ m.position → from_of y ≡ m.position → IsClosed x z front hole (piece ++ after) (m ∷ ns) (at_place (max place n) m ∷ ns')
        step_all one from from_is =
            let s : Step x y front hole piece after m ns place = record { at' = at'; one = one; from = from; size = size; from_is = from_is; higher = λ k e j. (rising zero (suc k) e (omega arith) (omega (arith, j))).positions } in
            let sizes = step_sizes x y front hole piece after m ns place s in
            let clamp : max place n ≡ place = omega (arith, one.place_is, low) in
            let all = rec (front ++ one.stay) one.hole' after one.at' (omega (arith, clamp, sizes.0)) (λ k e j.
            let order = rising zero (suc k) e (omega arith) (omega (arith, j)) in
            (omega (arith, order.positions, from_is), omega (arith, (All-tail (λ (q : Mark). (from_of x ≤ q.position) × (q.position ≤ length (rows_of x))) m ns inside k e j).1, sizes.2))) (λ i j e i_j j_in. rising (suc i) (suc j) e (omega (arith, i_j)) (omega (arith, j_in))) (step_rest x y front hole piece after m ns place s (All-tail (λ (r : Mark). Splits key r.bound.0 (r.position - gap_of x) (front ++ (piece ++ after))) m ns splits) one.stay s refl) in
            subst (λ (k : ℕ). IsClosed x z front hole (piece ++ after) (m ∷ ns) (at_place k m ∷ ns')) (sym clamp) (step_closed x y z front hole piece after m ns ns' place s (All-head (λ (r : Mark). Splits key r.bound.0 (r.position - gap_of x) (front ++ (piece ++ after))) m ns splits) all)

    pub closed : (ms : List Mark) (least last : ℕ) (ms' : List Mark) (v w : V) (front hole behind : List X) → HoleAt v front hole behind → least ≤ length front → All (λ m. (from_of v ≤ m.position) × (m.position ≤ length (rows_of v))) ms → Rising ms → All (λ (m : Mark). Splits key m.bound.0 (m.position - gap_of v) (front ++ behind)) ms → Places Closes least ms v ms' w last → IsClosed v w front hole behind ms ms'
    closed ms least last ms' v w front hole behind h low inside rising splits (Places.done n x) = record {
      passed = [];
      hole' = hole;
      behind' = behind;
      at' = rw (append-nil front) h;
      stay = All-nil (λ e. goes_of x e ≡ false);
      went = λ all. all;
      wider = omega arith;
      few = omega arith;
      also = Also-refl x;
      permuted = IsPermutation-refl (behind ++ hole);
      obeyed = All-nil (λ (m : Mark). Splits key m.bound.0 m.position ((front ++ []) ++ behind));
      kept = λ b p within s. rw (append-nil front) s;
      placed = All-nil (λ (m : Mark). m.position ≤ length (front ++ []));
      bounds = refl;
      from_is = refl;
      behind_is = let none : from_of x - from_of x ≡ 0 = omega arith in sym (ap (λ k. drop k behind) none);
      on = omega arith;
    }
    closed ms least last ms' v w front hole behind h low inside rising splits (Places.goes_on n place l m ns ns' x y z told rest) =
        let inner = All-head (λ (k : Mark). (from_of x ≤ k.position) × (k.position ≤ length (rows_of x))) m ns inside in
        let count : ℕ = m.position - from_of x in
        let behind_are : take count behind ++ drop count behind ≡ behind = take-append-drop count behind in
        let go = λ (at' : HoleAt x front hole (take count behind ++ drop count behind)) (splits' : All (λ (k : Mark). Splits key k.bound.0 (k.position - gap_of x) (front ++ (take count behind ++ drop count behind))) (m ∷ ns)).
        step_on x y z front hole (take count behind) (drop count behind) m ns ns' place n at' (length-take-le count behind (omega (arith, inner.0, inner.1, ap length h.rows_are, h.from_is, length-append front (hole ++ behind), length-append hole behind))) low inside rising splits' told (λ f h' a at'' low' inside' rising' splits''. closed ns (max place n) l ns' y z f h' a at'' low' inside' rising' splits'' rest) in
        subst (λ (b : List X). IsClosed x z front hole b (m ∷ ns) (at_place (max place n) m ∷ ns')) behind_are (go (subst (λ (b : List X). HoleAt x front hole b) (sym behind_are) h) (subst (λ (b : List X). All (λ (k : Mark). Splits key k.bound.0 (k.position - gap_of x) (front ++ b)) (m ∷ ns)) (sym behind_are) splits))

    -- all pieces are closed: the rows that stay come first
    pub record IsClosedWhole (v x : V) (ms ms' : List Mark) (live : ℕ) : Type 0 where
      pub within : live ≤ length (rows_of x)
      pub stay : All (λ e. goes_of v e ≡ false) (take live (rows_of x))
      pub leave : All (λ e. goes_of v e ≡ true) (drop live (rows_of x))
      pub permuted : IsPermutation (rows_of v) (rows_of x)
      pub obeyed : All (λ (m : Mark). Splits key m.bound.0 m.position (take live (rows_of x))) ms'
      pub bounds : bounds_of ms' ≡ bounds_of ms
      pub few : moved_of x ≤ moved_of v + (length ms + 1) * (length (rows_of x) - live)
      pub also : Also v x

    pub closed_whole : (ms : List Mark) (last : ℕ) (ms' : List Mark) (v w x : V) (to live : ℕ) → from_of v ≡ 0 → gap_of v ≡ 0 → All (λ (m : Mark). m.position ≤ length (rows_of v)) ms → Rising ms → All (λ (m : Mark). Splits key m.bound.0 m.position (rows_of v)) ms → Places Closes 0 ms v ms' w last → to ≡ length (rows_of w) → Steps w to live x → IsClosedWhole v x ms ms' live
    closed_whole ms last ms' v w x to live from_is gap_is inside rising splits walk to_is step =
        let at' : HoleAt v [] [] (rows_of v) = record { rows_are = refl; gap_is = gap_is; from_is = from_is } in
        let all = closed ms 0 last ms' v w [] [] (rows_of v) at' (omega arith) (λ k e j. (omega (arith, from_is), inside k e j)) rising (λ k e j. subst (λ (p : ℕ). Splits key (get_or ms k e).bound.0 p (rows_of v)) (omega (arith, gap_is)) (splits k e j)) walk in
        let behind_long : length (rows_of w) ≡ length all.passed + length all.hole' + length all.behind' = ap length all.at'.rows_are ∙ omega (arith, length-append all.passed (all.hole' ++ all.behind'), length-append all.hole' all.behind') in
        let here : HoleAt w all.passed all.hole' (all.behind' ++ []) = subst (λ (b : List X). HoleAt w all.passed all.hole' b) (sym (append-nil all.behind')) all.at' in
        last_closed all (one_closed w x all.passed all.hole' all.behind' [] to live here (omega (arith, to_is, behind_long, here.from_is)) step)
      where
        last_closed : (all : IsClosed v w [] [] (rows_of v) ms ms') → IsOn w x all.passed all.behind' [] all.hole' live → IsClosedWhole v x ms ms' live
        last_closed all one =
            let front = all.passed ++ one.stay in
            let front_long : length front ≡ live = omega (arith, one.place_is, length-append all.passed one.stay) in
            let rows : rows_of x ≡ front ++ one.hole' = one.at'.rows_are ∙ ap (λ ys. front ++ ys) (append-nil one.hole') in
            let first : take live (rows_of x) ≡ front = ap (take live) rows ∙ take_at front one.hole' live front_long in
            let rest : drop live (rows_of x) ≡ one.hole' = ap (drop live) rows ∙ drop_at front one.hole' live front_long in
            let goes : goes_of w ≡ goes_of v = same_goes v w all.also in
            let stays : All (λ e. goes_of v e ≡ false) one.stay = subst (λ (t : X → Bool). All (λ e. t e ≡ false) one.stay) goes one.stays in
            let outs : All (λ e. goes_of v e ≡ true) one.out = subst (λ (t : X → Bool). All (λ e. t e ≡ true) one.out) goes one.went in
            let gap : gap_of x ≡ length (rows_of x) - live = omega (arith, one.at'.gap_is, ap length rows, front_long, length-append front one.hole') in
            let size = length_permutation (all.hole' ++ one.out) one.hole' one.hole_is in
            let wider : gap_of w ≤ gap_of x = omega (arith, all.at'.gap_is, one.at'.gap_is, size, length-append all.hole' one.out) in
            let counted : length ms * gap_of w ≤ length ms * gap_of x = mul-le-mul_left (length ms) wider in
            record {
              within = omega (arith, ap length rows, front_long, length-append front one.hole');
              stay = rw first (All-append (λ e. goes_of v e ≡ false) all.passed one.stay all.stay stays);
              leave = rw rest (All-permutation (λ e. goes_of v e ≡ true) (all.hole' ++ one.out) one.hole' one.hole_is (All-append (λ e. goes_of v e ≡ true) all.hole' one.out (all.went (All-nil (λ e. goes_of v e ≡ true))) outs));
              permuted = subst (λ (ys : List X). IsPermutation (rows_of v) ys) (sym rows) (subst (λ (ys : List X). IsPermutation ys (front ++ one.hole')) (append-nil (rows_of v)) (IsPermutation-trans (rows_of v ++ []) ((all.passed ++ all.behind') ++ all.hole') (front ++ one.hole') all.permuted (whole_moved all.passed all.behind' all.hole' one.stay one.out one.hole' one.piece_is one.hole_is)));
              obeyed = rw first (λ k e j. subst (λ (f : List X). Splits key (get_or ms' k e).bound.0 (get_or ms' k e).position f) (ap (λ ys. all.passed ++ ys) (append-nil one.stay)) (Splits-low_left key (get_or ms' k e).bound.0 (get_or ms' k e).position all.passed all.behind' one.stay one.out [] (all.placed k e j) one.piece_is (subst (λ (ys : List X). Splits key (get_or ms' k e).bound.0 (get_or ms' k e).position (all.passed ++ ys)) (sym (append-nil all.behind')) (all.obeyed k e j))));
              bounds = all.bounds;
              few = rw (← gap) (omega (arith, one.few, all.few, counted));
              also = Also-trans v w x all.also one.also;
            }
