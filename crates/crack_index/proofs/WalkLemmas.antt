-- How the steps of a walk over marks make up the walk, and what they keep.
use Rattle.std.proofs.Common.{◌≡◌, ◌⊎◌, ℕ, zero, suc, ◌-◌, ◌<◌, ◌≤◌, Bool, true, false, List, [], ◌∷◌, ◌++◌, reverse, length, get_or, Some, None, refl, sym, ap, subst, ◌∙◌, inl, inr, append_assoc, arith}
use Rattle.std.specs.Prelude.{Option, All, AllPairs, is_some}
use Rattle.std.specs.declared.alloc.Global.{Global}
use Rattle.std.proofs.Common.{Box}
use Rattle.std.specs.Box.{with_value}
use Rattle.std.proofs.lemmas.List.{reverse-append, reverse-reverse, length-reverse, get_or-reverse}
use Rattle.std.proofs.lemmas.List.Elements.{All-nil, All-cons, All-head, All-tail}
use Rattle.crack_index.specs.declared.mark.Mark.{Mark}
use Rattle.crack_index.specs.declared.walk.Way.{Way}
use Rattle.crack_index.specs.Marks.{InOrder, Rising}
use Rattle.crack_index.specs.Steps.{StepsUp, StepsDown, Goes, one_up, one_down}
use Rattle.crack_index.specs.Trees.{Grown, marks_in_tree}
use Rattle.crack_index.specs.Keeps.{height_of, IsBalanced}
use Rattle.crack_index.proofs.Sides.{Rising-before, Rising-behind}

-- Steps over a list

-- those over one list, and then those over another
pub Goes-append : {V : Type 0} (step : Mark → Way → V → Mark → Way → V → Type 0) (xs xs' ys ys' : List Mark) (a b c : Way) (u v w : V) → Goes step xs a u xs' b v → Goes step ys b v ys' c w → Goes step (xs ++ ys) a u (xs' ++ ys') c w
Goes-append step xs xs' ys ys' a b c u v w (Goes.here way x) rest = rest
Goes-append step xs xs' ys ys' a b c u v w (Goes.more m m' ms ms' d e f x y z first onward) rest =
    Goes.more m m' (ms ++ ys) (ms' ++ ys') d e c x y w first (Goes-append step ms ms' ys ys' e f c y z w onward rest)

-- those that leave everything as it is
pub Goes-stay : {V : Type 0} (step : Mark → Way → V → Mark → Way → V → Type 0) (xs : List Mark) (a : Way) (u : V) → All (λ m. step m a u m a u) xs → Goes step xs a u xs a u
Goes-stay step [] a u all = Goes.here a u
Goes-stay step (m ∷ ms) a u all = Goes.more m m ms ms a a a u u u (All-head (λ x. step x a u x a u) m ms all) (Goes-stay step ms a u (All-tail (λ x. step x a u x a u) m ms all))

pub Goes-length : {V : Type 0} (step : Mark → Way → V → Mark → Way → V → Type 0) (xs xs' : List Mark) (a b : Way) (u v : V) → Goes step xs a u xs' b v → length xs' ≡ length xs
Goes-length step xs xs' a b u v (Goes.here way x) = refl
Goes-length step xs xs' a b u v (Goes.more m m' ms ms' d e f x y z first onward) = ap suc (Goes-length step ms ms' e f y z onward)

-- on the nearer side of a mark, at it, and on the farther side
pub Goes-node : {V : Type 0} (step : Mark → Way → V → Mark → Way → V → Type 0) (xs xs' : List Mark) (m m' : Mark) (ys ys' : List Mark) (a b c d : Way) (u v w x : V) → Goes step xs a u xs' b v → step m b v m' c w → Goes step ys c w ys' d x → Goes step (xs ++ m ∷ ys) a u (xs' ++ m' ∷ ys') d x
Goes-node step xs xs' m m' ys ys' a b c d u v w x near at far =
    Goes-append step xs xs' (m ∷ ys) (m' ∷ ys') a b d u v x near (Goes.more m m' ys ys' b c d v w x at far)

-- on the nearer side and no further
pub Goes-near : {V : Type 0} (step : Mark → Way → V → Mark → Way → V → Type 0) (xs xs' : List Mark) (m : Mark) (ys : List Mark) (a b : Way) (u v : V) → Goes step xs a u xs' b v → ((n : Mark) → step n b v n b v) → Goes step (xs ++ m ∷ ys) a u (xs' ++ m ∷ ys) b v
Goes-near step xs xs' m ys a b u v near over = Goes-node step xs xs' m m ys ys a b b b u v v v near (over m) (Goes-stay step ys b v (λ k n h. over (get_or ys k n)))

-- as far as the mark, and no further
pub Goes-middle : {V : Type 0} (step : Mark → Way → V → Mark → Way → V → Type 0) (xs xs' : List Mark) (m m' : Mark) (ys : List Mark) (a b c : Way) (u v w : V) → Goes step xs a u xs' b v → step m b v m' c w → ((n : Mark) → step n c w n c w) → Goes step (xs ++ m ∷ ys) a u (xs' ++ m' ∷ ys) c w
Goes-middle step xs xs' m m' ys a b c u v w near at over = Goes-node step xs xs' m m' ys ys a b c c u v w w near at (Goes-stay step ys c w (λ k n h. over (get_or ys k n)))

-- The other way round

pub reverse-more : (m : Mark) (ms ns : List Mark) → reverse (m ∷ ms) ++ ns ≡ reverse ms ++ m ∷ ns
reverse-more m ms ns = ap (λ (xs : List Mark). xs ++ ns) (reverse-append (m ∷ []) ms) ∙ append_assoc (reverse ms) (m ∷ []) ns

pub reverse-node : (l : List Mark) (m : Mark) (r : List Mark) → reverse (l ++ m ∷ r) ≡ reverse r ++ m ∷ reverse l
reverse-node l m r = reverse-append l (m ∷ r) ∙ reverse-more m r (reverse l)

pub Goes-back : {V : Type 0} (step : Mark → Way → V → Mark → Way → V → Type 0) (l l' : List Mark) (m m' : Mark) (r r' : List Mark) (a b : Way) (u v : V) → Goes step (reverse r ++ m ∷ reverse l) a u (reverse r' ++ m' ∷ reverse l') b v → Goes step (reverse (l ++ m ∷ r)) a u (reverse (l' ++ m' ∷ r')) b v
Goes-back step l l' m m' r r' a b u v goes = rw (reverse-node l m r, reverse-node l' m' r') goes

All-reverse : (P : Mark → Type 0) (xs : List Mark) → All P xs → All P (reverse xs)
All-reverse P xs all = λ k d h.
    let long = length-reverse xs in
    rw (get_or-reverse xs k d (omega arith)) (all (length xs - 1 - k) d (omega arith))

pub All-unreverse : (P : Mark → Type 0) (xs : List Mark) → All P (reverse xs) → All P xs
All-unreverse P xs all = subst (λ (ys : List Mark). All P ys) (reverse-reverse xs) (All-reverse P (reverse xs) all)

-- Order

-- pairs in order from the front are in order from the back
pub AllPairs-reverse : (R : Mark → Mark → Type 0) (xs : List Mark) → AllPairs R xs → AllPairs (λ m n. R n m) (reverse xs)
AllPairs-reverse R xs pairs = λ i j d h k.
    let long = length-reverse xs in
    rw (get_or-reverse xs i d (omega arith), get_or-reverse xs j d (omega arith)) (pairs (length xs - 1 - j) (length xs - 1 - i) d (omega arith) (omega arith))

pub AllPairs-cons : (R : Mark → Mark → Type 0) (m : Mark) (ms : List Mark) → All (R m) ms → AllPairs R ms → AllPairs R (m ∷ ms)
AllPairs-cons R m ms first rest zero zero d h k = absurd (omega arith)
AllPairs-cons R m ms first rest zero (suc j) d h k = first j d (omega arith)
AllPairs-cons R m ms first rest (suc i) zero d h k = absurd (omega arith)
AllPairs-cons R m ms first rest (suc i) (suc j) d h k = rest i j d (omega arith) (omega arith)

pub AllPairs-tail : (R : Mark → Mark → Type 0) (m : Mark) (ms : List Mark) → AllPairs R (m ∷ ms) → AllPairs R ms
AllPairs-tail R m ms pairs = λ i j d h k. pairs (suc i) (suc j) d (omega arith) (omega arith)

-- steps that keep two neighbours in order keep all
module _ {V : Type 0} (step : Mark → Way → V → Mark → Way → V → Type 0) (R : Mark → Mark → Type 0) (trans : (k m n : Mark) → R k m → R m n → R k n)
    (keeps : (m m' n n' : Mark) (a b c : Way) (u v w : V) → step m a u m' b v → step n b v n' c w → R m n → R m' n') where
  Goes-ordered : (xs xs' : List Mark) (a b : Way) (u v : V) → Goes step xs a u xs' b v → AllPairs R xs → AllPairs R xs'
  Goes-ordered xs xs' a b u v (Goes.here way x) pairs = pairs
  Goes-ordered xs xs' a b u v (Goes.more m m' ms ms' d e f x y z first (Goes.here way o)) pairs = AllPairs-cons R m' [] (All-nil (R m')) (λ i j t h k. absurd (omega arith))
  Goes-ordered xs xs' a b u v (Goes.more m m' ms ms' d e f x y z first (Goes.more n n' ns ns' g h i o p q second rest)) pairs =
      let tail = Goes-ordered (n ∷ ns) (n' ∷ ns') g i o q (Goes.more n n' ns ns' g h i o p q second rest) (AllPairs-tail R m (n ∷ ns) pairs) in
      let next : R m' n' = keeps m m' n n' d g h x o p first second (pairs zero (suc zero) n (omega arith) (omega arith)) in
      AllPairs-cons R m' (n' ∷ ns') (All-cons (R m') n' ns' next (λ k t l. trans m' n' (get_or ns' k t) next (tail zero (suc k) t (omega arith) (omega arith)))) tail

InOrder-trans : (k m n : Mark) → InOrder k m → InOrder m n → InOrder k n
InOrder-trans k m n first second = record { bounds = omega (arith, first.bounds, second.bounds); positions = omega (arith, first.positions, second.positions) }

-- what a step up leaves of a mark: it, or it moved, which is what the next one sees
up-moves : {V : Type 0} (visits : V → ℕ → Bool → V → Type 0) (number : ℕ) (m m' : Mark) (a b : Way) (u v : V) → StepsUp visits number m a u m' b v → (m' ≡ m) ⊎ ((m' ≡ one_up m) × (number < m.bound.0) × (b.ended ≡ None) × (b.last ≡ m.position))
up-moves visits number m m' a b u v (StepsUp.apart n way x below) = inl refl
up-moves visits number m m' a b u v (StepsUp.over n e way x is) = inl refl
up-moves visits number m m' a b u v (StepsUp.along n way x above going at) = inr (refl, above, going, sym at)
up-moves visits number m m' a b u v (StepsUp.goes_on n way x y above going apart told) = inr (refl, above, going, refl)
up-moves visits number m m' a b u v (StepsUp.stops n way x y above going apart told) = inl refl

up-bound : {V : Type 0} (visits : V → ℕ → Bool → V → Type 0) (number : ℕ) (m m' : Mark) (a b : Way) (u v : V) → StepsUp visits number m a u m' b v → (m'.bound.0 ≡ m.bound.0) × (m.position ≤ m'.position)
up-bound visits number m m' a b u v (StepsUp.apart n way x below) = (refl, omega arith)
up-bound visits number m m' a b u v (StepsUp.over n e way x is) = (refl, omega arith)
up-bound visits number m m' a b u v (StepsUp.along n way x above going at) = (refl, omega arith)
up-bound visits number m m' a b u v (StepsUp.goes_on n way x y above going apart told) = (refl, omega arith)
up-bound visits number m m' a b u v (StepsUp.stops n way x y above going apart told) = (refl, omega arith)

-- after a mark that moved, a mark at its place moves as well
up-behind : {V : Type 0} (visits : V → ℕ → Bool → V → Type 0) (number : ℕ) (m m' : Mark) (a b : Way) (u v : V) → StepsUp visits number m a u m' b v → number < m.bound.0 → a.ended ≡ None → a.last ≤ m.position → a.last < m'.position
up-behind visits number m m' a b u v (StepsUp.apart n way x below) above going behind = absurd (omega arith)
up-behind visits number m m' a b u v (StepsUp.over n e way x is) above going behind = absurd (let both : Some e ≡ None = sym is ∙ going in cc)
up-behind visits number m m' a b u v (StepsUp.along n way x above' going' at) above going behind = omega arith
up-behind visits number m m' a b u v (StepsUp.goes_on n way x y above' going' apart told) above going behind = omega arith
up-behind visits number m m' a b u v (StepsUp.stops n way x y above' going' apart told) above going behind = omega (arith, apart)

up-order : {V : Type 0} (visits : V → ℕ → Bool → V → Type 0) (number : ℕ) (m m' n n' : Mark) (a b c : Way) (u v w : V) → StepsUp visits number m a u m' b v → StepsUp visits number n b v n' c w → InOrder m n → InOrder m' n'
up-order visits number m m' n n' a b c u v w first second order =
    let at : Mark → ℕ = λ x. x.position in
    let one = up-bound visits number m m' a b u v first in
    let two = up-bound visits number n n' b c v w second in
    record {
      bounds = omega (arith, one.0, two.0, order.bounds);
      positions = elim (up-moves visits number m m' a b u v first) [
        | inl same ↦ omega (arith, ap at same, two.1, order.positions)
        | inr moved ↦ omega (arith, ap at moved.0, moved.3, up-behind visits number n n' b c v w second (omega (arith, moved.1, order.bounds)) moved.2 (omega (arith, moved.3, order.positions)))
      ];
    }

pub Rising-up : {V : Type 0} (visits : V → ℕ → Bool → V → Type 0) (number : ℕ) (xs xs' : List Mark) (a b : Way) (u v : V) → Goes (StepsUp visits number) xs a u xs' b v → Rising xs → Rising xs'
Rising-up visits number xs xs' a b u v goes rising = Goes-ordered (StepsUp visits number) InOrder InOrder-trans (up-order visits number) xs xs' a b u v goes rising

-- the same downwards
down-moves : {V : Type 0} (visits : V → ℕ → Bool → V → Type 0) (number : ℕ) (m m' : Mark) (a b : Way) (u v : V) → StepsDown visits number m a u m' b v → (m' ≡ m) ⊎ ((m' ≡ one_down m) × (m.bound.0 ≤ number) × (b.ended ≡ None) × (b.last ≡ m.position))
down-moves visits number m m' a b u v (StepsDown.apart n way x above) = inl refl
down-moves visits number m m' a b u v (StepsDown.over n e way x is) = inl refl
down-moves visits number m m' a b u v (StepsDown.front n way x below going at) = inl refl
down-moves visits number m m' a b u v (StepsDown.along n way x below going some at) = inr (refl, below, going, sym at)
down-moves visits number m m' a b u v (StepsDown.goes_on n way x y below going some apart told) = inr (refl, below, going, refl)
down-moves visits number m m' a b u v (StepsDown.stops n way x y below going some apart told) = inl refl

down-bound : {V : Type 0} (visits : V → ℕ → Bool → V → Type 0) (number : ℕ) (m m' : Mark) (a b : Way) (u v : V) → StepsDown visits number m a u m' b v → (m'.bound.0 ≡ m.bound.0) × (m'.position ≤ m.position)
down-bound visits number m m' a b u v (StepsDown.apart n way x above) = (refl, omega arith)
down-bound visits number m m' a b u v (StepsDown.over n e way x is) = (refl, omega arith)
down-bound visits number m m' a b u v (StepsDown.front n way x below going at) = (refl, omega arith)
down-bound visits number m m' a b u v (StepsDown.along n way x below going some at) = (refl, omega arith)
down-bound visits number m m' a b u v (StepsDown.goes_on n way x y below going some apart told) = (refl, omega arith)
down-bound visits number m m' a b u v (StepsDown.stops n way x y below going some apart told) = (refl, omega arith)

down-before : {V : Type 0} (visits : V → ℕ → Bool → V → Type 0) (number : ℕ) (m m' : Mark) (a b : Way) (u v : V) → StepsDown visits number m a u m' b v → m.bound.0 ≤ number → a.ended ≡ None → m.position ≤ a.last → m'.position ≤ a.last - 1
down-before visits number m m' a b u v (StepsDown.apart n way x above) below going before = absurd (omega arith)
down-before visits number m m' a b u v (StepsDown.over n e way x is) below going before = absurd (let both : Some e ≡ None = sym is ∙ going in cc)
down-before visits number m m' a b u v (StepsDown.front n way x below' going' at) below going before = omega (arith, at)
down-before visits number m m' a b u v (StepsDown.along n way x below' going' some at) below going before = omega arith
down-before visits number m m' a b u v (StepsDown.goes_on n way x y below' going' some apart told) below going before = omega arith
down-before visits number m m' a b u v (StepsDown.stops n way x y below' going' some apart told) below going before = omega (arith, apart)

down-order : {V : Type 0} (visits : V → ℕ → Bool → V → Type 0) (number : ℕ) (m m' n n' : Mark) (a b c : Way) (u v w : V) → StepsDown visits number m a u m' b v → StepsDown visits number n b v n' c w → InOrder n m → InOrder n' m'
down-order visits number m m' n n' a b c u v w first second order =
    let at : Mark → ℕ = λ x. x.position in
    let one = down-bound visits number m m' a b u v first in
    let two = down-bound visits number n n' b c v w second in
    record {
      bounds = omega (arith, one.0, two.0, order.bounds);
      positions = elim (down-moves visits number m m' a b u v first) [
        | inl same ↦ omega (arith, ap at same, two.1, order.positions)
        | inr moved ↦ omega (arith, ap at moved.0, moved.3, down-before visits number n n' b c v w second (omega (arith, moved.1, order.bounds)) moved.2 (omega (arith, moved.3, order.positions)))
      ];
    }

pub Rising-down : {V : Type 0} (visits : V → ℕ → Bool → V → Type 0) (number : ℕ) (xs xs' : List Mark) (a b : Way) (u v : V) → Goes (StepsDown visits number) (reverse xs) a u (reverse xs') b v → Rising xs → Rising xs'
Rising-down visits number xs xs' a b u v goes rising =
    let falling = Goes-ordered (StepsDown visits number) (λ m n. InOrder n m) (λ k m n first second. InOrder-trans n m k second first) (down-order visits number) (reverse xs) (reverse xs') a b u v goes (AllPairs-reverse InOrder xs rising) in
    subst (λ (ys : List Mark). Rising ys) (reverse-reverse xs') (AllPairs-reverse (λ m n. InOrder n m) (reverse xs') falling)

-- Where a walk has ended

pub up-over : {V : Type 0} (visits : V → ℕ → Bool → V → Type 0) (number : ℕ) (m m' e : Mark) (a b : Way) (u v : V) → StepsUp visits number m a u m' b v → a.ended ≡ Some e → (m' ≡ m) × (b ≡ a) × (v ≡ u)
up-over visits number m m' e a b u v (StepsUp.apart n way x below) is = (refl, refl, refl)
up-over visits number m m' e a b u v (StepsUp.over n f way x at) is = (refl, refl, refl)
up-over visits number m m' e a b u v (StepsUp.along n way x above going at) is = absurd (let both : Some e ≡ None = sym is ∙ going in cc)
up-over visits number m m' e a b u v (StepsUp.goes_on n way x y above going apart told) is = absurd (let both : Some e ≡ None = sym is ∙ going in cc)
up-over visits number m m' e a b u v (StepsUp.stops n way x y above going apart told) is = absurd (let both : Some e ≡ None = sym is ∙ going in cc)

pub down-over : {V : Type 0} (visits : V → ℕ → Bool → V → Type 0) (number : ℕ) (m m' e : Mark) (a b : Way) (u v : V) → StepsDown visits number m a u m' b v → a.ended ≡ Some e → (m' ≡ m) × (b ≡ a) × (v ≡ u)
down-over visits number m m' e a b u v (StepsDown.apart n way x above) is = (refl, refl, refl)
down-over visits number m m' e a b u v (StepsDown.over n f way x at) is = (refl, refl, refl)
down-over visits number m m' e a b u v (StepsDown.front n way x below going at) is = absurd (let both : Some e ≡ None = sym is ∙ going in cc)
down-over visits number m m' e a b u v (StepsDown.along n way x below going some at) is = absurd (let both : Some e ≡ None = sym is ∙ going in cc)
down-over visits number m m' e a b u v (StepsDown.goes_on n way x y below going some apart told) is = absurd (let both : Some e ≡ None = sym is ∙ going in cc)
down-over visits number m m' e a b u v (StepsDown.stops n way x y below going some apart told) is = absurd (let both : Some e ≡ None = sym is ∙ going in cc)

-- steps that leave all as it is leave all lists so
module _ {V : Type 0} (step : Mark → Way → V → Mark → Way → V → Type 0) (a : Way) (u : V) (stays : (m m' : Mark) (b : Way) (v : V) → step m a u m' b v → (m' ≡ m) × (b ≡ a) × (v ≡ u)) where
  pub Goes-over : (xs xs' : List Mark) (c b : Way) (w v : V) → Goes step xs c w xs' b v → c ≡ a → w ≡ u → (xs' ≡ xs) × (b ≡ a) × (v ≡ u)
  Goes-over xs xs' c b w v (Goes.here way x) is_way is_visitor = (refl, is_way, is_visitor)
  Goes-over xs xs' c b w v (Goes.more m m' ms ms' d e f x y z first onward) is_way is_visitor =
      let one = stays m m' e y (rw (is_way, is_visitor) at first) in
      let rest = Goes-over ms ms' e f y z onward one.1 one.2 in
      (rw (one.0, rest.0) refl, rest.1, rest.2)

-- A walk over a node

left-of : (P : Mark → Type 0) (l : List Mark) (m : Mark) (r : List Mark) → All P (l ++ m ∷ r) → All P l
left-of P [] m r all = All-nil P
left-of P (x ∷ l) m r all = All-cons P x l (All-head P x (l ++ m ∷ r) all) (left-of P l m r (All-tail P x (l ++ m ∷ r) all))

here-of : (P : Mark → Type 0) (l : List Mark) (m : Mark) (r : List Mark) → All P (l ++ m ∷ r) → P m
here-of P [] m r all = All-head P m r all
here-of P (x ∷ l) m r all = here-of P l m r (All-tail P x (l ++ m ∷ r) all)

right-of : (P : Mark → Type 0) (l : List Mark) (m : Mark) (r : List Mark) → All P (l ++ m ∷ r) → All P r
right-of P [] m r all = All-tail P m r all
right-of P (x ∷ l) m r all = right-of P l m r (All-tail P x (l ++ m ∷ r) all)

-- what all marks of a node are, those of its sides and its own are
module _ (P : Mark → Type 0) (l : Option (Box Grown Global)) (m : Mark) (r : Option (Box Grown Global)) (whole : List Mark) (is : marks_in_tree l ++ m ∷ marks_in_tree r ≡ whole) (all : All P whole) where
  pub All-left : All P (marks_in_tree l)
  All-left = left-of P (marks_in_tree l) m (marks_in_tree r) (rw (← is) at all)

  pub All-here : P m
  All-here = here-of P (marks_in_tree l) m (marks_in_tree r) (rw (← is) at all)

  pub All-right : All P (marks_in_tree r)
  All-right = right-of P (marks_in_tree l) m (marks_in_tree r) (rw (← is) at all)

pub All-some : (P : Mark → Type 0) (o : Option (Box Grown Global)) (box : Box Grown Global) (n : Grown) → o ≡ Some box → n ≡ box.value → All P (marks_in_tree o) → All P n.marks
All-some P o box n is at all = subst (λ (k : Grown). All P k.marks) (sym at) (subst (λ (p : Option (Box Grown Global)). All P (marks_in_tree p)) is all)

-- if the mark is above a number, so are those to the right of it, and if it isn't, neither are those to the left
pub above-right : (number : ℕ) (l : List Mark) (m : Mark) (r : List Mark) → Rising (l ++ m ∷ r) → number < m.bound.0 → All (λ n. number < n.bound.0) r
above-right number l m r rising above = λ k d h. omega (arith, above, (Rising-behind l m r rising k d h).bounds)

pub below-left : (number : ℕ) (l : List Mark) (m : Mark) (r : List Mark) → Rising (l ++ m ∷ r) → m.bound.0 ≤ number → All (λ n. n.bound.0 ≤ number) l
below-left number l m r rising below = λ k d h. omega (arith, below, (Rising-before l m r rising k d h).bounds)

some-is : (o : Option Mark) → is_some o ≡ true → (e : Mark) × (o ≡ Some e)
some-is None is = absurd (cc)
some-is (Some e) is = (e, refl)

pub none-is : (o : Option Mark) → is_some o ≡ false → o ≡ None
none-is None is = refl
none-is (Some e) is = absurd (cc)

-- the result of a walk over a side of a node: it visited the marks in its own order, and the side is as high as before
pub record Walked {V : Type 0} (step : Mark → Way → V → Mark → Way → V → Type 0) (turn : List Mark → List Mark) (o o' : Option (Box Grown Global)) (a b : Way) (u v : V) : Type 0 where
  pub goes : Goes step (turn (marks_in_tree o)) a u (turn (marks_in_tree o')) b v
  pub height : height_of o' ≡ height_of o

-- the result for the side that it visited first, and for the mark after it; the walk goes on
pub record Neared {V : Type 0} (step : Mark → Way → V → Mark → Way → V → Type 0) (turn : List Mark → List Mark) (o o' : Option (Box Grown Global)) (m m' : Mark) (a b : Way) (u v : V) : Type 0 where
  pub goes : Goes step (turn (marks_in_tree o) ++ m ∷ []) a u (turn (marks_in_tree o') ++ m' ∷ []) b v
  pub height : height_of o' ≡ height_of o
  pub going : b.ended ≡ None

module _ {V : Type 0} (step : Mark → Way → V → Mark → Way → V → Type 0) (turn : List Mark → List Mark) where
  pub Walked-some : (o : Option (Box Grown Global)) (box : Box Grown Global) (n n' : Grown) (a b : Way) (u v : V) → o ≡ Some box → n ≡ box.value → Goes step (turn n.marks) a u (turn n'.marks) b v → n'.height ≡ n.height → Walked step turn o (Some (with_value box n')) a b u v
  Walked-some o box n n' a b u v is at goes height = record { goes = rw (is, ← at) goes; height = rw (is, ← at) height }

  pub Walked-none : (o : Option (Box Grown Global)) (a : Way) (u : V) → o ≡ None → turn [] ≡ [] → Walked step turn o o a a u u
  Walked-none o a u is empty = record { goes = rw (is, empty) (Goes.here a u); height = refl }

  pub Neared-stepped : (o o' : Option (Box Grown Global)) (m m' : Mark) (a b c : Way) (u v w : V) → Walked step turn o o' a b u v → step m b v m' c w → is_some c.ended ≡ false → Neared step turn o o' m m' a c u w
  Neared-stepped o o' m m' a b c u v w walked at going = record {
    goes = Goes-append step (turn (marks_in_tree o)) (turn (marks_in_tree o')) (m ∷ []) (m' ∷ []) a b c u v w walked.goes (Goes.more m m' [] [] b c c v w w at (Goes.here c w));
    height = walked.height;
    going = none-is c.ended going;
  }

  Neared-apart : (o : Option (Box Grown Global)) (m : Mark) (a : Way) (u : V) → All (λ n. step n a u n a u) (turn (marks_in_tree o)) → step m a u m a u → a.ended ≡ None → Neared step turn o o m m a a u u
  Neared-apart o m a u all at going = record {
    goes = Goes-append step (turn (marks_in_tree o)) (turn (marks_in_tree o)) (m ∷ []) (m ∷ []) a a a u u u (Goes-stay step (turn (marks_in_tree o)) a u all) (Goes.more m m [] [] a a a u u u at (Goes.here a u));
    height = refl;
    going = going;
  }

-- the sides in the order of a walk up
abbrev pub ahead : List Mark → List Mark
ahead ms = ms

-- a node on a walk up: the left side and no further, as far as the mark, the right side alone, and the whole of it
module _ {V : Type 0} (visits : V → ℕ → Bool → V → Type 0) (number : ℕ) (l l' : Option (Box Grown Global)) (m m' : Mark) (r r' : Option (Box Grown Global)) where
  pub up-near : (a b : Way) (u v : V) → Walked (StepsUp visits number) ahead l l' a b u v → is_some b.ended ≡ true → Goes (StepsUp visits number) (marks_in_tree l ++ m ∷ marks_in_tree r) a u (marks_in_tree l' ++ m ∷ marks_in_tree r) b v
  up-near a b u v walked ended =
      let e = some-is b.ended ended in
      Goes-near (StepsUp visits number) (marks_in_tree l) (marks_in_tree l') m (marks_in_tree r) a b u v walked.goes (λ n. StepsUp.over n e.0 b v e.1)

  pub up-middle : (a b c : Way) (u v w : V) → Walked (StepsUp visits number) ahead l l' a b u v → StepsUp visits number m b v m' c w → is_some c.ended ≡ true → Goes (StepsUp visits number) (marks_in_tree l ++ m ∷ marks_in_tree r) a u (marks_in_tree l' ++ m' ∷ marks_in_tree r) c w
  up-middle a b c u v w walked at ended =
      let e = some-is c.ended ended in
      Goes-middle (StepsUp visits number) (marks_in_tree l) (marks_in_tree l') m m' (marks_in_tree r) a b c u v w walked.goes at (λ n. StepsUp.over n e.0 c w e.1)

  pub up-apart : (a : Way) (u : V) → Rising (marks_in_tree l ++ m ∷ marks_in_tree r) → m.bound.0 ≤ number → a.ended ≡ None → Neared (StepsUp visits number) ahead l l m m a a u u
  up-apart a u rising below going =
      Neared-apart (StepsUp visits number) ahead l m a u (λ k d h. StepsUp.apart (get_or (marks_in_tree l) k d) a u (omega (arith, (Rising-before (marks_in_tree l) m (marks_in_tree r) rising k d h).bounds, below))) (StepsUp.apart m a u below) going

  pub up-whole : (a b c : Way) (u v w : V) → Neared (StepsUp visits number) ahead l l' m m' a b u v → Walked (StepsUp visits number) ahead r r' b c v w → Goes (StepsUp visits number) (marks_in_tree l ++ m ∷ marks_in_tree r) a u (marks_in_tree l' ++ m' ∷ marks_in_tree r') c w
  up-whole a b c u v w near far =
      rw (append_assoc (marks_in_tree l) (m ∷ []) (marks_in_tree r), append_assoc (marks_in_tree l') (m' ∷ []) (marks_in_tree r')) at (Goes-append (StepsUp visits number) (marks_in_tree l ++ m ∷ []) (marks_in_tree l' ++ m' ∷ []) (marks_in_tree r) (marks_in_tree r') a b c u v w near.goes far.goes)

-- the same for a walk down, from the right side
module _ {V : Type 0} (visits : V → ℕ → Bool → V → Type 0) (number : ℕ) (l l' : Option (Box Grown Global)) (m m' : Mark) (r r' : Option (Box Grown Global)) where
  pub down-near : (a b : Way) (u v : V) → Walked (StepsDown visits number) reverse r r' a b u v → is_some b.ended ≡ true → Goes (StepsDown visits number) (reverse (marks_in_tree l ++ m ∷ marks_in_tree r)) a u (reverse (marks_in_tree l ++ m ∷ marks_in_tree r')) b v
  down-near a b u v walked ended =
      let e = some-is b.ended ended in
      Goes-back (StepsDown visits number) (marks_in_tree l) (marks_in_tree l) m m (marks_in_tree r) (marks_in_tree r') a b u v (Goes-near (StepsDown visits number) (reverse (marks_in_tree r)) (reverse (marks_in_tree r')) m (reverse (marks_in_tree l)) a b u v walked.goes (λ n. StepsDown.over n e.0 b v e.1))

  pub down-middle : (a b c : Way) (u v w : V) → Walked (StepsDown visits number) reverse r r' a b u v → StepsDown visits number m b v m' c w → is_some c.ended ≡ true → Goes (StepsDown visits number) (reverse (marks_in_tree l ++ m ∷ marks_in_tree r)) a u (reverse (marks_in_tree l ++ m' ∷ marks_in_tree r')) c w
  down-middle a b c u v w walked at ended =
      let e = some-is c.ended ended in
      Goes-back (StepsDown visits number) (marks_in_tree l) (marks_in_tree l) m m' (marks_in_tree r) (marks_in_tree r') a c u w (Goes-middle (StepsDown visits number) (reverse (marks_in_tree r)) (reverse (marks_in_tree r')) m m' (reverse (marks_in_tree l)) a b c u v w walked.goes at (λ n. StepsDown.over n e.0 c w e.1))

  pub down-apart : (a : Way) (u : V) → Rising (marks_in_tree l ++ m ∷ marks_in_tree r) → number < m.bound.0 → a.ended ≡ None → Neared (StepsDown visits number) reverse r r m m a a u u
  down-apart a u rising above going =
      Neared-apart (StepsDown visits number) reverse r m a u (All-reverse (λ n. StepsDown visits number n a u n a u) (marks_in_tree r) (λ k d h. StepsDown.apart (get_or (marks_in_tree r) k d) a u (omega (arith, (Rising-behind (marks_in_tree l) m (marks_in_tree r) rising k d h).bounds, above)))) (StepsDown.apart m a u above) going

  pub down-whole : (a b c : Way) (u v w : V) → Neared (StepsDown visits number) reverse r r' m m' a b u v → Walked (StepsDown visits number) reverse l l' b c v w → Goes (StepsDown visits number) (reverse (marks_in_tree l ++ m ∷ marks_in_tree r)) a u (reverse (marks_in_tree l' ++ m' ∷ marks_in_tree r')) c w
  down-whole a b c u v w near far =
      Goes-back (StepsDown visits number) (marks_in_tree l) (marks_in_tree l') m m' (marks_in_tree r) (marks_in_tree r') a c u w
      (rw (append_assoc (reverse (marks_in_tree r)) (m ∷ []) (reverse (marks_in_tree l)), append_assoc (reverse (marks_in_tree r')) (m' ∷ []) (reverse (marks_in_tree l'))) at (Goes-append (StepsDown visits number) (reverse (marks_in_tree r) ++ m ∷ []) (reverse (marks_in_tree r') ++ m' ∷ []) (reverse (marks_in_tree l)) (reverse (marks_in_tree l')) a b c u v w near.goes far.goes))

-- the node is as balanced as before
pub IsBalanced-walked : (l l2 : Option (Box Grown Global)) (m m2 : Mark) (r r2 : Option (Box Grown Global)) (h : ℕ) → Rising (marks_in_tree l2 ++ m2 ∷ marks_in_tree r2) → length (marks_in_tree l2 ++ m2 ∷ marks_in_tree r2) ≡ length (marks_in_tree l ++ m ∷ marks_in_tree r)
    → height_of l2 ≡ height_of l → height_of r2 ≡ height_of r → IsBalanced l m r h → IsBalanced l2 m2 r2 h
IsBalanced-walked l l2 m m2 r r2 h rising long left right balanced = record {
  rising = rising;
  high = rw (left, right) balanced.high;
  even = rw (left, right) balanced.even;
  tall = rw long balanced.tall;
}

pub IsBalanced-up : {V : Type 0} (visits : V → ℕ → Bool → V → Type 0) (number : ℕ) (l l2 : Option (Box Grown Global)) (m m2 : Mark) (r r2 : Option (Box Grown Global)) (h : ℕ) (a b : Way) (u v : V) → Goes (StepsUp visits number) (marks_in_tree l ++ m ∷ marks_in_tree r) a u (marks_in_tree l2 ++ m2 ∷ marks_in_tree r2) b v
    → height_of l2 ≡ height_of l → height_of r2 ≡ height_of r → IsBalanced l m r h → IsBalanced l2 m2 r2 h
IsBalanced-up visits number l l2 m m2 r r2 h a b u v goes left right balanced =
    IsBalanced-walked l l2 m m2 r r2 h (Rising-up visits number (marks_in_tree l ++ m ∷ marks_in_tree r) (marks_in_tree l2 ++ m2 ∷ marks_in_tree r2) a b u v goes balanced.rising) (Goes-length (StepsUp visits number) (marks_in_tree l ++ m ∷ marks_in_tree r) (marks_in_tree l2 ++ m2 ∷ marks_in_tree r2) a b u v goes) left right balanced

pub length-down : {V : Type 0} (visits : V → ℕ → Bool → V → Type 0) (number : ℕ) (xs xs' : List Mark) (a b : Way) (u v : V) → Goes (StepsDown visits number) (reverse xs) a u (reverse xs') b v → length xs' ≡ length xs
length-down visits number xs xs' a b u v goes = omega (arith, Goes-length (StepsDown visits number) (reverse xs) (reverse xs') a b u v goes, length-reverse xs, length-reverse xs')

pub IsBalanced-down : {V : Type 0} (visits : V → ℕ → Bool → V → Type 0) (number : ℕ) (l l2 : Option (Box Grown Global)) (m m2 : Mark) (r r2 : Option (Box Grown Global)) (h : ℕ) (a b : Way) (u v : V) → Goes (StepsDown visits number) (reverse (marks_in_tree l ++ m ∷ marks_in_tree r)) a u (reverse (marks_in_tree l2 ++ m2 ∷ marks_in_tree r2)) b v
    → height_of l2 ≡ height_of l → height_of r2 ≡ height_of r → IsBalanced l m r h → IsBalanced l2 m2 r2 h
IsBalanced-down visits number l l2 m m2 r r2 h a b u v goes left right balanced =
    IsBalanced-walked l l2 m m2 r r2 h (Rising-down visits number (marks_in_tree l ++ m ∷ marks_in_tree r) (marks_in_tree l2 ++ m2 ∷ marks_in_tree r2) a b u v goes balanced.rising) (length-down visits number (marks_in_tree l ++ m ∷ marks_in_tree r) (marks_in_tree l2 ++ m2 ∷ marks_in_tree r2) a b u v goes) left right balanced

module _ {V : Type 0} (visits : V → ℕ → Bool → V → Type 0) (number : ℕ) (l l' : Option (Box Grown Global)) (m m' : Mark) (r r' : Option (Box Grown Global)) (h : ℕ) (a b c : Way) (u v w : V) where
  pub up-balanced : Neared (StepsUp visits number) ahead l l' m m' a b u v → Walked (StepsUp visits number) ahead r r' b c v w → IsBalanced l m r h → IsBalanced l' m' r' h
  up-balanced near far = IsBalanced-up visits number l l' m m' r r' h a c u w (up-whole visits number l l' m m' r r' a b c u v w near far) near.height far.height

  pub down-balanced : Neared (StepsDown visits number) reverse r r' m m' a b u v → Walked (StepsDown visits number) reverse l l' b c v w → IsBalanced l m r h → IsBalanced l' m' r' h
  down-balanced near far = IsBalanced-down visits number l l' m m' r r' h a c u w (down-whole visits number l l' m m' r r' a b c u v w near far) far.height near.height
