-- Marks in order on both sides of one: which are found where, and where one more goes.
use Rattle.std.proofs.Common.{◌≡◌, ℕ, zero, suc, max, ◌+◌, ◌-◌, ◌^◌, ◌<◌, ◌≤◌, List, [], ◌∷◌, ◌++◌, map, length, get_or, append_assoc, append-nil, ◌⊎◌, Some, None, refl, sym, ap, ◌∙◌, inl, inr, arith, length-append}
use Rattle.std.specs.Prelude.{Option, unwrap_or}
use Rattle.std.specs.List.{All}
use Rattle.std.proofs.lemmas.Bool.{cases_eq, cases_lt, eq-eqb, ne_eqb, lt-ltb, le-ltb, lt-leb, le-leb}
use Rattle.std.proofs.lemmas.List.{map-append, length-map}
use Rattle.std.proofs.lemmas.List.Elements.{All-nil, All-cons, All-head, All-tail}
use Rattle.crack_index.specs.declared.mark.Mark.{Mark}
use Rattle.crack_index.specs.declared.tree.Edge.{Edge}
use Rattle.crack_row.specs.declared.Bound.{Bound}
use Rattle.crack_row.specs.declared.layout.PieceSize.{PieceSize}
use Rattle.crack_index.specs.Marks.{pieces_from, size_between, InOrder, Rising, next_mark, last_mark, first_after, last_before, with_mark, removed, raised, lowered_at, HasBound}
use Rattle.std.specs.declared.alloc.Global.{Global}
use Rattle.std.proofs.Common.{Box}
use Rattle.crack_index.specs.Heights.{least, most}
use Rattle.crack_index.specs.Trees.{Grown, marks_in_tree}
use Rattle.crack_index.specs.Keeps.{height_of, IsTall, DifferByAtMost, IsBalanced, IsSoundIndex}
use Rattle.crack_index.proofs.MarkLaws.{Rising-tail, Rising-cons, Rising-head}
use Rattle.crack_index.proofs.RemoveLaws.{SomeMarks-Rising, SomeMarks-removed, length-removed}
use Rattle.crack_index.proofs.MarkLemmas.{map_same, raised_below, raised_apart, lowered_at_apart, lowered_at_same}

-- Order

-- the marks on the left are in order with the one between
pub Rising-before : (l : List Mark) (m : Mark) (r : List Mark) → Rising (l ++ m ∷ r) → All (λ x. InOrder x m) l
Rising-before [] m r rising = All-nil (λ x. InOrder x m)
Rising-before (x ∷ l) m r rising = All-cons (λ y. InOrder y m) x l (middle l (Rising-head x (l ++ m ∷ r) rising)) (Rising-before l m r (Rising-tail x (l ++ m ∷ r) rising))
  where
    middle : (t : List Mark) → All (InOrder x) (t ++ m ∷ r) → InOrder x m
    middle [] all = All-head (InOrder x) m r all
    middle (y ∷ t) all = middle t (All-tail (InOrder x) y (t ++ m ∷ r) all)

pub Rising-right : (l : List Mark) (m : Mark) (r : List Mark) → Rising (l ++ m ∷ r) → Rising r
Rising-right [] m r rising = Rising-tail m r rising
Rising-right (x ∷ l) m r rising = Rising-right l m r (Rising-tail x (l ++ m ∷ r) rising)

pub Rising-behind : (l : List Mark) (m : Mark) (r : List Mark) → Rising (l ++ m ∷ r) → All (InOrder m) r
Rising-behind [] m r rising = Rising-head m r rising
Rising-behind (x ∷ l) m r rising = Rising-behind l m r (Rising-tail x (l ++ m ∷ r) rising)

All-front : (P : Mark → Type 0) (l r : List Mark) → All P (l ++ r) → All P l
All-front P [] r all = All-nil P
All-front P (x ∷ l) r all = All-cons P x l (All-head P x (l ++ r) all) (All-front P l r (All-tail P x (l ++ r) all))

pub Rising-front : (l r : List Mark) → Rising (l ++ r) → Rising l
Rising-front [] r rising = λ i j d h k. absurd (omega arith)
Rising-front (x ∷ l) r rising = Rising-cons x l (All-front (InOrder x) l r (Rising-head x (l ++ r) rising)) (Rising-front l r (Rising-tail x (l ++ r) rising))

-- the marks below a rotation, grouped the other way
pub append-cons_assoc : (x : List Mark) (j : Mark) (y : List Mark) (k : Mark) (z : List Mark) → (x ++ j ∷ y) ++ k ∷ z ≡ x ++ j ∷ (y ++ k ∷ z)
append-cons_assoc x j y k z = append_assoc x (j ∷ y) (k ∷ z)

-- the part of a node on the left that goes to the right of it
pub Rising-inner_right : (x : List Mark) (j : Mark) (y : List Mark) (k : Mark) (z : List Mark) → Rising ((x ++ j ∷ y) ++ k ∷ z) → Rising (y ++ k ∷ z)
Rising-inner_right x j y k z rising = Rising-right x j (y ++ k ∷ z) (rw (append-cons_assoc x j y k z) at rising)

pub Rising-inner_left : (x : List Mark) (j : Mark) (y : List Mark) (k : Mark) (z : List Mark) → Rising (x ++ j ∷ (y ++ k ∷ z)) → Rising (x ++ j ∷ y)
Rising-inner_left x j y k z rising = Rising-front (x ++ j ∷ y) (k ∷ z) (rw (append-cons_assoc x j y k z) rising)

-- Look-ups

-- what was found, or else what was found before
abbrev pub or_else : Option Mark → Option Mark → Option Mark
or_else None before = before
or_else (Some m) before = Some m

pub or_else-found : (o : Option Mark) (m : Mark) (before : Option Mark) → or_else (Some (unwrap_or o m)) before ≡ or_else o (Some m)
or_else-found None m before = refl
or_else-found (Some x) m before = refl

pub or_else-none : (o : Option Mark) → or_else o None ≡ o
or_else-none None = refl
or_else-none (Some x) = refl

pub last_mark-left : (number : ℕ) (l : List Mark) (m : Mark) (r : List Mark) → number < m.bound.0 → last_mark number (l ++ m ∷ r) ≡ last_mark number l
last_mark-left number [] m r h = rw (lt-leb m.bound.0 number h) refl
last_mark-left number (x ∷ l) m r h = rw (last_mark-left number l m r h) refl

pub last_mark-right : (number : ℕ) (l : List Mark) (m : Mark) (r : List Mark) → Rising (l ++ m ∷ r) → m.bound.0 ≤ number → last_mark number (l ++ m ∷ r) ≡ Some (unwrap_or (last_mark number r) m)
last_mark-right number [] m r rising h = rw (le-leb m.bound.0 number h) refl
last_mark-right number (x ∷ l) m r rising h =
    let below = (All-head (λ y. InOrder y m) x l (Rising-before (x ∷ l) m r rising)).bounds in
    rw (le-leb x.bound.0 number (omega arith), last_mark-right number l m r (Rising-tail x (l ++ m ∷ r) rising) h) refl

pub next_mark-left : (number : ℕ) (l : List Mark) (m : Mark) (r : List Mark) → number < m.bound.0 → next_mark number (l ++ m ∷ r) ≡ Some (unwrap_or (next_mark number l) m)
next_mark-left number [] m r h = rw (lt-ltb number m.bound.0 h) refl
next_mark-left number (x ∷ l) m r h = elim (cases_lt number x.bound.0) [
  | inl a ↦ rw (lt-ltb number x.bound.0 a) refl
  | inr a ↦ rw (le-ltb number x.bound.0 a) (next_mark-left number l m r h)
]

pub next_mark-right : (number : ℕ) (l : List Mark) (m : Mark) (r : List Mark) → Rising (l ++ m ∷ r) → m.bound.0 ≤ number → next_mark number (l ++ m ∷ r) ≡ next_mark number r
next_mark-right number [] m r rising h = rw (le-ltb number m.bound.0 h) refl
next_mark-right number (x ∷ l) m r rising h =
    let below = (All-head (λ y. InOrder y m) x l (Rising-before (x ∷ l) m r rising)).bounds in
    rw (le-ltb number x.bound.0 (omega arith)) (next_mark-right number l m r (Rising-tail x (l ++ m ∷ r) rising) h)

pub first_after-left : (place : ℕ) (l : List Mark) (m : Mark) (r : List Mark) → place < m.position → first_after place (l ++ m ∷ r) ≡ Some (unwrap_or (first_after place l) m)
first_after-left place [] m r h = rw (lt-ltb place m.position h) refl
first_after-left place (x ∷ l) m r h = elim (cases_lt place x.position) [
  | inl a ↦ rw (lt-ltb place x.position a) refl
  | inr a ↦ rw (le-ltb place x.position a) (first_after-left place l m r h)
]

pub first_after-right : (place : ℕ) (l : List Mark) (m : Mark) (r : List Mark) → Rising (l ++ m ∷ r) → m.position ≤ place → first_after place (l ++ m ∷ r) ≡ first_after place r
first_after-right place [] m r rising h = rw (le-ltb place m.position h) refl
first_after-right place (x ∷ l) m r rising h =
    let below = (All-head (λ y. InOrder y m) x l (Rising-before (x ∷ l) m r rising)).positions in
    rw (le-ltb place x.position (omega arith)) (first_after-right place l m r (Rising-tail x (l ++ m ∷ r) rising) h)

pub last_before-right : (place : ℕ) (l : List Mark) (m : Mark) (r : List Mark) → Rising (l ++ m ∷ r) → m.position < place → last_before place (l ++ m ∷ r) ≡ Some (unwrap_or (last_before place r) m)
last_before-right place [] m r rising h = rw (lt-ltb m.position place h) refl
last_before-right place (x ∷ l) m r rising h =
    let below = (All-head (λ y. InOrder y m) x l (Rising-before (x ∷ l) m r rising)).positions in
    rw (lt-ltb x.position place (omega arith), last_before-right place l m r (Rising-tail x (l ++ m ∷ r) rising) h) refl

-- Adding

pub added-left : (n : Mark) (l : List Mark) (m : Mark) (r : List Mark) → n.bound.0 < m.bound.0 → with_mark n (l ++ m ∷ r) ≡ with_mark n l ++ m ∷ r
added-left n [] m r h = rw (lt-ltb n.bound.0 m.bound.0 h) refl
added-left n (x ∷ l) m r h = elim (cases_lt n.bound.0 x.bound.0) [
  | inl a ↦ rw (lt-ltb n.bound.0 x.bound.0 a) refl
  | inr a ↦ rw (le-ltb n.bound.0 x.bound.0 a) (ap (λ ys. x ∷ ys) (added-left n l m r h))
]

pub added-right : (n : Mark) (l : List Mark) (m : Mark) (r : List Mark) → Rising (l ++ m ∷ r) → m.bound.0 ≤ n.bound.0 → with_mark n (l ++ m ∷ r) ≡ l ++ m ∷ with_mark n r
added-right n [] m r rising h = rw (le-ltb n.bound.0 m.bound.0 h) refl
added-right n (x ∷ l) m r rising h =
    let below = (All-head (λ y. InOrder y m) x l (Rising-before (x ∷ l) m r rising)).bounds in
    rw (le-ltb n.bound.0 x.bound.0 (omega arith)) (ap (λ ys. x ∷ ys) (added-right n l m r (Rising-tail x (l ++ m ∷ r) rising) h))

-- Moves

-- the marks on one side of one alone are moved
pub moved_right : (f : Mark → Mark) (l : List Mark) (m : Mark) (r : List Mark) → All (λ x. f x ≡ x) l → f m ≡ m → map f (l ++ m ∷ r) ≡ l ++ m ∷ map f r
moved_right f l m r before one = rw (map-append f l (m ∷ r), map_same f l before, one) refl

pub moved_left : (f : Mark → Mark) (l : List Mark) (m : Mark) (r : List Mark) → All (λ x. f x ≡ x) r → f m ≡ m → map f (l ++ m ∷ r) ≡ map f l ++ m ∷ r
moved_left f l m r behind one = rw (map-append f l (m ∷ r), map_same f r behind, one) refl

pub moved_both : (f : Mark → Mark) (l : List Mark) (m n : Mark) (r : List Mark) → f m ≡ n → map f (l ++ m ∷ r) ≡ map f l ++ n ∷ map f r
moved_both f l m n r one = rw (map-append f l (m ∷ r), one) refl

-- those before a mark that isn't moved for its bound, or is before the place, aren't either
pub raised-right : (low place : ℕ) (l : List Mark) (m : Mark) (r : List Mark) → Rising (l ++ m ∷ r) → (m.bound.0 < low) ⊎ (m.position < place) → map (raised low place) (l ++ m ∷ r) ≡ l ++ m ∷ map (raised low place) r
raised-right low place l m r rising which =
    let order = Rising-before l m r rising in
    moved_right (raised low place) l m r
    (λ k d h. elim which [
      | inl b ↦ raised_below low place (get_or l k d) (omega (arith, b, (order k d h).bounds))
      | inr p ↦ raised_apart low place (get_or l k d) (omega (arith, p, (order k d h).positions))
    ])
    (elim which [ inl b ↦ raised_below low place m b | inr p ↦ raised_apart low place m (omega arith) ])

pub raised-left : (low place : ℕ) (l : List Mark) (m : Mark) (r : List Mark) → Rising (l ++ m ∷ r) → place < m.position → map (raised low place) (l ++ m ∷ r) ≡ map (raised low place) l ++ m ∷ r
raised-left low place l m r rising past =
    let order = Rising-behind l m r rising in
    moved_left (raised low place) l m r (λ k d h. raised_apart low place (get_or r k d) (omega (arith, past, (order k d h).positions))) (raised_apart low place m (omega arith))

pub lowered_at-left : (place : ℕ) (l : List Mark) (m : Mark) (r : List Mark) → Rising (l ++ m ∷ r) → place < m.position → map (lowered_at place) (l ++ m ∷ r) ≡ map (lowered_at place) l ++ m ∷ r
lowered_at-left place l m r rising past =
    let order = Rising-behind l m r rising in
    moved_left (lowered_at place) l m r (λ k d h. lowered_at_apart place (get_or r k d) (omega (arith, past, (order k d h).positions))) (lowered_at_apart place m (omega arith))

pub lowered_at-right : (place : ℕ) (l : List Mark) (m : Mark) (r : List Mark) → Rising (l ++ m ∷ r) → m.position < place → map (lowered_at place) (l ++ m ∷ r) ≡ l ++ m ∷ map (lowered_at place) r
lowered_at-right place l m r rising before =
    let order = Rising-before l m r rising in
    moved_right (lowered_at place) l m r (λ k d h. lowered_at_apart place (get_or l k d) (omega (arith, before, (order k d h).positions))) (lowered_at_apart place m (omega arith))

-- Heights

-- a tree that is higher has at least as many marks
least_more : (h : ℕ) → least h ≤ least (suc h)
least_more zero = omega arith
least_more (suc h) = omega arith

-- a side that is as high as the other, or one level higher
tall_level : (a b h : ℕ) → IsTall a h → IsTall b h → IsTall (a + (1 + b)) (suc h)
tall_level a b zero left right = record { least = omega arith; most = omega (arith, left.most, right.most) }
tall_level a b (suc h) left right = record { least = omega (arith, left.least, right.least, least_more h); most = omega (arith, left.most, right.most) }

tall_left : (a b h : ℕ) → IsTall a (suc h) → IsTall b h → IsTall (a + (1 + b)) (suc (suc h))
tall_left a b h left right = record { least = omega (arith, left.least, right.least); most = omega (arith, left.most, right.most) }

tall_right : (a b h : ℕ) → IsTall a h → IsTall b (suc h) → IsTall (a + (1 + b)) (suc (suc h))
tall_right a b h left right = record { least = omega (arith, left.least, right.least); most = omega (arith, left.most, right.most) }

pub tall_sides : (a b hl hr h : ℕ) → IsTall a hl → IsTall b hr → DifferByAtMost 1 hl hr → h ≡ max hl hr + 1 → IsTall (a + (1 + b)) h
tall_sides a b hl hr h left right even is = elim (cases_lt hl hr) [
  | inl l ↦
      let up : hr ≡ suc hl = omega (arith, even.right) in
      let top : h ≡ suc (suc hl) = omega arith in
      rw top (tall_right a b hl left (rw up at right))
  | inr g ↦ elim (cases_eq hl hr) [
    | inl e ↦
        let top : h ≡ suc hr = omega arith in
        rw top (tall_level a b hr (rw e at left) right)
    | inr ne ↦
        let up : hl ≡ suc hr = omega (arith, even.left) in
        let top : h ≡ suc (suc hr) = omega arith in
        rw top (tall_left a b hr (rw up at left) right)
  ]
]

-- a node above two sides
pub IsTall-node : (l : List Mark) (m : Mark) (r : List Mark) (hl hr h : ℕ) → IsTall (length l) hl → IsTall (length r) hr → DifferByAtMost 1 hl hr → h ≡ max hl hr + 1 → IsTall (length (l ++ m ∷ r)) h
IsTall-node l m r hl hr h left right even is =
    let long : length (l ++ m ∷ r) ≡ length l + (1 + length r) = omega (arith, length-append l (m ∷ r)) in
    rw long (tall_sides (length l) (length r) hl hr h left right even is)

-- no tree of a machine's marks is higher than its numbers go
most-least : (k : ℕ) → most k ≤ least (k + k) + 1
most-least zero = omega arith
most-least (suc k) =
    let twice : suc k + suc k ≡ suc (suc (k + k)) = omega arith in
    rw twice (omega (arith, most-least k, least_more (k + k)))

least-upto : (a b : ℕ) → least a ≤ least (b + a)
least-upto a zero =
    let same : zero + a ≡ a = omega arith in
    rw same (omega arith)
least-upto a (suc b) =
    let next : suc b + a ≡ suc (b + a) = omega arith in
    rw next (omega (arith, least-upto a b, least_more (b + a)))

pub height_fits : (marks height : ℕ) → IsTall marks height → marks ≤ 2 ^ 64 → height < 2 ^ 31
height_fits marks height tall few = elim (cases_lt height 130) [
  | inl l ↦ omega arith
  | inr g ↦
      let split : height ≡ (height - 130) + 130 = omega arith in
      let up : least 130 ≤ least height = rw split (least-upto 130 (height - 130)) in
      let high : most 65 ≤ least 130 + 1 = most-least 65 in
      let big : most 65 ≡ 36893488147419103232 = refl in
      absurd (omega (arith, up, high, big, tall.least))
]

-- Nodes

-- a node whose marks were moved one by one is as balanced as before
pub IsBalanced-moved : (f : Mark → Mark) (l l2 : Option (Box Grown Global)) (m m2 : Mark) (r r2 : Option (Box Grown Global)) (h : ℕ) → Rising (map f (marks_in_tree l ++ m ∷ marks_in_tree r))
    → height_of l2 ≡ height_of l → height_of r2 ≡ height_of r → marks_in_tree l2 ++ m2 ∷ marks_in_tree r2 ≡ map f (marks_in_tree l ++ m ∷ marks_in_tree r) → IsBalanced l m r h → IsBalanced l2 m2 r2 h
IsBalanced-moved f l l2 m m2 r r2 h rising left right is balanced =
    let long : length (marks_in_tree l2 ++ m2 ∷ marks_in_tree r2) ≡ length (marks_in_tree l ++ m ∷ marks_in_tree r) = ap (λ (xs : List Mark). length xs) is ∙ length-map (marks_in_tree l ++ m ∷ marks_in_tree r) f in
    record {
      rising = rw is rising;
      high = rw (left, right) balanced.high;
      even = rw (left, right) balanced.even;
      tall = rw long balanced.tall;
    }

-- a node that is made of two sides and a mark between
pub IsBalanced-node : (l : Option (Box Grown Global)) (m : Mark) (r : Option (Box Grown Global)) (h : ℕ) → Rising (marks_in_tree l ++ m ∷ marks_in_tree r) → IsTall (length (marks_in_tree l)) (height_of l) → IsTall (length (marks_in_tree r)) (height_of r) → DifferByAtMost 1 (height_of l) (height_of r) → h ≡ max (height_of l) (height_of r) + 1 → IsBalanced l m r h
IsBalanced-node l m r h rising left right even high = record {
  rising = rising;
  high = high;
  even = even;
  tall = IsTall-node (marks_in_tree l) m (marks_in_tree r) (height_of l) (height_of r) h left right even high;
}

-- Rotations

-- the left side has two parts, and the inner one goes to the right
pub leans_left-inner : (top outer inner right : List Mark) (b k : Mark) → top ≡ outer ++ b ∷ inner → Rising (top ++ k ∷ right) → Rising (inner ++ k ∷ right)
leans_left-inner top outer inner right b k is rising = Rising-inner_right outer b inner k right (rw is at rising)

pub leans_left-top : (top outer inner right behind : List Mark) (b k : Mark) → top ≡ outer ++ b ∷ inner → behind ≡ inner ++ k ∷ right → Rising (top ++ k ∷ right) → Rising (outer ++ b ∷ behind)
leans_left-top top outer inner right behind b k is made rising = rw made (rw (is, append-cons_assoc outer b inner k right) at rising)

-- the inner part is taken apart itself
pub leans_left-before : (top outer inner right p q : List Mark) (b j k : Mark) → top ≡ outer ++ b ∷ inner → inner ≡ p ++ j ∷ q → Rising (top ++ k ∷ right) → Rising (outer ++ b ∷ p)
leans_left-before top outer inner right p q b j k is parts rising = Rising-inner_left outer b p j q (rw (is, parts) at (Rising-front top (k ∷ right) rising))

pub leans_left-behind : (top outer inner right p q : List Mark) (b j k : Mark) → top ≡ outer ++ b ∷ inner → inner ≡ p ++ j ∷ q → Rising (top ++ k ∷ right) → Rising (q ++ k ∷ right)
leans_left-behind top outer inner right p q b j k is parts rising = Rising-inner_right p j q k right (rw parts at (leans_left-inner top outer inner right b k is rising))

pub leans_left-middle : (top outer inner right p q before behind : List Mark) (b j k : Mark) → top ≡ outer ++ b ∷ inner → inner ≡ p ++ j ∷ q → before ≡ outer ++ b ∷ p → behind ≡ q ++ k ∷ right → Rising (top ++ k ∷ right) → Rising (before ++ j ∷ behind)
leans_left-middle top outer inner right p q before behind b j k is parts first second rising =
    rw (first, second, append-cons_assoc outer b p j (q ++ k ∷ right)) (rw (is, parts, append-cons_assoc outer b (p ++ j ∷ q) k right, append-cons_assoc p j q k right) at rising)

-- the right side has two parts, and the inner one goes to the left
pub leans_right-inner : (left top inner outer : List Mark) (k b : Mark) → top ≡ inner ++ b ∷ outer → Rising (left ++ k ∷ top) → Rising (left ++ k ∷ inner)
leans_right-inner left top inner outer k b is rising = Rising-inner_left left k inner b outer (rw is at rising)

pub leans_right-before : (left top inner outer p q : List Mark) (k b j : Mark) → top ≡ inner ++ b ∷ outer → inner ≡ p ++ j ∷ q → Rising (left ++ k ∷ top) → Rising (left ++ k ∷ p)
leans_right-before left top inner outer p q k b j is parts rising = Rising-inner_left left k p j q (rw parts at (leans_right-inner left top inner outer k b is rising))

pub leans_right-behind : (left top inner outer p q : List Mark) (k b j : Mark) → top ≡ inner ++ b ∷ outer → inner ≡ p ++ j ∷ q → Rising (left ++ k ∷ top) → Rising (q ++ b ∷ outer)
leans_right-behind left top inner outer p q k b j is parts rising = Rising-inner_right p j q b outer (rw (is, parts) at (Rising-right left k top rising))

-- Pieces

-- all pieces, including the last one
pub pieces_whole : (none made all : List PieceSize) (low high : Bound) (l h : ℕ) (last : Edge) (marks : List Mark) (len : ℕ) (piece : PieceSize)
    → none ≡ [] → low.0 ≡ l → high.0 ≡ h
    → none ++ pieces_from low 0 (marks ++ []) high len ≡ made ++ pieces_from last.bound last.position [] high len
    → piece ≡ size_between last.bound last.position high len → all ≡ made ++ piece ∷ []
    → all ≡ pieces_from (record { 0 = l }) 0 marks (record { 0 = h }) len
pieces_whole none made all low high l h last marks len piece empty is_low is_high told is_piece is_all =
    let from_nothing : pieces_from low 0 marks high len ≡ made ++ size_between last.bound last.position high len ∷ [] = rw (empty, append-nil marks) at told in
    rw (is_all, is_piece, ← is_low, ← is_high) (sym from_nothing)

-- The invariant of an index

pub length-added : (m : Mark) (marks : List Mark) → length (with_mark m marks) ≡ length marks + 1
length-added m [] = omega arith
length-added m (n ∷ ns) = elim (cases_lt m.bound.0 n.bound.0) [
  | inl l ↦ rw (lt-ltb m.bound.0 n.bound.0 l) (omega arith)
  | inr g ↦ rw (le-ltb m.bound.0 n.bound.0 g) (omega (arith, length-added m ns))
]

-- marks that were moved one by one
pub IsKept-moved : (f : Mark → Mark) (marks new : List Mark) (spare len : ℕ) → new ≡ map f marks → Rising (map f marks) → IsSoundIndex marks spare len → IsSoundIndex new spare len
IsKept-moved f marks new spare len is rising kept = record {
  rising = rw is rising;
  counted = ap (λ (xs : List Mark). length xs) is ∙ length-map marks f ∙ kept.counted;
  few = kept.few;
}

-- one more mark, whose node was spare
pub IsKept-added : (m : Mark) (marks new : List Mark) (spare left len : ℕ) → new ≡ with_mark m marks → left + 1 ≡ spare → Rising (with_mark m marks) → IsSoundIndex marks spare len → IsSoundIndex new left (len + 1)
IsKept-added m marks new spare left len is one rising kept = record {
  rising = rw is rising;
  counted = omega (arith, ap (λ (xs : List Mark). length xs) is, length-added m marks, kept.counted);
  few = omega (arith, kept.few);
}

-- no bound is before the front
pub lowered_at-zero : (marks : List Mark) → map (lowered_at 0) marks ≡ marks
lowered_at-zero marks = map_same (lowered_at 0) marks (λ k d h. same (get_or marks k d))
  where
    same : (m : Mark) → lowered_at 0 m ≡ m
    same m = elim (cases_eq m.position 0) [
      | inl e ↦
          let down : m.position - 1 ≡ m.position = omega arith in
          lowered_at_same 0 m e ∙ (rw down refl)
      | inr ne ↦ lowered_at_apart 0 m ne
    ]

-- Removing

-- a bound that isn't there
removed-none : (b : ℕ) (ms : List Mark) → All (λ n. b < n.bound.0) ms → removed b ms ≡ ms
removed-none b [] above = refl
removed-none b (m ∷ ms) above = rw (ne_eqb m.bound.0 b (λ s. absurd (let h = All-head (λ n. b < n.bound.0) m ms above in omega arith))) (ap (λ ys. m ∷ ys) (removed-none b ms (All-tail (λ n. b < n.bound.0) m ms above)))

pub removed-left : (b : ℕ) (l : List Mark) (m : Mark) (r : List Mark) → Rising (l ++ m ∷ r) → b < m.bound.0 → removed b (l ++ m ∷ r) ≡ removed b l ++ m ∷ r
removed-left b [] m r rising h =
    rw (ne_eqb m.bound.0 b (λ s. absurd (omega arith))) (ap (λ ys. m ∷ ys) (removed-none b r (λ k d i. omega (arith, (Rising-head m r rising k d i).bounds))))
removed-left b (x ∷ l) m r rising h = elim (cases_eq x.bound.0 b) [
  | inl e ↦ rw (eq-eqb x.bound.0 b e) refl
  | inr n ↦ rw (ne_eqb x.bound.0 b n) (ap (λ ys. x ∷ ys) (removed-left b l m r (Rising-tail x (l ++ m ∷ r) rising) h))
]

pub removed-right : (b : ℕ) (l : List Mark) (m : Mark) (r : List Mark) → Rising (l ++ m ∷ r) → m.bound.0 < b → removed b (l ++ m ∷ r) ≡ l ++ m ∷ removed b r
removed-right b [] m r rising h = rw (ne_eqb m.bound.0 b (λ s. absurd (omega arith))) refl
removed-right b (x ∷ l) m r rising h =
    let below = (All-head (λ y. InOrder y m) x l (Rising-before (x ∷ l) m r rising)).bounds in
    rw (ne_eqb x.bound.0 b (λ s. absurd (omega arith))) (ap (λ ys. x ∷ ys) (removed-right b l m r (Rising-tail x (l ++ m ∷ r) rising) h))

pub removed-here : (b : ℕ) (l : List Mark) (m : Mark) (r : List Mark) → Rising (l ++ m ∷ r) → m.bound.0 ≡ b → removed b (l ++ m ∷ r) ≡ l ++ r
removed-here b [] m r rising e = rw (eq-eqb m.bound.0 b e) refl
removed-here b (x ∷ l) m r rising e =
    let below = (All-head (λ y. InOrder y m) x l (Rising-before (x ∷ l) m r rising)).bounds in
    rw (ne_eqb x.bound.0 b (λ s. absurd (omega arith))) (ap (λ ys. x ∷ ys) (removed-here b l m r (Rising-tail x (l ++ m ∷ r) rising) e))

-- an index without one of its marks
pub IsKept-removed : (b : ℕ) (marks new : List Mark) (spare len left : ℕ) → new ≡ removed b marks → HasBound marks b → left + 1 ≡ len → IsSoundIndex marks spare len → IsSoundIndex new spare left
IsKept-removed b marks new spare len left is there one kept = record {
  rising = rw is (SomeMarks-Rising (removed b marks) marks (SomeMarks-removed b marks) kept.rising);
  counted = omega (arith, ap (λ (xs : List Mark). length xs) is, length-removed b marks there, kept.counted);
  few = omega (arith, kept.few);
}
