-- What a pass finds in the marks of a tree, part by part.
use Rattle.std.proofs.Common.{◌≡◌, ◌⊎◌, ℕ, ◌-◌, ◌<◌, ◌≤◌, List, [], ◌∷◌, ◌++◌, Some, None, true, false, inl, inr, refl, ◌∙◌, arith}
use Rattle.std.specs.Prelude.{Bool, Option}
use Rattle.std.specs.List.{All}
use Rattle.std.proofs.lemmas.Bool.{cases_lt, le-leb, lt-leb}
use Rattle.std.proofs.lemmas.List.Elements.{All-nil, All-cons, All-head, All-tail, All-weaker}
use Rattle.crack_index.specs.declared.mark.Mark.{Mark}
use Rattle.crack_index.specs.Marks.{InOrder, Rising}
use Rattle.crack_index.specs.Passes.{PassProgress, moved_past, next_few}
use Rattle.crack_index.specs.Finds.{AreAhead, found_from, found_or}
use Rattle.crack_index.proofs.Sides.{Rising-before, Rising-behind}

-- the bounds on the left of a mark are below it
pub left_below : (l : List Mark) (m : Mark) (r : List Mark) → Rising (l ++ m ∷ r) → All (λ (x : Mark). x.bound.0 < m.bound.0) l
left_below l m r rising = All-weaker (λ (x : Mark). InOrder x m) (λ (x : Mark). x.bound.0 < m.bound.0) (λ x order. order.bounds) l (Rising-before l m r rising)

-- what it comes to is above what it has met, in each part
front_of : (P : Mark → Type 0) (l r : List Mark) → All P (l ++ r) → All P l
front_of P [] r all = All-nil P
front_of P (x ∷ l) r all = All-cons P x l (All-head P x (l ++ r) all) (front_of P l r (All-tail P x (l ++ r) all))

rest_of : (P : Mark → Type 0) (l r : List Mark) → All P (l ++ r) → All P r
rest_of P [] r all = all
rest_of P (x ∷ l) r all = rest_of P l r (All-tail P x (l ++ r) all)

pub left_ahead : (last : Option Mark) (p : PassProgress) (l : List Mark) (m : Mark) (r : List Mark) → AreAhead last p (l ++ m ∷ r) → AreAhead last p l
left_ahead None p l m r ahead = tt
left_ahead (Some b) p l m r ahead = front_of (λ (x : Mark). p.after < x.bound.0) l (m ∷ r) ahead

pub here_ahead : (last : Option Mark) (p : PassProgress) (l : List Mark) (m : Mark) (r : List Mark) → AreAhead last p (l ++ m ∷ r) → AreAhead last p (m ∷ [])
here_ahead None p l m r ahead = tt
here_ahead (Some b) p l m r ahead = All-cons (λ (x : Mark). p.after < x.bound.0) m [] (All-head (λ (x : Mark). p.after < x.bound.0) m r (rest_of (λ (x : Mark). p.after < x.bound.0) l (m ∷ r) ahead)) (All-nil (λ (x : Mark). p.after < x.bound.0))

pub behind_ahead : (last : Option Mark) (p : PassProgress) (l : List Mark) (m : Mark) (r : List Mark) → AreAhead last p (l ++ m ∷ r) → AreAhead last p r
behind_ahead None p l m r ahead = tt
behind_ahead (Some b) p l m r ahead = All-tail (λ (x : Mark). p.after < x.bound.0) m r (rest_of (λ (x : Mark). p.after < x.bound.0) l (m ∷ r) ahead)

-- a pass that has come to a mark at most comes only to bounds above it on the right
pub right_ahead : (last : Option Mark) (p : PassProgress) (l : List Mark) (m : Mark) (r : List Mark) → Rising (l ++ m ∷ r) → p.after ≤ m.bound.0 → AreAhead last p r
right_ahead None p l m r rising upto = tt
right_ahead (Some b) p l m r rising upto = All-weaker (InOrder m) (λ (x : Mark). p.after < x.bound.0) (λ x order. let above = order.bounds in omega arith) r (Rising-behind l m r rising)

-- it isn't before a bound that a test denies
pub not_before : (a b : ℕ) → (a < b → false ≡ true) → b ≤ a
not_before a b denied = elim (cases_lt a b) [
  | inl below ↦ absurd (let e = denied below in cc)
  | inr above ↦ above
]

-- it passes by the bounds that it has met
passed_by : (len : ℕ) (p : PassProgress) (l ms : List Mark) → All (λ (m : Mark). m.bound.0 ≤ p.after) l → next_few len p (l ++ ms) ≡ next_few len p ms
passed_by len p [] ms all = refl
passed_by len p (m ∷ l) ms all = rw (le-leb m.bound.0 p.after (All-head (λ (x : Mark). x.bound.0 ≤ p.after) m l all)) (passed_by len p l ms (All-tail (λ (x : Mark). x.bound.0 ≤ p.after) m l all))

pub found_from-passed : (len : ℕ) (last : Option Mark) (p : PassProgress) (l : List Mark) (m : Mark) (r ms : List Mark) → Rising (l ++ m ∷ r) → m.bound.0 ≤ p.after → AreAhead last p (m ∷ []) → found_from len last p (l ++ m ∷ (r ++ ms)) ≡ found_from len last p (r ++ ms)
found_from-passed len (Some b) p l m r ms rising upto ahead = absurd (let above = All-head (λ (x : Mark). p.after < x.bound.0) m [] ahead in omega arith)
found_from-passed len None p l m r ms rising upto ahead =
    passed_by len p l (m ∷ (r ++ ms)) (All-weaker (λ (x : Mark). x.bound.0 < m.bound.0) (λ (x : Mark). x.bound.0 ≤ p.after) (λ x below. omega arith) l (left_below l m r rising))
    ∙ rw (le-leb m.bound.0 p.after upto) refl

-- What it finds at the end of the marks

pub nothing_halts : (b : Bool) (len : ℕ) (p : PassProgress) → found_or b len None p [] ≡ (None, p)
nothing_halts true len p = refl
nothing_halts false len p = refl

pub few_halt : (b : Bool) (len : ℕ) (m : Mark) (p : PassProgress) → (b ≡ true) ⊎ (len - p.from ≤ p.rows) → found_or b len (Some m) p [] ≡ (Some m.bound, p)
few_halt true len m p which = refl
few_halt false len m p (inl halts) = absurd (cc)
few_halt false len m p (inr few) = rw (le-leb (len - p.from) p.rows few) refl

pub many_pass : (len : ℕ) (m : Mark) (p : PassProgress) → (len - p.from ≤ p.rows → false ≡ true) → found_or false len (Some m) p [] ≡ (None, moved_past m p)
many_pass len m p many = rw (lt-leb (len - p.from) p.rows (beyond (len - p.from) p.rows many)) refl
  where
    beyond : (a b : ℕ) → (a ≤ b → false ≡ true) → b < a
    beyond a b denied = elim (cases_lt b a) [
      | inl above ↦ above
      | inr upto ↦ absurd (let e = denied upto in cc)
    ]
