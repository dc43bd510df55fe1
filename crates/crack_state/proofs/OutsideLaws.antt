-- Handles outside a range, and the rest of a list whose handles of the range are removed in their order.
use Rattle.std.proofs.Common.{◌≡◌, ℕ, zero, suc, ◌+◌, ◌<◌, ◌≤◌, Bool, true, false, List, [], ◌∷◌, ◌++◌, length, get_or, take, drop, refl, sym, ap, ◌∙◌, inl, inr, arith, length-append}
use Rattle.std.specs.Prelude.{not}
use Rattle.std.specs.List.{All, remove}
use Rattle.std.proofs.lemmas.List.Elements.{All-nil, All-cons, All-head, All-tail, filter-append}
use Rattle.std.proofs.lemmas.Bool.{cases_Bool}
use Rattle.std.proofs.lemmas.List.{take-append-drop, get_or-append-add}
use Rattle.std.proofs.lemmas.List.Sums.{length-filter}
use Rattle.std.proofs.lemmas.List.Filters.{length-filter_both}
use Rattle.crack_row.specs.Ranges.{Range, is_in}
use Rattle.crack_row.specs.declared.Row.{Row}
use Rattle.crack_arena.specs.Arena.{Cell, Handle, read}
use Rattle.crack_arena.specs.Rows.{key_at}
use Rattle.crack_state.specs.Merge.{SomeOf, nothing, left_out, kept, outside_of, without_first, count_inside, ReadsOutside}
use Rattle.crack_state.proofs.MergeLaws.{outside_of_not_in}

pub SomeOf-none : (hs : List Handle) → SomeOf [] hs
SomeOf-none [] = nothing
SomeOf-none (h ∷ hs) = left_out h [] hs (SomeOf-none hs)

pub SomeOf-refl : (hs : List Handle) → SomeOf hs hs
SomeOf-refl [] = nothing
SomeOf-refl (h ∷ hs) = kept h hs hs (SomeOf-refl hs)

pub SomeOf-trans : (a b c : List Handle) → SomeOf a b → SomeOf b c → SomeOf a c
SomeOf-trans a b c first nothing = first
SomeOf-trans a b c first (left_out h some all rest) = left_out h a all (SomeOf-trans a some all first rest)
SomeOf-trans a b c first (kept h some all rest) = by_first a some first (λ x of. SomeOf-trans x some all of rest)
  where
    by_first : (x one : List Handle) → SomeOf x (h ∷ one) → ((y : List Handle) → SomeOf y one → SomeOf y all) → SomeOf x (h ∷ all)
    by_first x one (left_out g other more of) go = left_out h other all (go other of)
    by_first x one (kept g other more of) go = kept h other all (go other of)

pub SomeOf-remove : (hs : List Handle) (i : ℕ) → SomeOf (remove hs i) hs
SomeOf-remove [] zero = nothing
SomeOf-remove [] (suc i) = nothing
SomeOf-remove (h ∷ hs) zero = left_out h hs hs (SomeOf-refl hs)
SomeOf-remove (h ∷ hs) (suc i) = kept h (remove hs i) hs (SomeOf-remove hs i)

module _ (cells : List (Cell Row)) (r : Range) where
  abbrev inside : Handle → Bool
  inside h = is_in r (key_at cells h)

  outside_of-in : (h : Handle) (hs : List Handle) → inside h ≡ true → outside_of cells r (h ∷ hs) ≡ outside_of cells r hs
  outside_of-in h hs is = rw is refl

  outside_of-out : (h : Handle) (hs : List Handle) → inside h ≡ false → outside_of cells r (h ∷ hs) ≡ h ∷ outside_of cells r hs
  outside_of-out h hs is = rw is refl

  -- some of a list, and of its handles outside the range
  pub SomeOf-outside : (some all : List Handle) → SomeOf some all → SomeOf (outside_of cells r some) (outside_of cells r all)
  SomeOf-outside some all nothing = nothing
  SomeOf-outside some all (left_out h one more of) = elim (cases_Bool (inside h)) [
    | inl is ↦ rw (outside_of-in h more is) (SomeOf-outside one more of)
    | inr is ↦ rw (outside_of-out h more is) (left_out h (outside_of cells r one) (outside_of cells r more) (SomeOf-outside one more of))
  ]
  SomeOf-outside some all (kept h one more of) = elim (cases_Bool (inside h)) [
    | inl is ↦ rw (outside_of-in h more is, outside_of-in h one is) (SomeOf-outside one more of)
    | inr is ↦ rw (outside_of-out h more is, outside_of-out h one is) (kept h (outside_of cells r one) (outside_of cells r more) (SomeOf-outside one more of))
  ]

  -- at most all of those that are gone were outside the range
  pub length-SomeOf_outside : (some all : List Handle) → SomeOf some all → length (outside_of cells r all) + length some ≤ length (outside_of cells r some) + length all
  length-SomeOf_outside some all nothing = omega arith
  length-SomeOf_outside some all (left_out h one more of) = elim (cases_Bool (inside h)) [
    | inl is ↦ rw (outside_of-in h more is) (omega (arith, length-SomeOf_outside one more of))
    | inr is ↦ rw (outside_of-out h more is) (omega (arith, length-SomeOf_outside one more of))
  ]
  length-SomeOf_outside some all (kept h one more of) = elim (cases_Bool (inside h)) [
    | inl is ↦ rw (outside_of-in h more is, outside_of-in h one is) (omega (arith, length-SomeOf_outside one more of))
    | inr is ↦ rw (outside_of-out h more is, outside_of-out h one is) (omega (arith, length-SomeOf_outside one more of))
  ]

  -- each handle is in the range or outside it
  pub length-outside : (hs : List Handle) → length (outside_of cells r hs) + count_inside cells r hs ≡ length hs
  length-outside hs =
      let split = length-filter_both inside (λ h. not (inside h)) (λ h. refl) hs in
      omega (arith, split, length-filter inside hs)

  -- those outside have their key outside
  pub All-outside : (hs : List Handle) → All (ReadsOutside cells r) (outside_of cells r hs)
  All-outside [] = All-nil (ReadsOutside cells r)
  All-outside (h ∷ hs) = elim (cases_Bool (inside h)) [
    | inl is ↦ rw (outside_of-in h hs is) (All-outside hs)
    | inr is ↦ rw (outside_of-out h hs is) (All-cons (ReadsOutside cells r) h (outside_of cells r hs) (outside_of_not_in r (key_at cells h) is) (All-outside hs))
  ]

  -- if none is in the range, all are outside it
  pub outside_of-all : (hs : List Handle) → All (λ h. inside h ≡ false) hs → outside_of cells r hs ≡ hs
  outside_of-all [] none = refl
  outside_of-all (h ∷ hs) none =
      outside_of-out h hs (All-head (λ g. inside g ≡ false) h hs none) ∙ ap (λ gs. h ∷ gs) (outside_of-all hs (All-tail (λ g. inside g ≡ false) h hs none))

  -- of the handles up to some place those of the range are gone, so none of those that a search has passed is in the range
  pub record LacksFirst (before left : List Handle) (from : ℕ) : Type 0 where
    pub passed : ℕ
    pub within : passed ≤ length before
    pub left_are : left ≡ without_first cells r passed before
    pub from_is : from ≡ length (outside_of cells r (take passed before))

  pub LacksFirst-none : (hs : List Handle) → LacksFirst hs hs 0
  LacksFirst-none hs = record { passed = 0; within = omega arith; left_are = refl; from_is = refl }

  lacks_in : (h : Handle) (before left : List Handle) (from : ℕ) → inside h ≡ true → LacksFirst before left from → LacksFirst (h ∷ before) left from
  lacks_in h before left from is lacks = record {
    passed = suc lacks.passed;
    within = omega (arith, lacks.within);
    left_are = rw (outside_of-in h (take lacks.passed before) is) lacks.left_are;
    from_is = rw (outside_of-in h (take lacks.passed before) is) lacks.from_is;
  }

  lacks_out : (h : Handle) (before left : List Handle) (from : ℕ) → inside h ≡ false → LacksFirst before left from → LacksFirst (h ∷ before) (h ∷ left) (suc from)
  lacks_out h before left from is lacks = record {
    passed = suc lacks.passed;
    within = omega (arith, lacks.within);
    left_are = rw (outside_of-out h (take lacks.passed before) is) (ap (λ hs. h ∷ hs) lacks.left_are);
    from_is = rw (outside_of-out h (take lacks.passed before) is) (ap suc lacks.from_is);
  }

  -- none of the handles from one place up to another is in the range
  abbrev pub NoneInside : List Handle → ℕ → ℕ → Type 0
  NoneInside hs from to = (j : ℕ) (d : Handle) → from ≤ j → j < to → inside (get_or hs j d) ≡ false

  next_at : (hs : List Handle) (k place : ℕ) (d : Handle) → length (outside_of cells r (take k hs)) ≤ place → place < length (without_first cells r k hs) → NoneInside (without_first cells r k hs) (length (outside_of cells r (take k hs))) place → inside (get_or (without_first cells r k hs) place d) ≡ true → LacksFirst hs (remove (without_first cells r k hs) place) place
  next_at [] zero place d after within none met = absurd (omega arith)
  next_at [] (suc k) place d after within none met = absurd (omega arith)
  next_at (x ∷ xs) zero zero d after within none met = lacks_in x xs xs 0 met (LacksFirst-none xs)
  next_at (x ∷ xs) zero (suc place) d after within none met =
      lacks_out x xs (remove xs place) place (none 0 d (omega arith) (omega arith)) (next_at xs zero place d (omega arith) (omega arith) (λ j g from to. none (suc j) g (omega arith) (omega arith)) met)
  next_at (x ∷ xs) (suc k) place d after within none met = by_test (inside x) refl (λ p a w n m. next_at xs k p d a w n m) place after within none met
    where
      by_test : (b : Bool) → inside x ≡ b → ((p : ℕ) → length (outside_of cells r (take k xs)) ≤ p → p < length (without_first cells r k xs) → NoneInside (without_first cells r k xs) (length (outside_of cells r (take k xs))) p → inside (get_or (without_first cells r k xs) p d) ≡ true → LacksFirst xs (remove (without_first cells r k xs) p) p) → (place : ℕ) → length (outside_of cells r (x ∷ take k xs)) ≤ place → place < length (without_first cells r (suc k) (x ∷ xs)) → NoneInside (without_first cells r (suc k) (x ∷ xs)) (length (outside_of cells r (x ∷ take k xs))) place → inside (get_or (without_first cells r (suc k) (x ∷ xs)) place d) ≡ true → LacksFirst (x ∷ xs) (remove (without_first cells r (suc k) (x ∷ xs)) place) place
      by_test true is go place after within none met =
          let e = outside_of-in x (take k xs) is in
          rw e (lacks_in x xs (remove (without_first cells r k xs) place) place is (go place (rw e at after) (rw e at within) (rw e at none) (rw e at met)))
      by_test false is go zero after within none met = absurd (let e = outside_of-out x (take k xs) is in let bad = rw e at after in omega arith)
      by_test false is go (suc place) after within none met =
          let e = outside_of-out x (take k xs) is in
          let after_now = rw e at after in
          let within_now = rw e at within in
          let none_now = rw e at none in
          let met_now = rw e at met in
          rw e (lacks_out x xs (remove (without_first cells r k xs) place) place is (go place (omega arith) (omega arith) (λ j g from to. none_now (suc j) g (omega arith) (omega arith)) met_now))

  -- the next handle of the range is removed
  pub LacksFirst-next : (before left : List Handle) (from place : ℕ) (d : Handle) → LacksFirst before left from → from ≤ place → place < length left → NoneInside left from place → inside (get_or left place d) ≡ true → LacksFirst before (remove left place) place
  LacksFirst-next before left from place d lacks after within none met =
      rw lacks.left_are (next_at before lacks.passed place d (rw lacks.from_is at after) (rw lacks.left_are at within) (rw (lacks.left_are, lacks.from_is) at none) (rw lacks.left_are at met))

  -- no other is in the range
  pub LacksFirst-all : (before left : List Handle) (from : ℕ) → LacksFirst before left from → NoneInside left from (length left) → left ≡ outside_of cells r before
  LacksFirst-all before left from lacks none =
      let front = outside_of cells r (take lacks.passed before) in
      let back = drop lacks.passed before in
      let none_now = rw (lacks.left_are, lacks.from_is) at none in
      let rest : outside_of cells r back ≡ back = outside_of-all back (λ k d h.
      let there = none_now (length front + k) d (omega arith) (omega (arith, length-append front back)) in
      rw (get_or-append-add front back k d) at there) in
      let split : outside_of cells r before ≡ front ++ outside_of cells r back =
      ap (outside_of cells r) (sym (take-append-drop lacks.passed before)) ∙ filter-append (λ h. not (inside h)) (take lacks.passed before) back in
      lacks.left_are ∙ sym (split ∙ ap (λ hs. front ++ hs) rest)

-- handles that read alike are outside alike
pub outside_of-reads : (cells after : List (Cell Row)) (r : Range) (hs : List Handle) → All (λ h. read after h ≡ read cells h) hs → outside_of after r hs ≡ outside_of cells r hs
outside_of-reads cells after r [] same = refl
outside_of-reads cells after r (h ∷ hs) same = rw (same 0 h (omega arith), outside_of-reads cells after r hs (λ k d i. same (suc k) d (omega (arith, i)))) refl
