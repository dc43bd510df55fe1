-- The marks without some of them.
use Rattle.std.proofs.Common.{◌≡◌, ◌≢◌, ℕ, ◌+◌, List, [], ◌∷◌, length, inl, inr, zero, suc, arith}
use Rattle.std.specs.List.{All}
use Rattle.std.proofs.lemmas.Bool.{cases_eq, eq-eqb, ne_eqb}
use Rattle.std.proofs.lemmas.List.Elements.{All-nil, All-cons, All-head, All-tail}
use Rattle.crack_index.specs.declared.mark.Mark.{Mark}
use Rattle.crack_index.specs.Marks.{InOrder, Rising, HasBound, removed, SomeMarks}
use Rattle.crack_index.proofs.MarkLaws.{Rising-head, Rising-tail, Rising-cons}

-- Some of the marks

pub SomeMarks-all : (ms : List Mark) → SomeMarks ms ms
SomeMarks-all [] = SomeMarks.nothing
SomeMarks-all (m ∷ ms) = SomeMarks.kept m ms ms (SomeMarks-all ms)

pub SomeMarks-All : (P : Mark → Type 0) (some all : List Mark) → SomeMarks some all → All P all → All P some
SomeMarks-All P some all SomeMarks.nothing holds = All-nil P
SomeMarks-All P some all (SomeMarks.left_out m ms ns is) holds = SomeMarks-All P ms ns is (All-tail P m ns holds)
SomeMarks-All P some all (SomeMarks.kept m ms ns is) holds = All-cons P m ms (All-head P m ns holds) (SomeMarks-All P ms ns is (All-tail P m ns holds))

pub SomeMarks-Rising : (some all : List Mark) → SomeMarks some all → Rising all → Rising some
SomeMarks-Rising some all SomeMarks.nothing rising = rising
SomeMarks-Rising some all (SomeMarks.left_out m ms ns is) rising = SomeMarks-Rising ms ns is (Rising-tail m ns rising)
SomeMarks-Rising some all (SomeMarks.kept m ms ns is) rising = Rising-cons m ms (SomeMarks-All (InOrder m) ms ns is (Rising-head m ns rising)) (SomeMarks-Rising ms ns is (Rising-tail m ns rising))

-- Without one of them

pub SomeMarks-removed : (b : ℕ) (ms : List Mark) → SomeMarks (removed b ms) ms
SomeMarks-removed b [] = SomeMarks.nothing
SomeMarks-removed b (m ∷ ms) = elim (cases_eq m.bound.0 b) [
  | inl e ↦ rw (eq-eqb m.bound.0 b e) (SomeMarks.left_out m ms ms (SomeMarks-all ms))
  | inr n ↦ rw (ne_eqb m.bound.0 b n) (SomeMarks.kept m (removed b ms) ms (SomeMarks-removed b ms))
]

pub length-removed : (b : ℕ) (ms : List Mark) → HasBound ms b → length (removed b ms) + 1 ≡ length ms
length-removed b [] there = absurd (let h = there.1 in omega arith)
length-removed b (m ∷ ms) there = elim (cases_eq m.bound.0 b) [
  | inl e ↦ rw (eq-eqb m.bound.0 b e) (omega arith)
  | inr n ↦ rw (ne_eqb m.bound.0 b n) (omega (arith, length-removed b ms (HasBound-behind m ms b there n)))
]
  where
    HasBound-behind : (m : Mark) (ms : List Mark) (b : ℕ) → HasBound (m ∷ ms) b → m.bound.0 ≢ b → HasBound ms b
    HasBound-behind m ms b (zero, h, e) apart = absurd (apart e)
    HasBound-behind m ms b (suc i, h, e) apart = (i, omega arith, e)
