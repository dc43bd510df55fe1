-- What a pass finds is a bound of the marks.
use Rattle.std.proofs.Common.{◌≡◌, ℕ, List, [], ◌∷◌, Some, None, true, false, leb, refl, sym, ap, subst, ◌∙◌, inl, inr}
use Rattle.std.specs.Prelude.{Bool, ◌==◌, Option, Contains, IfSome}
use Rattle.std.specs.List.{All}
use Rattle.std.proofs.lemmas.Bool.{cases_eq, cases_lt, eq-eqb, ne_eqb, lt-leb, le-leb}
use Rattle.std.proofs.lemmas.List.Elements.{All-head, All-tail, All-weaker, All-contains_itself}
use Rattle.crack_row.specs.declared.InnerBound.{InnerBound}
use Rattle.crack_index.specs.declared.mark.Mark.{Mark}
use Rattle.crack_index.specs.Marks.{HasBound}
use Rattle.crack_index.specs.Passes.{PassProgress, are_few, met, moved_past, next_few}
use Rattle.crack_index.proofs.MarkLaws.{HasBound-mark}

-- how a pass comes to a mark
data Comes (len : ℕ) (p : PassProgress) (m : Mark) (ms : List Mark) : Type 0 where
  -- the bound stays, and it goes on
  goes_on : (p' : PassProgress) → next_few len p (m ∷ ms) ≡ next_few len p' ms → Comes len p m ms
  -- it meets no more
  stops : next_few len p (m ∷ ms) ≡ (None, p) → Comes len p m ms
  -- it finds the bound
  finds : next_few len p (m ∷ ms) ≡ (Some m.bound, met m p) → Comes len p m ms

comes : (len : ℕ) (p : PassProgress) (m : Mark) (ms : List Mark) → Comes len p m ms
comes len p m ms = elim (cases_lt p.after m.bound.0) [
  | inr before ↦ Comes.goes_on p (rw (le-leb m.bound.0 p.after before) refl)
  | inl ahead ↦ elim (cases_eq p.bounds 0) [
    | inl none ↦ Comes.stops (rw (lt-leb m.bound.0 p.after ahead, eq-eqb p.bounds 0 none) refl)
    | inr more ↦ by_size (are_few len (met m p) ms) refl (lt-leb m.bound.0 p.after ahead) (ne_eqb p.bounds 0 more)
  ]
]
  where
    by_size : (b : Bool) → are_few len (met m p) ms ≡ b → leb m.bound.0 p.after ≡ false → (p.bounds == 0) ≡ false → Comes len p m ms
    by_size true few ahead more = Comes.finds (rw (ahead, more, few) refl)
    by_size false many ahead more = Comes.goes_on (moved_past m (met m p)) (rw (ahead, more, many) refl)

-- what it finds is one of the bounds
next_few-one : (P : ℕ → Type 0) (len : ℕ) (p q : PassProgress) (b : InnerBound) (ms : List Mark) → All (λ (m : Mark). P m.bound.0) ms → next_few len p ms ≡ (Some b, q) → P b.0
next_few-one P len p q b [] all is = absurd (let e : None ≡ Some b = ap (λ (x : Option InnerBound × PassProgress). x.0) is in cc)
next_few-one P len p q b (m ∷ ms) all is = elim (comes len p m ms) [
  | Comes.goes_on p' next ↦ next_few-one P len p' q b ms (All-tail (λ (x : Mark). P x.bound.0) m ms all) (sym next ∙ is)
  | Comes.stops next ↦ absurd (let e : None ≡ Some b = ap (λ (x : Option InnerBound × PassProgress). x.0) (sym next ∙ is) in cc)
  | Comes.finds next ↦
      let e : Some m.bound ≡ Some b = ap (λ (x : Option InnerBound × PassProgress). x.0) (sym next ∙ is) in
      let same : m.bound ≡ b = cc in
      subst (λ (x : InnerBound). P x.0) same (All-head (λ (x : Mark). P x.bound.0) m ms all)
]

pub next_few-there : (len : ℕ) (p q : PassProgress) (found : Option InnerBound) (ms : List Mark) → (found, q) ≡ next_few len p ms → IfSome found (λ b. HasBound ms b.0)
next_few-there len p q None ms is = tt
next_few-there len p q (Some b) ms is = next_few-one (HasBound ms) len p q b ms (All-weaker (Contains ms) (λ (m : Mark). HasBound ms m.bound.0) (λ m there. HasBound-mark ms m there) ms (All-contains_itself ms)) (sym is)
