-- The next bound above a number.
use Rattle.std.proofs.Common.{◌≡◌, ℕ, ◌<◌, ◌≤◌, List, [], ◌∷◌, length, get_or, drop, Option, None, Some, refl, ap, inl, inr, arith}
use Rattle.std.specs.List.{All}
use Rattle.std.proofs.lemmas.Bool.{cases_lt, lt-ltb, le-ltb}
use Rattle.std.proofs.lemmas.List.Elements.{All-contains}
use Rattle.crack_row.specs.Ranges.{Range}
use Rattle.crack_arena.specs.Arena.{Handle}
use Rattle.crack_index.specs.declared.mark.Mark.{Mark}
use Rattle.crack_index.specs.Marks.{Rising, next_mark, bounds_of}
use Rattle.crack_index.proofs.MarkLaws.{next_mark-is, next_mark-none}
use Rattle.crack_state.specs.State.{State, IsIntact}
use Rattle.crack_state.specs.Merge.{Follows, bound_or, bound_above, beyond}

-- it lies between the number and the partition's high end
pub bound_above-between : (s : State) (hand : List Handle) (bound : ℕ) → IsIntact s hand → bound ≤ s.keys.high → (bound ≤ bound_above s bound) × (bound_above s bound ≤ s.keys.high)
bound_above-between s hand bound intact within = by_next (next_mark bound s.marks) refl
  where
    by_next : (next : Option Mark) → next_mark bound s.marks ≡ next → (bound ≤ bound_or s.keys.high next) × (bound_or s.keys.high next ≤ s.keys.high)
    by_next None found = (within, omega arith)
    by_next (Some m) found =
        let is_next = next_mark-is bound s.marks m intact.rising found in
        let inside = All-contains (λ (n : Mark). (s.keys.low < n.bound.0) × (n.bound.0 < s.keys.high)) s.marks m intact.inside is_next.listed in
        (omega (arith, is_next.above), omega (arith, inside.1))

-- no other bound lies between the two
pub bound_above-least : (s : State) (bound : ℕ) → Rising s.marks → All (λ (m : Mark). bound < m.bound.0 → bound_above s bound ≤ m.bound.0) s.marks
bound_above-least s bound rising = by_next (next_mark bound s.marks) refl
  where
    by_next : (next : Option Mark) → next_mark bound s.marks ≡ next → All (λ (m : Mark). bound < m.bound.0 → bound_or s.keys.high next ≤ m.bound.0) s.marks
    by_next None found = λ k d within above. absurd (omega (arith, above, next_mark-none bound s.marks found k d within))
    by_next (Some m) found = (next_mark-is bound s.marks m rising found).least

-- what follows a store has its bounds
same_next : (end bound : ℕ) (ms ns : List Mark) → bounds_of ns ≡ bounds_of ms → bound_or end (next_mark bound ns) ≡ bound_or end (next_mark bound ms)
same_next end bound [] [] same = refl
same_next end bound [] (n ∷ ns) same = absurd (omega (arith, ap length same))
same_next end bound (m ∷ ms) [] same = absurd (omega (arith, ap length same))
same_next end bound (m ∷ ms) (n ∷ ns) same =
    let head : n.bound.0 ≡ m.bound.0 = ap (λ xs. get_or xs 0 0) same in
    let rest = same_next end bound ms ns (ap (drop 1) same) in
    elim (cases_lt bound m.bound.0) [
      | inl l ↦ rw (lt-ltb bound m.bound.0 l, lt-ltb bound n.bound.0 (omega (arith, l, head))) head
      | inr l ↦ rw (le-ltb bound m.bound.0 l, le-ltb bound n.bound.0 (omega (arith, l, head))) rest
    ]

pub beyond-follows : (s t : State) (r : Range) → Follows s t → beyond t r ≡ beyond s r
beyond-follows s t r follows =
    let above : bound_above t r.high ≡ bound_above s r.high = rw follows.keys (same_next s.keys.high r.high s.marks t.marks follows.bounds) in
    rw above refl
