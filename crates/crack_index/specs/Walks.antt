-- The result of a walk over the marks of an index. At each place that has bounds the walk calls a visitor, which
-- returns whether the walk goes on.
use Rattle.std.specs.Prelude.{◌≡◌, ℕ, ◌-◌, ◌<◌, Bool, true, false, List, map, Option, Some, None}
use Rattle.crack_index.specs.declared.mark.Mark.{Mark}
use Rattle.crack_index.specs.Marks.{first_after, last_before, raised, lowered}

-- a walk up. In this order: the mark where it begins, if any, all marks and the visitor before the walk, the mark
-- where it ends, if any, and all marks and the visitor after the walk. `visits` relates the visitor before a visit,
-- the place, whether the walk goes on, and the visitor after the visit
pub data Climbs {V : Type 0} (visits : V → ℕ → Bool → V → Type 0) : Option Mark → List Mark → V → Option Mark → List Mark → V → Type 0 where
  -- no bound is left, so the walk ends
  ends : (marks : List Mark) (v : V) → Climbs visits None marks v None marks v
  -- the visitor is given the bound's place and ends the walk, so no bound moves
  stops : (m : Mark) (marks : List Mark) (v w : V) → visits v m.position false w → Climbs visits (Some m) marks v (Some m) marks w
  -- the visitor lets the walk go on: this bound and the higher bounds at its place move up by one, and the first
  -- mark after that place is next
  goes_on : (m : Mark) (last : Option Mark) (marks marks' : List Mark) (v w x : V) → visits v m.position true w → Climbs visits (first_after m.position marks) (map (raised m.bound.0 m.position) marks) w last marks' x → Climbs visits (Some m) marks v last marks' x

-- like `Climbs`, for a walk down: the visitor is called with the place right before a bound; there is none before a
-- bound at the place 0, which ends the walk
pub data Descends {V : Type 0} (visits : V → ℕ → Bool → V → Type 0) : Option Mark → List Mark → V → Option Mark → List Mark → V → Type 0 where
  -- no bound is left, so the walk ends
  ends : (marks : List Mark) (v : V) → Descends visits None marks v None marks v
  -- the bound is at the place 0: the walk ends there, and the visitor isn't called
  front : (m : Mark) (marks : List Mark) (v : V) → m.position ≡ 0 → Descends visits (Some m) marks v (Some m) marks v
  -- the visitor is given the place right before the bound and ends the walk, so no bound moves
  stops : (m : Mark) (marks : List Mark) (v w : V) → 0 < m.position → visits v (m.position - 1) false w → Descends visits (Some m) marks v (Some m) marks w
  -- the visitor lets the walk go on: this bound and the lower bounds at its place move down by one, and the last
  -- mark before that place is next
  goes_on : (m : Mark) (last : Option Mark) (marks marks' : List Mark) (v w x : V) → 0 < m.position → visits v (m.position - 1) true w → Descends visits (last_before m.position marks) (map (lowered m.bound.0 m.position) marks) w last marks' x → Descends visits (Some m) marks v last marks' x
