-- What private clauses alone cite.
-- The steps of a walk, one for each mark. The walk calls a visitor with a place, and the visitor returns whether the
-- walk goes on. `way` is how far the walk has come: `last` is the place of the mark at which the visitor was called
-- last, and `ended` the mark at which the walk ended, if it has.
use Rattle.std.specs.Prelude.{◌≡◌, ◌≢◌, ℕ, ◌+◌, ◌-◌, ◌<◌, ◌≤◌, Bool, true, false, List, [], ◌∷◌, Some, None}
use Rattle.crack_index.specs.declared.mark.Mark.{Mark}
use Rattle.crack_index.specs.declared.walk.Way.{Way}

-- the mark moved up by one place
abbrev pub one_up : Mark → Mark
one_up m = record m { position = m.position + 1 }

-- the mark moved down by one place
abbrev pub one_down : Mark → Mark
one_down m = record m { position = m.position - 1 }

-- a step at a mark, in a walk up from the first bound above `number`. In this order: the mark, the way and the visitor
-- before the step, and the same three after it. `visits` relates the visitor before a visit, the place, whether the
-- walk goes on, and the visitor after the visit
pub data StepsUp {V : Type 0} (visits : V → ℕ → Bool → V → Type 0) (number : ℕ) : Mark → Way → V → Mark → Way → V → Type 0 where
  -- the bound isn't above the number: nothing changes
  apart : (m : Mark) (way : Way) (v : V) → m.bound.0 ≤ number → StepsUp visits number m way v m way v
  -- the walk has ended: nothing changes
  over : (m e : Mark) (way : Way) (v : V) → way.ended ≡ Some e → StepsUp visits number m way v m way v
  -- the mark is at the place of the last visit: it moves up by one, as the mark that was visited there did
  along : (m : Mark) (way : Way) (v : V) → number < m.bound.0 → way.ended ≡ None → m.position ≡ way.last → StepsUp visits number m way v (one_up m) way v
  -- the visitor is given the mark's place, and lets the walk go on: the mark moves up by one
  goes_on : (m : Mark) (way : Way) (v w : V) → number < m.bound.0 → way.ended ≡ None → m.position ≢ way.last → visits v m.position true w → StepsUp visits number m way v (one_up m) (record way { last = m.position }) w
  -- the visitor is given the mark's place, and ends the walk: the mark stays
  stops : (m : Mark) (way : Way) (v w : V) → number < m.bound.0 → way.ended ≡ None → m.position ≢ way.last → visits v m.position false w → StepsUp visits number m way v m (record way { ended = Some m }) w

-- like `StepsUp`, for a walk down from the last bound at or below `number`. The visitor is called with the place right
-- before the mark, and a mark that moves goes down by one
pub data StepsDown {V : Type 0} (visits : V → ℕ → Bool → V → Type 0) (number : ℕ) : Mark → Way → V → Mark → Way → V → Type 0 where
  -- the bound is above the number: nothing changes
  apart : (m : Mark) (way : Way) (v : V) → number < m.bound.0 → StepsDown visits number m way v m way v
  -- the walk has ended: nothing changes
  over : (m e : Mark) (way : Way) (v : V) → way.ended ≡ Some e → StepsDown visits number m way v m way v
  -- the mark is at the place 0, with no place before it: the walk ends, and the visitor isn't called
  front : (m : Mark) (way : Way) (v : V) → m.bound.0 ≤ number → way.ended ≡ None → m.position ≡ 0 → StepsDown visits number m way v m (record way { ended = Some m }) v
  -- the mark is where the mark of the last visit was: it moves down by one, as that mark did
  along : (m : Mark) (way : Way) (v : V) → m.bound.0 ≤ number → way.ended ≡ None → 0 < m.position → m.position ≡ way.last → StepsDown visits number m way v (one_down m) way v
  -- the visitor is given the place right before the mark, and lets the walk go on: the mark moves down by one
  goes_on : (m : Mark) (way : Way) (v w : V) → m.bound.0 ≤ number → way.ended ≡ None → 0 < m.position → m.position ≢ way.last → visits v (m.position - 1) true w → StepsDown visits number m way v (one_down m) (record way { last = m.position }) w
  -- the visitor is given the place right before the mark, and ends the walk: the mark stays
  stops : (m : Mark) (way : Way) (v w : V) → m.bound.0 ≤ number → way.ended ≡ None → 0 < m.position → m.position ≢ way.last → visits v (m.position - 1) false w → StepsDown visits number m way v m (record way { ended = Some m }) w

-- a walk with one `step` at each mark, in turn. In this order: the marks, the way and the visitor before the walk, and
-- the same three after it
pub data Goes {V : Type 0} (step : Mark → Way → V → Mark → Way → V → Type 0) : List Mark → Way → V → List Mark → Way → V → Type 0 where
  here : (way : Way) (v : V) → Goes step [] way v [] way v
  more : (m m' : Mark) (ms ms' : List Mark) (a b c : Way) (u v w : V) → step m a u m' b v → Goes step ms b v ms' c w → Goes step (m ∷ ms) a u (m' ∷ ms') c w
