-- The result of a walk over the bounds of an index, from the lowest up. At each bound the walk calls a visitor, which
-- returns the bound's new place.
use Rattle.std.specs.Prelude.{ℕ, max, List, [], ◌∷◌}
use Rattle.crack_index.specs.declared.mark.Mark.{Mark}

-- the mark with its bound moved to this place
abbrev pub at_place : ℕ → Mark → Mark
at_place place m = record m { position = place }

-- `Places places least ms v ms' w last`: a walk makes `ms'` of the marks `ms`, both with the lowest first, and its
-- visitor changes from `v` to `w`. No mark gets a place before `least` or before that of the mark below it; a further
-- mark above them would get none before `last`. `places` relates the visitor before a visit, the mark, the place that
-- the visitor returns, and the visitor after the visit
pub data Places {V : Type 0} (places : V → Mark → ℕ → V → Type 0) : ℕ → List Mark → V → List Mark → V → ℕ → Type 0 where
  -- no mark is left
  done : (least : ℕ) (v : V) → Places places least [] v [] v least
  -- the mark moves to `place`, which the visitor returns, or to `least` if that is greater
  goes_on : (least place last : ℕ) (m : Mark) (ms ms' : List Mark) (v w x : V) → places v m place w → Places places (max place least) ms w ms' x last → Places places least (m ∷ ms) v (at_place (max place least) m ∷ ms') x last
