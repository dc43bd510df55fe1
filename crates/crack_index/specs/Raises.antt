-- The result of a walk over the bounds of an index, from the highest down. At each bound that may rise the walk calls
-- a visitor, which returns how far the bound is to rise.
use Rattle.std.specs.Prelude.{ℕ, ◌+◌, ◌<◌, min, List, [], ◌∷◌}
use Rattle.crack_index.specs.declared.mark.Mark.{Mark}

-- the mark moved up by this many places
abbrev pub higher : ℕ → Mark → Mark
higher rise m = record m { position = m.position + rise }

-- `Raises rises most ms v ms' w last`: a walk makes `ms'` of the marks `ms`, both with the highest first, and its
-- visitor changes from `v` to `w`. No mark rises by more than `most` places or farther than the mark above it; a
-- further mark below them could rise by at most `last`. `rises` relates the visitor before a visit, the mark, the rise
-- that the visitor returns, and the visitor after the visit
pub data Raises {V : Type 0} (rises : V → Mark → ℕ → V → Type 0) : ℕ → List Mark → V → List Mark → V → ℕ → Type 0 where
  -- no mark is left
  done : (most : ℕ) (v : V) → Raises rises most [] v [] v most
  -- no mark may rise, so the visitor isn't called
  stays : (m : Mark) (ms ms' : List Mark) (v w : V) (last : ℕ) → Raises rises 0 ms v ms' w last → Raises rises 0 (m ∷ ms) v (m ∷ ms') w last
  -- the mark rises as far as the visitor returns, but no farther than it may, and the next mark may rise no farther
  -- than that
  goes_on : (most rise last : ℕ) (m : Mark) (ms ms' : List Mark) (v w x : V) → 0 < most → rises v m rise w → Raises rises (min rise most) ms w ms' x last → Raises rises most (m ∷ ms) v (higher (min rise most) m ∷ ms') x last
