-- What private clauses alone cite.
-- What a pass over bounds (Passes.antt) finds from some point on. There `p` is the pass, `last` the mark that it met
-- last, if any, and `ms` are the marks that it goes on to. A mark is judged once the pass has come to the next one.
use Rattle.std.specs.Prelude.{ℕ, Bool, cond, List, All, ◌<◌, IfSome, Option, Some, None}
use Rattle.std.specs.Option.{option_map}
use Rattle.crack_row.specs.declared.InnerBound.{InnerBound}
use Rattle.crack_index.specs.declared.mark.Mark.{Mark}
use Rattle.crack_index.specs.Passes.{PassProgress, are_few, moved_past, next_few}

-- if `last` is a mark, the bounds of all marks in `ms` are above `p.after`, the number up to which the pass met bounds
abbrev pub AreAhead : Option Mark → PassProgress → List Mark → Type 0
AreAhead last p ms = IfSome last (λ _. All (λ (m : Mark). p.after < m.bound.0) ms)

-- the bound that the pass finds next in a column of `len` rows, or `None`, and the pass then. If `last` is a mark
-- whose two pieces hold few rows together, its bound is found. Otherwise the pass goes on to `ms`, as `next_few` says
abbrev pub found_from : ℕ → Option Mark → PassProgress → List Mark → Option InnerBound × PassProgress
found_from len None p ms = next_few len p ms
found_from len (Some m) p ms = cond (are_few len p ms) (Some m.bound, p) (next_few len (moved_past m p) ms)

-- the result of a pass that has halted, and the pass, unchanged: the bound of `last`, which it has found, or `None` if
-- it may meet no more bounds
abbrev pub halted : Option Mark → PassProgress → Option InnerBound × PassProgress
halted last p = (option_map (λ (m : Mark). m.bound) last, p)

-- the result of a pass: `halted` if it has halted, otherwise `found_from`, since it goes on to `ms`
abbrev pub found_or : Bool → ℕ → Option Mark → PassProgress → List Mark → Option InnerBound × PassProgress
found_or has_halted len last p ms = cond has_halted (halted last p) (found_from len last p ms)
