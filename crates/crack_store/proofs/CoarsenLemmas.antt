-- A store without a bound that it forgets.
use Rattle.std.proofs.Common.{◌≡◌, List, Option, Some, None}
use Rattle.std.specs.Prelude.{IfSome, IfNone}
use Rattle.crack_row.specs.declared.InnerBound.{InnerBound}
use Rattle.crack_index.specs.declared.mark.Mark.{Mark}
use Rattle.crack_index.specs.Marks.{SomeMarks, removed}
use Rattle.crack_index.proofs.RemoveLaws.{SomeMarks-all, SomeMarks-removed}

-- the marks without the bound, if there is one
pub SomeMarks-less : (bound : Option InnerBound) (old new : List Mark) → IfSome bound (λ b. new ≡ removed b.0 old) → IfNone bound (new ≡ old) → SomeMarks new old
SomeMarks-less None old new less same = rw same (SomeMarks-all old)
SomeMarks-less (Some b) old new less same = rw less (SomeMarks-removed b.0 old)
