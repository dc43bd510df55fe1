-- What contracts see of a core.
use Rattle.std.specs.Prelude.{List}
use Rattle.crack_row.specs.Limits.{AreLimits}
use Rattle.crack_row.specs.declared.Bound.{Bound}
use Rattle.crack_row.specs.declared.limit.Limits.{Limits}
use Rattle.crack_part.specs.Parts.{Part}
use Rattle.crack_core.specs.Routes.{AreSplits}
use Rattle.crack_core.specs.Opening.{AreParts}

-- what contracts see of a core: the splits, the limits that each partition has, and the partitions
pub record CoreState : Type 0 where
  pub splits : List Bound
  pub limits : Limits
  pub parts : List Part

-- the invariant of a core: its splits satisfy `AreSplits`, its limits `AreLimits`, and its partitions `AreParts`
pub record IsCore (core : CoreState) : Type 0 where
  pub splits : AreSplits core.splits
  pub limited : AreLimits core.limits
  pub parts : AreParts core.splits core.limits core.parts
