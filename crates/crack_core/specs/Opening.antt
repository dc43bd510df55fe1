-- Why partitions aren't opened, and what opened partitions are.
use Rattle.std.specs.Prelude.{◌≡◌, ℕ, ◌+◌, ◌<◌, ◌⊎◌, List, length, All, Option, None, Some, nat_le, slice_index_or, if◌then◌else◌}
use Rattle.std.specs.Option.{option_or}
use Rattle.crack_row.specs.Limits.{are_limits}
use Rattle.crack_row.specs.declared.Bound.{Bound}
use Rattle.crack_row.specs.declared.limit.Limits.{Limits}
use Rattle.crack_row.specs.declared.refusal.Refusal.{Refusal}
use Rattle.crack_row.specs.declared.refusal.Refusal.TheVariants.{BadSplits, TooManyPartitions, BadLimit, OutOfMemory}
use Rattle.crack_part.specs.Parts.{Part, IsSound}
use Rattle.crack_core.specs.declared.TheConstants.{MOST_SPLITS}
use Rattle.crack_core.specs.Routes.{is_rising, keys_of_part}

-- why these splits are refused: `BadSplits` if they don't rise strictly, or one is 0 or above the greatest key; else
-- `TooManyPartitions` if there are more than `MOST_SPLITS`; else `None`
abbrev pub splits_fault : List Bound → Option Refusal
splits_fault splits = if is_rising 0 splits then (if nat_le (length splits) MOST_SPLITS then None else Some TooManyPartitions) else Some BadSplits

-- why these limits are refused: `BadLimit` if one of them is 0 or above the greatest of its kind, else `None`
abbrev pub limits_fault : Limits → Option Refusal
limits_fault limits = if are_limits limits then None else Some BadLimit

-- why an opening is refused: the fault of its splits, else that of its limits; `None` if neither has one
abbrev pub opening_fault : List Bound → Limits → Option Refusal
opening_fault splits limits = option_or (splits_fault splits) (limits_fault limits)

-- why an opening may be refused: `e` is `fault`, or, if there is no fault, `OutOfMemory`
abbrev pub MayFault : Option Refusal → Refusal → Type 0
MayFault fault e = (fault ≡ Some e) ⊎ ((fault ≡ None) × (e ≡ OutOfMemory))

-- there is one partition more than splits: each satisfies its invariant (`IsSound`), and has these limits and the keys
-- that `keys_of_part` gives for its number
pub record AreParts (splits : List Bound) (limits : Limits) (parts : List Part) : Type 0 where
  pub count : length parts ≡ length splits + 1
  pub keys : (k : ℕ) (d : Part) → k < length parts → (slice_index_or parts k d).keys ≡ keys_of_part splits k
  pub alike : All (λ (part : Part). part.limits ≡ limits) parts
  pub sound : All IsSound parts
