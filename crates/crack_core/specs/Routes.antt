-- Partitions by key range: where each begins and ends, and which of them have a key or a part of a range. A split is a
-- bound at which one partition ends and the next begins; partitions are numbered from 0.
use Rattle.std.specs.Prelude.{◌≡◌, ℕ, ◌+◌, ◌≤◌, ◌&&◌, Bool, true, List, [], ◌∷◌, length, map, filter, count_by, nat_lt, nat_le, slice_index_or, if◌then◌else◌}
use Rattle.std.specs.List.{range_with_len}
use Rattle.crack_row.specs.Ranges.{Range, clipped}
use Rattle.crack_row.specs.declared.TheConstants.{GREATEST_BOUND}
use Rattle.crack_row.specs.declared.Bound.{Bound}
use Rattle.crack_core.specs.declared.TheConstants.{MOST_SPLITS}

-- whether these bounds rise strictly, all above `low` and below the greatest bound
abbrev pub is_rising : ℕ → List Bound → Bool
is_rising low [] = true
is_rising low (split ∷ splits) = nat_lt low split.0 && (nat_lt split.0 GREATEST_BOUND && is_rising split.0 splits)

-- splits that divide all keys into partitions: they rise strictly, each is 1 to the greatest key, and there are at
-- most `MOST_SPLITS`
pub record AreSplits (splits : List Bound) : Type 0 where
  pub rising : is_rising 0 splits ≡ true
  pub few : length splits ≤ MOST_SPLITS

-- the keys of the partition with this number: from the split before it, or 0 if it is the first, up to but not
-- including the split after it, or the greatest bound if it is the last; all keys if no partition has the number
abbrev pub keys_of_part : List Bound → ℕ → Range
keys_of_part splits part = record { low = slice_index_or (0 ∷ map (λ (b : Bound). b.0) splits) part 0; high = slice_index_or (map (λ (b : Bound). b.0) splits) part GREATEST_BOUND }

-- the number of the partition in which this key or bound falls: how many splits are at or below it
abbrev pub route : List Bound → ℕ → ℕ
route splits number = count_by (λ (split : Bound). nat_le split.0 number) splits

-- the number of a partition, and the part of the range that is among its keys: an empty range if they share no key
abbrev pub part_at : List Bound → Range → ℕ → ℕ × Range
part_at splits range part = (part, clipped range (keys_of_part splits part))

-- whether the part of a range, which is given with its partition's number, has keys
abbrev pub has_keys : ℕ × Range → Bool
has_keys part = nat_lt part.1.low part.1.high

-- the numbers of the partitions that have keys of a range, in rising order, each with its part of the range; for an
-- empty range, only the partition in which its low end falls, with the range as it is
abbrev pub parts_of : List Bound → Range → List (ℕ × Range)
parts_of splits range = if nat_lt range.low range.high then filter has_keys (map (part_at splits range) (range_with_len 0 (length splits + 1))) else (route splits range.low, range) ∷ []
