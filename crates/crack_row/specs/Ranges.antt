-- Half-open ranges of keys.
use Rattle.std.specs.Prelude.{ℕ, ◌<◌, ◌≤◌, Bool, ◌&&◌, nat_lt, nat_le, min, max, cond}
use Rattle.crack_row.specs.declared.Row.{Row}

-- the keys from `low` up to but not including `high`
pub record Range : Type 0 where
  pub low : ℕ
  pub high : ℕ

-- the key lies in the range
abbrev pub IsIn : Range → ℕ → Type 0
IsIn r key = (r.low ≤ key) × (key < r.high)

-- whether the key lies in the range
abbrev pub is_in : Range → ℕ → Bool
is_in r key = nat_le r.low key && nat_lt key r.high

-- whether the row's key lies in the range
abbrev pub in_range : Range → Row → Bool
in_range r row = is_in r row.key.0

-- the range of the keys in both ranges; if there are none, the empty range whose ends are both the second's low end
abbrev pub clipped : Range → Range → Range
clipped r s =
    let low = max r.low s.low in
    let high = min r.high s.high in
    record { low = cond (nat_lt low high) low s.low; high = cond (nat_lt low high) high s.low }
