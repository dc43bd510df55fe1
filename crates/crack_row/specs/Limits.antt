-- The limits of a partition.
use Rattle.std.specs.Prelude.{◌≡◌, ◌⊎◌, ℕ, ◌≤◌, ◌==◌, Bool, ◌&&◌, ◌||◌, nat_le, Option, None, Some, if◌then◌else◌}
use Rattle.crack_row.specs.declared.TheConstants.{GREATEST_LIMIT, NO_LIMIT, GREATEST_CELLS, GREATEST_LIFE}
use Rattle.crack_row.specs.declared.limit.Limits.{Limits}
use Rattle.crack_row.specs.declared.limit.Upkeep.TheVariants.{OnRequest}

-- a history may be limited to this many entries: at least 1 and at most `GREATEST_LIMIT`
abbrev pub IsLimit : ℕ → Type 0
IsLimit limit = (1 ≤ limit) × (limit ≤ GREATEST_LIMIT)

-- the history's limit is one that it may have (`IsLimit`), or `NO_LIMIT`: then no history reaches it, since a partition
-- accepts no more commands than its life, which is less. Each other limit is at least 1 and at most the greatest of its
-- kind
pub record AreLimits (limits : Limits) : Type 0 where
  pub history : IsLimit limits.history ⊎ (limits.history ≡ NO_LIMIT)
  pub cells : (1 ≤ limits.cells) × (limits.cells ≤ GREATEST_CELLS)
  pub life : (1 ≤ limits.life) × (limits.life ≤ GREATEST_LIFE)

-- whether the limit, the second number, is at least 1 and at most the first number, the greatest of its kind
abbrev pub is_limit : ℕ → ℕ → Bool
is_limit greatest limit = nat_le 1 limit && nat_le limit greatest

-- whether a history may have this limit, or has none: whether the number is `NO_LIMIT`, or 1 to `GREATEST_LIMIT`
abbrev pub is_history_limit : ℕ → Bool
is_history_limit limit = limit == NO_LIMIT || is_limit GREATEST_LIMIT limit

-- the limit of a history for the number that a user gave: `NO_LIMIT` if none was given. A number above
-- `GREATEST_LIMIT` becomes 0, which no history may have as its limit
abbrev pub history_limit : Option ℕ → ℕ
history_limit None = NO_LIMIT
history_limit (Some limit) = if nat_le limit GREATEST_LIMIT then limit else 0

-- whether the history's limit is one that it may have, or `NO_LIMIT`, and each other limit is at least 1 and at most
-- the greatest of its kind
abbrev pub are_limits : Limits → Bool
are_limits limits = is_history_limit limits.history && (is_limit GREATEST_CELLS limits.cells && is_limit GREATEST_LIFE limits.life)

-- the limits with this history limit, the greatest values of the other limits, and upkeep on request
abbrev pub of_history : ℕ → Limits
of_history history = record { history = history; cells = GREATEST_CELLS; life = GREATEST_LIFE; upkeep = OnRequest }
