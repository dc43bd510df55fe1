-- What private clauses alone cite.
-- Pieces with their sums, as in Sums.antt: each has the key where it begins, its start, and its sum. A piece ends
-- where the next one begins, and the last one ends at `GREATEST_BOUND`.
use Rattle.std.specs.Prelude.{◌≡◌, ⊤, ℕ, ℤ, ◌+◌, ◌+ℤ◌, ◌<◌, ◌^◌, ◌==◌, nat_lt, cond, List, [], ◌∷◌, Option, Some, None}
use Rattle.crack_row.specs.Ranges.{Range, IsIn, is_in}
use Rattle.crack_row.specs.declared.TheConstants.{GREATEST_BOUND}
use Rattle.crack_index.specs.declared.sums.Walked.{Walked}
use Rattle.crack_index.specs.declared.sums.Walked.TheVariants.{Whole, Unknown, TooFar}
use Rattle.crack_index.specs.Sums.{lowest_start, IsKnown, SumsAreKnown, total_in, distance_in}

-- each piece's start is below the next one's, and the last one's is below `GREATEST_BOUND`
abbrev pub StartsRise : List (ℕ × ℤ) → Type 0
StartsRise [] = ⊤
StartsRise (e ∷ es) = (e.0 < lowest_start es) × StartsRise es

-- the piece that contains the key, or `None` if none does
abbrev pub sum_piece_at : ℕ → List (ℕ × ℤ) → Option (ℕ × ℤ)
sum_piece_at key [] = None
sum_piece_at key (e ∷ es) = cond (is_in (record { low = e.0; high = lowest_start es }) key) (Some e) (sum_piece_at key es)

-- the start of the first piece that begins above the key, or `GREATEST_BOUND` if there is none
abbrev pub next_at : ℕ → List (ℕ × ℤ) → ℕ
next_at key [] = GREATEST_BOUND
next_at key (e ∷ es) = cond (nat_lt key e.0) e.0 (next_at key es)

-- the pieces with one that begins at the key and has this sum; if one begins there already, only its sum changes
abbrev pub put : ℕ → ℤ → List (ℕ × ℤ) → List (ℕ × ℤ)
put key sum [] = (key, sum) ∷ []
put key sum (e ∷ es) = cond (nat_lt key e.0) ((key, sum) ∷ e ∷ es) (cond (key == e.0) ((e.0, sum) ∷ es) (e ∷ put key sum es))

-- the pieces, where the one that begins at the key now has this sum; the same pieces if none begins there
abbrev pub given : ℕ → ℤ → List (ℕ × ℤ) → List (ℕ × ℤ)
given key sum [] = []
given key sum (e ∷ es) = cond (key == e.0) ((e.0, sum) ∷ es) (e ∷ given key sum es)

-- the pieces without the one that begins at the key, if any; the piece below it then ends where the next one begins
abbrev pub dropped : ℕ → List (ℕ × ℤ) → List (ℕ × ℤ)
dropped key [] = []
dropped key (e ∷ es) = cond (key == e.0) es (e ∷ dropped key es)

-- a piece is cut in two: `whole` is its sum, and `part` and `rest` are the sums of its two parts. If `rest` is known,
-- the other two are known, and `rest` is `whole` minus `part`
abbrev pub IsRest : ℤ → ℤ → ℤ → Type 0
IsRest whole part rest = IsKnown rest → IsKnown whole × IsKnown part × (whole ≡ part +ℤ rest)

-- the keys from `first` to `last`, both included
abbrev pub span : ℕ → ℕ → Range
span first last = record { low = first; high = last + 1 }

-- what the result of a walk over the pieces that begin in the range means. `Whole total`: all their sums are known,
-- `total` is their total, and the starts of all pieces rise. `Unknown start`: one of their sums isn't known, and the
-- key `start` is in the range. `TooFar`: the absolute values of their sums add up to 2^127 or more
abbrev pub Walks : Range → List (ℕ × ℤ) → Walked → Type 0
Walks range es (Whole total) = (total ≡ total_in range es) × SumsAreKnown range es × StartsRise es
Walks range es (Unknown start) = IsIn range start × (SumsAreKnown range es → ⊥)
Walks range es TooFar = distance_in range es < 2 ^ 127 → ⊥
