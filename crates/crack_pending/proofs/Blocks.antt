-- What a block of keys without a hit says about its rows.
use Rattle.std.proofs.Common.{◌≡◌, ◌≢◌, ℕ, ◌+◌, ◌-◌, ◌<◌, ◌≤◌, ◌%◌, Bool, true, false, List, get_or, leb, refl, ap, inl, inr, arith, leb-false}
use Rattle.std.specs.Prelude.{bit_or}
use Rattle.std.proofs.lemmas.Nat.{le_or_l, le_or_r}
use mir.Val.{bool_byte}
use Rattle.crack_row.specs.Ranges.{Range}
use Rattle.crack_row.specs.declared.TheConstants.{GREATEST_BOUND}
use Rattle.crack_row.specs.declared.Row.{Row}
use Rattle.crack_arena.specs.Arena.{Cell, Handle}
use Rattle.crack_arena.specs.Rows.{unknown}
use Rattle.crack_arena.specs.Memories.{Memory, nothing}
use Rattle.crack_pending.specs.Inside.{KnowRows, KeysAreKnown, Lies, IsMissed}

-- if no flag was set, the last wasn't
pub no_flag : (any : ℕ) (b : Bool) → bit_or any (bool_byte b) ≡ 0 → (any ≡ 0) × (b ≡ false)
no_flag any true none = absurd (omega (arith, none, le_or_r any (bool_byte true)))
no_flag any false none = (omega (arith, none, le_or_l any (bool_byte false)), refl)

-- one comparison shows that a key doesn't lie between two
pub apart : (key low last : ℕ) → low ≤ last → last < GREATEST_BOUND → leb ((key + (GREATEST_BOUND - low)) % GREATEST_BOUND) (last - low) ≡ false → ¬ Lies low last key
apart key low last order small far lies =
    let beyond : last - low < (key + (GREATEST_BOUND - low)) % GREATEST_BOUND = leb-false _ _ far in
    absurd (omega (arith, beyond, order, small, lies.0, lies.1))

-- the same for codes
pub apart_code : (code low last : ℕ) → low ≤ last → last < 65536 → leb ((code + (65536 - low)) % 65536) (last - low) ≡ false → ¬ Lies low last code
apart_code code low last order small far lies =
    let beyond : last - low < (code + (65536 - low)) % 65536 = leb-false _ _ far in
    absurd (omega (arith, beyond, order, small, lies.0, lies.1))

-- if none of a block's keys lies between the ends of the range, and none is unknown, none of its rows has its key in the range
pub missed_block : (range : Range) (cells : List (Cell Row)) (handles : List Handle) (remembered : List Memory) (stands : List Bool) (from low last : ℕ) (some_unknown : Bool) → KnowRows cells handles remembered stands → (some_unknown ≡ false → KeysAreKnown remembered stands) → range.low ≡ low → range.high ≡ last + 1 → ((k : ℕ) → k < 16 → ¬ Lies low last (get_or remembered (from + k) nothing).key) → (some_unknown ≡ true → (k : ℕ) → k < 16 → (get_or remembered (from + k) nothing).key ≢ unknown) → IsMissed range cells handles stands from (from + 16)
missed_block range cells handles remembered stands from low last some_unknown known all_known is_low is_high none none_unknown spot after before at inside =
    let k = spot - from in
    let within : k < 16 = omega (arith, after, before) in
    let place : from + k ≡ spot = omega (arith, after) in
    let same : get_or remembered (from + k) nothing ≡ get_or remembered spot nothing = ap (λ n. get_or remembered n nothing) place in
    let miss : ¬ Lies low last ((get_or remembered spot nothing).key) = rw same at (none k within) in
    let is_known : (get_or remembered spot nothing).key ≢ unknown = by_case some_unknown (λ e. all_known e spot at) (λ e. rw same at (none_unknown e k within)) in
    elim (known spot at) [
      | inl e ↦ absurd (is_known e)
      | inr e ↦ (let key = ap (λ (m : Memory). m.key) e in miss (omega (arith, key, inside.0, is_low), omega (arith, key, inside.1, is_high)))
    ]
  where
    by_case : {A : Type 0} (b : Bool) → (b ≡ false → A) → (b ≡ true → A) → A
    by_case false known_all asked = known_all refl
    by_case true known_all asked = asked refl
