-- Laws of the searches for a key, for the crates above.
use Rattle.std.proofs.Common.{◌≡◌, ℕ, ◌+◌, ◌<◌, true, false, List, length, get_or, All, refl, sym, ap, ◌∙◌, inl, inr, arith}
use Rattle.std.specs.Prelude.{slice_index}
use Rattle.std.specs.List.{list_any}
use Rattle.std.proofs.lemmas.Bool.{cases_lt, lt-ltb, le-ltb, le-leb, lt-leb}
use Rattle.std.proofs.lemmas.List.{get_or-map, get_or_default, length-map}
use Rattle.std.proofs.lemmas.List.Folds.{list_any_at, list_any_none}
use Rattle.crack_row.specs.Ranges.{Range, IsIn, is_in}
use Rattle.crack_row.specs.declared.Row.{Row}
use Rattle.crack_arena.specs.Arena.{Cell, Handle, StandsAt, no_handle}
use Rattle.crack_arena.specs.Rows.{key_at, keys_at}
use Rattle.crack_pending.specs.Pending.{NoneIn, IsFirstIn}

-- the element at a place, whatever the default is
pub StandsAt-get_or : (handles : List Handle) (i : ℕ) (d : Handle) → i < length handles → StandsAt handles i (get_or handles i d)
StandsAt-get_or handles i d within = record { within = within; is = get_or_default handles i d (get_or handles i d) within }

module _ (cells : List (Cell Row)) where
  -- the key that is at a handle's place is its row's
  pub keys_at-StandsAt : (handles : List Handle) (i : ℕ) (h : Handle) → StandsAt handles i h → slice_index (keys_at cells handles) i ≡ key_at cells h
  keys_at-StandsAt handles i h stands =
      get_or-map (key_at cells) handles i h 0 stands.within ∙ ap (key_at cells) (sym stands.is)

  pub length-keys_at : (handles : List Handle) → length (keys_at cells handles) ≡ length handles
  length-keys_at handles = length-map handles (key_at cells)

-- one more place that was passed over
pub NoneIn-more : (range : Range) (keys : List ℕ) (from to : ℕ) → NoneIn range keys from to → ¬ IsIn range (slice_index keys to) → NoneIn range keys from (to + 1)
NoneIn-more range keys from to none other = λ k from_on up_to.
    elim (cases_lt k to) [
      | inl l ↦ none k from_on l
      | inr l ↦ (let e : k ≡ to = omega arith in rw e other)
    ]

-- the test of a range says whether the key lies in it
pub is_in-true : (range : Range) (key : ℕ) → IsIn range key → is_in range key ≡ true
is_in-true range key inside = rw (le-leb range.low key inside.0, lt-ltb key range.high inside.1) refl

pub is_in-false : (range : Range) (key : ℕ) → ¬ IsIn range key → is_in range key ≡ false
is_in-false range key other = elim (cases_lt key range.low) [
  | inl l ↦ rw (lt-leb range.low key l) refl
  | inr l ↦ elim (cases_lt key range.high) [
    | inl m ↦ absurd (other (l, m))
    | inr m ↦ rw (le-leb range.low key l, le-ltb key range.high m) refl
  ]
]

module _ (range : Range) (cells : List (Cell Row)) (handles : List Handle) where
  -- a search of the whole list that finds none: no row of it has its key in the range
  pub NoneIn-All : NoneIn range (keys_at cells handles) 0 (length (keys_at cells handles)) → All (λ h. ¬ IsIn range (key_at cells h)) handles
  NoneIn-All none = λ k d within.
      let stands = StandsAt-get_or handles k d within in
      rw (← keys_at-StandsAt cells handles k (get_or handles k d) stands) (none k (omega arith) (omega (arith, within, length-keys_at cells handles)))

  pub list_any-missed : NoneIn range (keys_at cells handles) 0 (length (keys_at cells handles)) → list_any (λ h. is_in range (key_at cells h)) handles ≡ false
  list_any-missed none =
      list_any_none (λ h. is_in range (key_at cells h)) handles (λ k d within. is_in-false range (key_at cells (get_or handles k d)) (NoneIn-All none k d within))

  -- a search that finds a place: a row of the list has its key in the range
  pub list_any-found : (from place : ℕ) → IsFirstIn range (keys_at cells handles) from place → list_any (λ h. is_in range (key_at cells h)) handles ≡ true
  list_any-found from place first =
      let within : place < length handles = omega (arith, first.within, length-keys_at cells handles) in
      let key = keys_at-StandsAt cells handles place (get_or handles place no_handle) (StandsAt-get_or handles place no_handle within) in
      list_any_at (λ h. is_in range (key_at cells h)) handles place no_handle within (is_in-true range (key_at cells (get_or handles place no_handle)) (rw key at first.holds))
