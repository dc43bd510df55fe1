-- What private clauses alone cite.
-- How far receipts cover the lists of partitions. A place is a partition's number `part` and a position in its list;
-- its state says how the receipts so far name it.
use Rattle.std.specs.Prelude.{ℕ, Bool, true, false, List, [], ◌∷◌, length, ◌≡◌, ◌≢◌, ◌<◌, ◌==◌, ◌&&◌, nat_le, Option, Some, None, filter, slice_get}
use Rattle.std.specs.List.{list_any}
use Rattle.std.specs.Ordering.{nat_cmp, ordering_then}
use Rattle.std.specs.declared.cmp.Ordering.{Ordering}
use Rattle.crack_row.specs.declared.command.Entry.{Entry}
use Rattle.crack_witness.specs.declared.receipt.Receipt.{Receipt}
use Rattle.crack_witness.specs.Receipts.{entry_of}
use Rattle.crack_table.specs.declared.states.PlaceState.{PlaceState}
use Rattle.crack_table.specs.declared.states.PlaceState.TheVariants.{Unnamed, Met, Failed}
use Rattle.crack_table.specs.Cover.{at, is_late}

-- whether a receipt names this place
abbrev pub names : ℕ → ℕ → Receipt → Bool
names part position r = (r.part == part) && (r.position == position)

-- the state of a place after one more receipt names it: `Met` if it was `Unnamed` and the receipt holds the entry
-- there, which the second argument says; else `Failed`
abbrev pub next_state : PlaceState → Bool → PlaceState
next_state Unnamed true = Met
next_state _ _ = Failed

-- `named` has exactly one receipt, and this one holds the entry
abbrev pub IsSole : Entry → List Receipt → Type 0
IsSole entry named = (r : Receipt) × (named ≡ r ∷ []) × (entry_of r ≡ entry)

-- the state of a place with this entry if `named` are all receipts that name the place: `Unnamed` if there are none,
-- `Met` if there is exactly one and it holds the entry, else `Failed`
abbrev pub IsState : PlaceState → Entry → List Receipt → Type 0
IsState Unnamed entry named = named ≡ []
IsState Met entry named = IsSole entry named
IsState Failed entry named = (named ≢ []) × (¬ IsSole entry named)

-- at a place with this entry, this state and these receipts, all that name it: there is a state exactly if there is an
-- entry, and then `IsState` holds of the three
abbrev pub IsStateAt : Option Entry → Option PlaceState → List Receipt → Type 0
IsStateAt (Some entry) (Some state) named = IsState state entry named
IsStateAt None None named = Unit {0}
IsStateAt _ _ named = ⊥

-- each place of the lists, and no other, has a state: the one by `IsState` for all receipts that name the place
abbrev pub AreStatesOf : List (List Entry) → List (List PlaceState) → List Receipt → Type 0
AreStatesOf lists states receipts = (part position : ℕ) → IsStateAt (at lists part position) (at states part position) (filter (names part position) receipts)

-- `states` has for each list the states of its places after these receipts were added (`AreStatesOf`)
pub record IsCoverage (lists : List (List Entry)) (states : List (List PlaceState)) (receipts : List Receipt) : Type 0 where
  pub rows : length states ≡ length lists
  pub by_place : AreStatesOf lists states receipts

-- `place` is the first position in `row`, a list of states, whose state isn't `Met`
abbrev pub IsOpenIn : List PlaceState → ℕ → Type 0
IsOpenIn row place = (m : PlaceState) × (slice_get row place ≡ Some m) × (m ≢ Met) × ((n : ℕ) (k : PlaceState) → n < place → slice_get row n ≡ Some k → k ≡ Met)

-- whether there is a last position and this position isn't above it
abbrev pub is_late_at : Option ℕ → ℕ → Bool
is_late_at None position = false
is_late_at (Some last) position = nat_le position last

-- orders pairs by worker, then by partition
abbrev pub pair_cmp : ℕ × ℕ → ℕ × ℕ → Ordering
pair_cmp x y = ordering_then (nat_cmp x.0 y.0) (nat_cmp x.1 y.1)

-- `last` gives for each worker and partition the highest position that the worker's `done` receipts name there, or
-- none if they name none: a receipt is late after `done` exactly if its position isn't above the one given
abbrev pub Tracks : (ℕ × ℕ → Option ℕ) → List Receipt → Type 0
Tracks last done = (r : Receipt) → list_any (λ earlier. is_late earlier r) done ≡ is_late_at (last (r.worker, r.part)) r.position

-- the place that a receipt names
abbrev pub named_place : Receipt → ℕ × ℕ
named_place r = (r.part, r.position)
