-- When receipts cover lists of entries, one for each partition, and which place a fault names. A place is a
-- partition's number `part` and a position in its list. A fault is a reason why receipts don't cover the lists.
use Rattle.std.specs.Prelude.{ℕ, Bool, List, [], ◌∷◌, ◌++◌, ◌≡◌, ◌<◌, ◌⊎◌, ◌&&◌, ◌==◌, nat_le, not, Option, Some, None, is_some, slice_get, filter, find, All, AllPairs, if◌then◌else◌, true, length}
use Rattle.std.specs.List.{list_any}
use Rattle.std.specs.Option.{option_and_then}
use Rattle.crack_row.specs.declared.command.Entry.{Entry}
use Rattle.crack_row.specs.declared.refusal.Refusal.{Refusal}
use Rattle.crack_row.specs.declared.refusal.Refusal.TheVariants.{OutOfMemory, StrangeReceipt}
use Rattle.crack_witness.specs.declared.receipt.Receipt.{Receipt}
use Rattle.crack_witness.specs.Receipts.{entry_of}

-- the element at `position` of the list at the index `part`; `None` if there is no such list or element
abbrev pub at : {X : Type 0} → List (List X) → ℕ → ℕ → Option X
at lists part position = option_and_then (λ list. slice_get list position) (slice_get lists part)

-- a place where the list has this entry is met: exactly one receipt names the place, and this receipt holds the entry
abbrev pub IsMetBy : List Receipt → ℕ → ℕ → Entry → Type 0
IsMetBy receipts part position entry =
    (r : Receipt) × (filter (λ s. (s.part == part) && (s.position == position)) receipts ≡ r ∷ []) × (entry_of r ≡ entry)

-- partition `part`, which has this list, is covered: each of its places is met
abbrev pub IsCovered : List Receipt → ℕ → List Entry → Type 0
IsCovered receipts part list = (position : ℕ) (entry : Entry) → slice_get list position ≡ Some entry → IsMetBy receipts part position entry

-- each place of partition `part`, which has this list, at a position below `bound` is met
abbrev pub MetBelow : List Receipt → ℕ → List Entry → ℕ → Type 0
MetBelow receipts part list bound = (position : ℕ) (entry : Entry) → position < bound → slice_get list position ≡ Some entry → IsMetBy receipts part position entry

-- each partition with a number below `bound` is covered
abbrev pub CoveredBelow : List (List Entry) → List Receipt → ℕ → Type 0
CoveredBelow lists receipts bound = (part : ℕ) (list : List Entry) → part < bound → slice_get lists part ≡ Some list → IsCovered receipts part list

-- whether the place that a receipt names exists: the list of its partition has its position
abbrev pub has_place : List (List Entry) → Receipt → Bool
has_place lists r = is_some (at lists r.part r.position)

-- whether `r` is late after `earlier`: its worker and partition are the same, and its position isn't above that one's
abbrev pub is_late : Receipt → Receipt → Bool
is_late earlier r = (earlier.worker == r.worker) && (earlier.part == r.part) && nat_le r.position earlier.position

-- the receipts cover the lists: each place is met, no receipt names a place that doesn't exist, and the positions that
-- one worker's receipts name in one partition rise, in the order of the receipts
pub record Covers (lists : List (List Entry)) (receipts : List Receipt) : Type 0 where
  pub covered : (part : ℕ) (list : List Entry) → slice_get lists part ≡ Some list → IsCovered receipts part list
  pub placed : All (λ r. has_place lists r ≡ true) receipts
  pub rising : AllPairs (λ earlier r. earlier.worker ≡ r.worker → earlier.part ≡ r.part → earlier.position < r.position) receipts

-- `position` is the first gap of partition `part`, which has this list: its lowest position that isn't met
abbrev pub IsGap : List Receipt → ℕ → List Entry → ℕ → Type 0
IsGap receipts part list position = (entry : Entry) × (slice_get list position ≡ Some entry) × (¬ IsMetBy receipts part position entry) × MetBelow receipts part list position

-- `position` is the first gap of partition `part`, and each partition with a lower number is covered
abbrev pub IsFirstGap : List (List Entry) → List Receipt → ℕ → ℕ → Type 0
IsFirstGap lists receipts part position = (list : List Entry) × (slice_get lists part ≡ Some list) × IsGap receipts part list position × CoveredBelow lists receipts part

-- the first receipt whose place doesn't exist, or none
abbrev pub first_stranger : List (List Entry) → List Receipt → Option Receipt
first_stranger lists receipts = find (λ r. not (has_place lists r)) receipts

-- the first receipt of the second list that is late after one of `done` or one before it in its list, or `None`
abbrev pub first_late : List Receipt → List Receipt → Option Receipt
first_late done [] = None
first_late done (r ∷ rs) = if list_any (λ earlier. is_late earlier r) done then Some r else first_late (done ++ r ∷ []) rs

-- `found` is a receipt, and it names this place; false if it is `None`
abbrev pub IsPlaceOf : Option Receipt → ℕ → ℕ → Type 0
IsPlaceOf found part position = (r : Receipt) × (found ≡ Some r) × (r.part ≡ part) × (r.position ≡ position)

-- the place of a fault: that of the first gap; if there is no gap, that of the first stranger; if there is no
-- stranger, that of the first late receipt
abbrev pub IsFault : List (List Entry) → List Receipt → ℕ → ℕ → Type 0
IsFault lists receipts part position =
    IsFirstGap lists receipts part position
    ⊎ (CoveredBelow lists receipts (length lists) × IsPlaceOf (first_stranger lists receipts) part position)
    ⊎ (CoveredBelow lists receipts (length lists) × (first_stranger lists receipts ≡ None) × IsPlaceOf (first_late [] receipts) part position)

-- why `cover` may be refused: `OutOfMemory`, or `StrangeReceipt` at the place of a fault
abbrev pub MayNotCover : List (List Entry) → List Receipt → Refusal → Type 0
MayNotCover lists receipts e =
    (e ≡ OutOfMemory)
    ⊎ ((part : ℕ) × (position : ℕ) × (e ≡ StrangeReceipt part position) × IsFault lists receipts part position)
