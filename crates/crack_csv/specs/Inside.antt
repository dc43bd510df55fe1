-- What private clauses alone cite.
-- Before a call: `tables`, `accepted`, `failed`, `out`, as in `Exports`. After it: `left`, and the names with a prime.
use Rattle.std.specs.Prelude.{Ok, Err, Result, ◌≡◌, ℕ, ◌+◌, ◌⊎◌, List, length, map, Option, Some, Bool, slice_get, slice_set}
use Rattle.std.specs.List.{flat_map}
use Rattle.std.specs.Io.KnownBytes.{Appends, Keeps}
use Rattle.crack_row.specs.declared.Bound.{Bound}
use Rattle.crack_row.specs.declared.Row.{Row}
use Rattle.crack_row.specs.declared.command.Command.TheVariants.{Select}
use Rattle.crack_row.specs.declared.command.Policy.{Policy}
use Rattle.crack_row.specs.declared.command.Reply.{Reply}
use Rattle.crack_row.specs.declared.refusal.Refusal.{Refusal}
use Rattle.crack_plain.specs.Plain.{PlainView, rows_in}
use Rattle.crack_core.specs.Listing.{rows_listed}
use Rattle.crack_core.specs.Routes.{keys_of_part}
use Rattle.crack_core.specs.Steps.{Bounds, IsOutcome}
use Rattle.crack_session.specs.Calls.{Call}
use Rattle.crack_csv.specs.Asked.{listing}
use Rattle.crack_csv.specs.Exports.{record_text, after_listing, AreUnsent}

-- the rows in this table of the partition `part` that have keys of this partition, by rising serial
abbrev pub rows_at : List Bound → ℕ → PlainView → List Row
rows_at splits part table = rows_in (keys_of_part splits part) table.state.rows

-- The partition `part` lists its rows, `count` in number, and a record for each is written.
pub record IsPartExported (bounds : Bounds) (splits : List Bound) (tables : List PlainView) (part count : ℕ) (left : Option (List PlainView)) (out out' : Option (List ℕ)) : Type 0 where
  pub table : PlainView
  pub there : slice_get tables part ≡ Some table
  pub count_is : count ≡ length (rows_at splits part table)
  pub left_is : left ≡ Some (slice_set tables part (after_listing bounds table))
  pub written : Appends out out' (flat_map record_text (rows_at splits part table))

-- The partition `part` refuses with `e` to list the rows of `table`, and no table, count or output has changed.
pub record IsUnlisted (bounds : Bounds) (splits : List Bound) (tables : List PlainView) (part : ℕ) (table : PlainView) (e : Refusal) (accepted accepted' : ℕ) (failed failed' : Bool) (left : Option (List PlainView)) (out out' : Option (List ℕ)) : Type 0 where
  pub cause : IsOutcome bounds (keys_of_part splits part) (Some table) (Select (keys_of_part splits part)) (Err e)
  pub left_is : left ≡ Some tables
  pub accepted_are : accepted' ≡ accepted
  pub unfailed : failed' ≡ failed
  pub unwritten : Keeps out out'

-- The partition `part` lists the rows of `table`, and their records aren't all written, as `AreUnsent` says.
pub record IsUnwritten (bounds : Bounds) (splits : List Bound) (tables : List PlainView) (part : ℕ) (table : PlainView) (e : Refusal) (accepted accepted' : ℕ) (failed' : Bool) (left : Option (List PlainView)) (out out' : Option (List ℕ)) : Type 0 where
  pub cause : AreUnsent (map record_text (rows_at splits part table)) e failed' out out'
  pub left_is : left ≡ Some (slice_set tables part (after_listing bounds table))
  pub accepted_are : accepted' ≡ accepted + 1

-- The partition `part` refuses with `e` to list its rows, or lists them, and their records aren't all written.
pub record IsPartCut (bounds : Bounds) (splits : List Bound) (tables : List PlainView) (part : ℕ) (e : Refusal) (accepted accepted' : ℕ) (failed failed' : Bool) (left : Option (List PlainView)) (out out' : Option (List ℕ)) : Type 0 where
  pub table : PlainView
  pub there : slice_get tables part ≡ Some table
  pub how : IsUnlisted bounds splits tables part table e accepted accepted' failed failed' left out out'
      ⊎ IsUnwritten bounds splits tables part table e accepted accepted' failed' left out out'

-- the desk's only call: the partition with this number is asked to list its rows under this policy, with this outcome
abbrev pub AsksPart : {D : Type 0} → (D → Call → D → Type 0) → List Bound → Policy → ℕ → Result Reply Refusal → D → D → Type 0
AsksPart leads splits policy part outcome old new = leads old (listing splits policy part outcome) new

-- the partition `part`, the first number, lists its rows, `count` in number, and a record for each is written
abbrev pub AsksAndWrites : {D : Type 0} → (D → Call → D → Type 0) → List Bound → Policy → ℕ → ℕ → D → D → Option (List ℕ) → Option (List ℕ) → Type 0
AsksAndWrites leads splits policy part count old new out out' = (reply : Reply) × AsksPart leads splits policy part (Ok reply) old new × (count ≡ length (rows_listed reply)) × Appends out out' (flat_map record_text (rows_listed reply))

-- a partition refuses with `e` to list its rows, or lists them, and their records aren't all written (`AreUnsent`)
abbrev pub AsksAndCuts : {D : Type 0} → (D → Call → D → Type 0) → List Bound → Policy → ℕ → Refusal → D → D → Bool → Bool → Option (List ℕ) → Option (List ℕ) → Type 0
AsksAndCuts leads splits policy part e old new failed failed' out out' = (AsksPart leads splits policy part (Err e) old new × (failed' ≡ failed) × Keeps out out')
    ⊎ ((reply : Reply) × AsksPart leads splits policy part (Ok reply) old new × AreUnsent (map record_text (rows_listed reply)) e failed' out out')
