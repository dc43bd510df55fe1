-- The known sums after changes of plain rows.
use Rattle.std.proofs.Common.{◌≡◌, ℕ, ℤ, pos, ◌+ℤ◌, ◌-◌, ◌-ℤ◌, ◌≤ℤ◌, neg_ℤ, to_z, of_z, ◌<◌, ◌≤◌, nat_lt, Bool, true, false, cond, List, [], ◌∷◌, ◌++◌, map, filter, Some, None, arith, refl, sym, ◌∙◌}
use Rattle.std.specs.Prelude.{AllPairs, Result, Ok, Err, OnOk, OnErr}
use Rattle.std.specs.List.{find}
use Rattle.std.proofs.lemmas.Bool.{le-ltb}
use Rattle.std.proofs.lemmas.Bool.Decides.{nat_tests}
use Rattle.std.specs.Int.{w128}
use Rattle.std.proofs.lemmas.Int.{ints, to_z-of_z, fits_signed_from_abs}
use Rattle.crack_row.specs.Ranges.{is_in}
use Rattle.crack_row.specs.Commands.{change_of}
use Rattle.crack_row.specs.Rows.{amount, farthest_amount, has_serial, is_other, replaced}
use Rattle.crack_row.specs.declared.Key.{Key}
use Rattle.crack_row.specs.declared.Payload.{Payload}
use Rattle.crack_row.specs.declared.Row.{Row}
use Rattle.crack_row.specs.declared.Serial.{Serial}
use Rattle.crack_row.specs.declared.command.Command.{Command}
use Rattle.crack_row.specs.declared.command.Reply.{Reply}
use Rattle.crack_row.specs.declared.refusal.Refusal.{Refusal}
use Rattle.crack_row.specs.declared.command.Command.TheVariants.{Insert, Delete, Update}
use Rattle.crack_plain.specs.Plain.{PlainState, row_in, after}
use Rattle.crack_plain.proofs.Laws.{others-same, replaced-same}
use Rattle.crack_index.specs.Sums.{AreRight, Changes}
use Rattle.crack_part.specs.KnownSums.{Known, KnowsSums, KnowsThen, adds, added_amount, sum_before, with_row, IsFresh, left_known}
use Rattle.crack_part.specs.declared.known.TheConstants.{MOST_PLACED}
use Rattle.crack_part.proofs.SumLaws.{sum-placed, total-taken, total-put, found-serial, apart-none}

-- sums that are the same are right for the same pieces
pub AreRight-same : (m m' : ℕ → ℕ → ℤ) (pieces : List (ℕ × ℤ)) → ((low high : ℕ) → m' low high ≡ m low high) → AreRight m pieces → AreRight m' pieces
AreRight-same m m' [] same right = tt
AreRight-same m m' (piece ∷ pieces) same right = (λ known. right.0 known ∙ sym (same _ _), AreRight-same m m' pieces same right.1)

-- a change of the sums of the ranges that have a key
pub Changes-added : (m : ℕ → ℕ → ℤ) (row : Row) → Changes row.key.0 (amount row.payload) m (with_row (Some row) m)
Changes-added m row = λ low high. by_test m low high (is_in (record { low = low; high = high }) row.key.0)
  where
    by_test : (m : ℕ → ℕ → ℤ) (low high : ℕ) (b : Bool) → m low high +ℤ cond b (amount row.payload) (pos 0) ≡ cond b (m low high +ℤ amount row.payload) (m low high)
    by_test m low high true = refl
    by_test m low high false = omega (arith, ints)

-- the sums without a row
abbrev pub without : Row → (ℕ → ℕ → ℤ) → ℕ → ℕ → ℤ
without row m low high = m low high +ℤ neg_ℤ (added_amount low high (Some row))

pub Changes-without : (m : ℕ → ℕ → ℤ) (row : Row) → Changes row.key.0 (neg_ℤ (amount row.payload)) m (without row m)
Changes-without m row = λ low high. by_test m low high (is_in (record { low = low; high = high }) row.key.0)
  where
    by_test : (m : ℕ → ℕ → ℤ) (low high : ℕ) (b : Bool) → m low high +ℤ neg_ℤ (cond b (amount row.payload) (pos 0)) ≡ cond b (m low high +ℤ neg_ℤ (amount row.payload)) (m low high)
    by_test m low high true = refl
    by_test m low high false = omega (arith, ints)

-- what a row adds, by when it was placed
adds-early : (since low high : ℕ) (row : Row) → row.serial.0 < since → adds since (record { low = low; high = high }) row ≡ added_amount low high (Some row)
adds-early since low high row early = grind (arith, nat_tests, early)

adds-late : (since low high : ℕ) (row : Row) → since ≤ row.serial.0 → adds since (record { low = low; high = high }) row ≡ pos 0
adds-late since low high row late = grind (arith, nat_tests, late)

-- the remaining sums are right, and are of the same rows
pub Knows-left : (next : ℕ) (known : Known) (plain : PlainState) → KnowsSums known plain → KnowsSums (left_known next known) plain
Knows-left next known plain knows = by_test (nat_lt MOST_PLACED (next - known.since))
  where
    by_test : (b : Bool) → KnowsSums (cond b (record known { pieces = [] }) known) plain
    by_test true = record { past = knows.past; right = tt }
    by_test false = knows

pub left-fresh : (next : ℕ) (known : Known) → IsFresh next known → left_known next known ≡ known
left-fresh next known fresh = rw (le-ltb MOST_PLACED (next - known.since) (omega (arith, fresh))) refl

-- a row that is placed is later than the serial
pub Knows-placed : (known : Known) (plain : PlainState) (key : Key) (payload : Payload) → KnowsSums known plain → KnowsSums known (after plain (Insert key payload))
Knows-placed known plain key payload knows =
    let row : Row = record { serial = record { 0 = plain.next }; key = key; payload = payload } in
    record {
      past = omega (arith, knows.past);
      right = AreRight-same (sum_before known.since plain.rows) (sum_before known.since (plain.rows ++ row ∷ [])) known.pieces (λ low high. sum-placed known.since plain.rows row low high knows.past) knows.right;
    }

-- no row has the serial of a change
pub Knows-unremoved : (known : Known) (plain : PlainState) (serial : Serial) → row_in plain.rows serial ≡ None → KnowsSums known plain → KnowsSums known (after plain (Delete serial))
Knows-unremoved known plain serial none knows =
    let others : filter (is_other serial.0) plain.rows ≡ plain.rows = others-same serial.0 plain.rows (apart-none serial.0 plain.rows none) in
    record { past = knows.past; right = rw others knows.right }

pub Knows-unchanged : (known : Known) (plain : PlainState) (row : Row) → row_in plain.rows row.serial ≡ None → KnowsSums known plain → KnowsSums known (after plain (Update row.serial row.key row.payload))
Knows-unchanged known plain row none knows =
    let same : map (replaced row) plain.rows ≡ plain.rows = replaced-same row plain.rows (apart-none row.serial.0 plain.rows none) in
    record { past = knows.past; right = rw same knows.right }

-- a command that changes no row
pub Knows-read : (known : Known) (plain : PlainState) (command : Command) → change_of command ≡ None → KnowsSums known (after plain command) → KnowsSums known plain
Knows-read known plain command none knows = rw none at knows

-- the known sums after an answer, by those after each outcome
pub KnowsThen-of : (old new : Known) (plain : PlainState) (command : Command) (result : Result Reply Refusal) → OnOk result (KnowsSums new (after plain command)) → OnErr result (new ≡ old) → KnowsSums old plain → KnowsThen new plain command result
KnowsThen-of old new plain command (Ok reply) ok err knows = ok
KnowsThen-of old new plain command (Err refusal) ok err knows = rw err knows

-- a row that was placed before the serial is removed
pub removed-early : (since serial : ℕ) (rows : List Row) (row : Row) → AllPairs (λ (earlier later : Row). earlier.serial.0 < later.serial.0) rows → find (has_serial serial) rows ≡ Some row → serial < since → Changes row.key.0 (neg_ℤ (amount row.payload)) (sum_before since rows) (sum_before since (filter (is_other serial) rows))
removed-early since serial rows row rising found early = λ low high.
    let f = adds since (record { low = low; high = high }) in
    let taken = total-taken f serial rows row rising found in
    let same = found-serial serial rows row found in
    let is : sum_before since (filter (is_other serial) rows) low high ≡ without row (sum_before since rows) low high = omega (arith, ints, taken, adds-early since low high row (omega (arith, same, early))) in
    is ∙ Changes-without (sum_before since rows) row low high

-- one that was placed later is removed
pub removed-late : (since serial : ℕ) (rows : List Row) (row : Row) → AllPairs (λ (earlier later : Row). earlier.serial.0 < later.serial.0) rows → find (has_serial serial) rows ≡ Some row → since ≤ serial → (low high : ℕ) → sum_before since (filter (is_other serial) rows) low high ≡ sum_before since rows low high
removed-late since serial rows row rising found late = λ low high.
    let f = adds since (record { low = low; high = high }) in
    let taken = total-taken f serial rows row rising found in
    let same = found-serial serial rows row found in
    omega (arith, ints, taken, adds-late since low high row (omega (arith, same, late)))

-- a row that was placed before the serial is replaced
pub replaced-early : (since : ℕ) (rows : List Row) (row before : Row) → AllPairs (λ (earlier later : Row). earlier.serial.0 < later.serial.0) rows → find (has_serial row.serial.0) rows ≡ Some before → row.serial.0 < since → Changes row.key.0 (amount row.payload) (without before (sum_before since rows)) (sum_before since (map (replaced row) rows))
replaced-early since rows row before rising found early = λ low high.
    let f = adds since (record { low = low; high = high }) in
    let put = total-put f row rows before rising found in
    let serial = found-serial row.serial.0 rows before found in
    let old = adds-early since low high before (omega (arith, serial, early)) in
    let new = adds-early since low high row early in
    let is : sum_before since (map (replaced row) rows) low high ≡ with_row (Some row) (without before (sum_before since rows)) low high = omega (arith, ints, put, old, new) in
    is ∙ Changes-added (without before (sum_before since rows)) row low high

-- one that was placed later is replaced
pub replaced-late : (since : ℕ) (rows : List Row) (row before : Row) → AllPairs (λ (earlier later : Row). earlier.serial.0 < later.serial.0) rows → find (has_serial row.serial.0) rows ≡ Some before → since ≤ row.serial.0 → (low high : ℕ) → sum_before since (map (replaced row) rows) low high ≡ sum_before since rows low high
replaced-late since rows row before rising found late = λ low high.
    let f = adds since (record { low = low; high = high }) in
    let put = total-put f row rows before rising found in
    let serial = found-serial row.serial.0 rows before found in
    omega (arith, ints, put, adds-late since low high before (omega (arith, serial, late)), adds-late since low high row late)

-- a payload's amount as a number of 128 bits, and its negative
pub gained : (payload : Payload) (z : ℤ) → z ≡ amount payload → neg_ℤ (pos farthest_amount) ≤ℤ z → z ≤ℤ pos farthest_amount → to_z w128 (of_z w128 z) ≡ amount payload
gained payload z is least most = to_z-of_z w128 z (fits_signed_from_abs w128 z (omega (arith, ints, least, most))) ∙ is

pub lost : (payload : Payload) (z : ℤ) → z ≡ amount payload → neg_ℤ (pos farthest_amount) ≤ℤ z → z ≤ℤ pos farthest_amount → to_z w128 (of_z w128 (pos 0 -ℤ to_z w128 (of_z w128 z))) ≡ neg_ℤ (amount payload)
lost payload z is least most =
    let inner : to_z w128 (of_z w128 z) ≡ z = to_z-of_z w128 z (fits_signed_from_abs w128 z (omega (arith, ints, least, most))) in
    let negative : ℤ = pos 0 -ℤ to_z w128 (of_z w128 z) in
    let outer = to_z-of_z w128 negative (fits_signed_from_abs w128 negative (omega (arith, ints, inner, least, most))) in
    outer ∙ omega (arith, ints, inner, is)
