-- What follows from the definitions of the plain table.
use Rattle.std.specs.Prelude.{◌≢◌, ◌≡◌, ℕ, ◌+◌, ◌<◌, ◌≤◌, ◌==◌, not, cond, true, false, List, [], ◌∷◌, ◌++◌, length, map, filter, All, AllPairs, if◌then◌else◌, Option, Some, None, Bool}
use Rattle.std.proofs.Common.{suc, get_or, arith, length-append, ap, refl, sym, subst, ◌∙◌}
use Rattle.std.proofs.lemmas.List.Elements.{All-nil, All-push, All-filter, All-map, All-head, All-tail}
use Rattle.std.proofs.lemmas.List.Kept.{AllPairs-filter}
use Rattle.std.proofs.lemmas.List.{get_or-map, length-map}
use Rattle.std.proofs.lemmas.List.Sums.{length-filter, count_by-le-length}
use Rattle.std.proofs.lemmas.Bool.Decides.{Decides-eqb}
use Rattle.std.specs.Bool.{Decides}
use Rattle.std.proofs.lemmas.List.Quantifiers.{all_pairs_push}
use Rattle.crack_row.specs.Ranges.{Range}
use Rattle.crack_row.specs.Commands.{change_of}
use Rattle.crack_row.specs.Rows.{row_with, is_other, replaced}
use Rattle.crack_row.specs.declared.Row.{Row}
use Rattle.crack_row.specs.declared.Serial.{Serial}
use Rattle.crack_row.specs.declared.command.Change.{Change}
use Rattle.crack_row.specs.declared.command.Change.TheVariants.{Place, Remove, Rewrite}
use Rattle.crack_row.specs.declared.command.Command.{Command}
use Rattle.crack_row.specs.declared.command.Command.TheVariants.{Insert, Delete, Update, Count, Sum, Select}
use Rattle.crack_row.specs.declared.command.Entry.{Entry}
use Rattle.crack_plain.specs.Plain.{PlainState, no_rows, IsNumbered, reply_to, row_in, after, AreReplies, changed, places_row}
use Rattle.crack_plain.proofs.Words.{replay_from, IsWithin, BringWithin}
use Rattle.crack_plain.specs.Inside.{gone, rewritten}
use Rattle.crack_plain.specs.Totals.{is_placed, is_gone, inserted, deleted}
use Rattle.crack_plain.proofs.TotalLaws.{inserted-cons, deleted-cons}

-- one list of entries after another
pub replay_from-append : (s : PlainState) (xs ys : List Entry) → replay_from s (xs ++ ys) ≡ replay_from (replay_from s xs) ys
replay_from-append s [] ys = refl
replay_from-append s (x ∷ xs) ys = replay_from-append (after s x.command) xs ys

-- one more entry
pub replay_from-push : (s : PlainState) (es : List Entry) (e : Entry) → replay_from s (es ++ e ∷ []) ≡ after (replay_from s es) e.command
replay_from-push s es e = replay_from-append s es (e ∷ [])

pub AreReplies-push : (s : PlainState) (es : List Entry) (e : Entry) → AreReplies s es → e.reply ≡ reply_to (replay_from s es) e.command → AreReplies s (es ++ e ∷ [])
AreReplies-push s [] e replies reply = (reply, tt)
AreReplies-push s (x ∷ es) e replies reply = (replies.0, AreReplies-push (after s x.command) es e replies.1 reply)

pub BringWithin-push : (keys : Range) (es : List Entry) (e : Entry) → BringWithin keys es → IsWithin keys e.command → BringWithin keys (es ++ e ∷ [])
BringWithin-push keys es e within new = All-push (λ (x : Entry). IsWithin keys x.command) es e within new

-- no rows
pub IsNumbered-no_rows : IsNumbered no_rows
IsNumbered-no_rows = record { rising = λ i j d i_lt_j j_lt. omega arith; below = All-nil _ }

-- a row that is put in another's place has its serial
pub serial-replaced : (new row : Row) → (replaced new row).serial.0 ≡ row.serial.0
serial-replaced new row = by_test (row.serial.0 == new.serial.0) (Decides-eqb row.serial.0 new.serial.0)
  where
    by_test : (b : Bool) → Decides b (row.serial.0 ≡ new.serial.0) → (if b then new else row).serial.0 ≡ row.serial.0
    by_test true same = sym (same.0 refl)
    by_test false other = refl

rising-replaced : (new : Row) (rows : List Row) → AllPairs (λ (earlier later : Row). earlier.serial.0 < later.serial.0) rows → AllPairs (λ (earlier later : Row). earlier.serial.0 < later.serial.0) (map (replaced new) rows)
rising-replaced new rows rising = λ i j d i_lt j_lt.
    let j_in : j < length rows = omega (arith, length-map rows (replaced new)) in
    let first = get_or-map (replaced new) rows i d d (omega arith) in
    let second = get_or-map (replaced new) rows j d d j_in in
    rw (first, second, serial-replaced new (get_or rows i d), serial-replaced new (get_or rows j d)) (rising i j d i_lt j_in)

-- after each change the serials are still in order
pub IsNumbered-changed : (s : PlainState) (change : Option Change) → IsNumbered s → IsNumbered (changed s change)
IsNumbered-changed s None numbered = numbered
IsNumbered-changed s (Some (Place key payload)) numbered =
    let row : Row = record { serial = record { 0 = s.next }; key = key; payload = payload } in
    record {
      rising = all_pairs_push (λ (earlier later : Row). earlier.serial.0 < later.serial.0) s.rows row numbered.rising (λ k d k_lt. numbered.below k d k_lt);
      below = All-push (λ (r : Row). r.serial.0 < s.next + 1) s.rows row (λ k d k_lt. let earlier = numbered.below k d k_lt in omega (arith, earlier)) (omega arith);
    }
IsNumbered-changed s (Some (Remove serial)) numbered = record {
  rising = AllPairs-filter (λ (earlier later : Row). earlier.serial.0 < later.serial.0) (is_other serial.0) s.rows numbered.rising;
  below = All-filter (is_other serial.0) (λ (r : Row). r.serial.0 < s.next) s.rows numbered.below;
}
IsNumbered-changed s (Some (Rewrite serial key payload)) numbered =
    let new = row_with serial key payload in
    record {
      rising = rising-replaced new s.rows numbered.rising;
      below = All-map (λ (r : Row). r.serial.0 < s.next) (replaced new) s.rows (λ k d k_lt. rw (serial-replaced new (get_or s.rows k d)) (numbered.below k d k_lt));
    }

-- after each command, too
pub IsNumbered-after : (s : PlainState) (command : Command) → IsNumbered s → IsNumbered (after s command)
IsNumbered-after s command numbered = IsNumbered-changed s (change_of command) numbered

pub IsNumbered-replay_from : (s : PlainState) (es : List Entry) → IsNumbered s → IsNumbered (replay_from s es)
IsNumbered-replay_from s [] numbered = numbered
IsNumbered-replay_from s (e ∷ es) numbered = IsNumbered-replay_from (after s e.command) es (IsNumbered-after s e.command numbered)

-- a reply says that a row was placed exactly if the command places one
pub is_placed-reply_to : (s : PlainState) (command : Command) → is_placed (reply_to s command) ≡ places_row (change_of command)
is_placed-reply_to s (Insert key payload) = refl
is_placed-reply_to s (Delete serial) = by_row (row_in s.rows serial)
  where
    by_row : (o : Option Row) → is_placed (gone o) ≡ false
    by_row None = refl
    by_row (Some row) = refl
is_placed-reply_to s (Update serial key payload) = by_row (row_in s.rows serial)
  where
    by_row : (o : Option Row) → is_placed (rewritten o) ≡ false
    by_row None = refl
    by_row (Some row) = refl
is_placed-reply_to s (Count range) = refl
is_placed-reply_to s (Sum range) = refl
is_placed-reply_to s (Select range) = refl

-- the next serial is raised by 1 if a row was placed
next-changed : (s : PlainState) (change : Option Change) → (changed s change).next ≡ s.next + (if places_row change then 1 else 0)
next-changed s None = omega arith
next-changed s (Some (Place key payload)) = refl
next-changed s (Some (Remove serial)) = omega arith
next-changed s (Some (Rewrite serial key payload)) = omega arith

-- a change makes at most one more row, and raises the next serial by at most one
pub length_rows-changed-le : (s : PlainState) (change : Option Change) → length (changed s change).rows ≤ length s.rows + 1
length_rows-changed-le s None = omega arith
length_rows-changed-le s (Some (Place key payload)) = omega (arith, length-append s.rows (record { serial = record { 0 = s.next }; key = key; payload = payload } ∷ []))
length_rows-changed-le s (Some (Remove serial)) = omega (arith, length-filter (is_other serial.0) s.rows, count_by-le-length (is_other serial.0) s.rows)
length_rows-changed-le s (Some (Rewrite serial key payload)) = omega (arith, length-map s.rows (replaced (row_with serial key payload)))

pub next-changed-le : (s : PlainState) (change : Option Change) → (changed s change).next ≤ s.next + 1
next-changed-le s change = by_test (places_row change) (next-changed s change)
  where
    by_test : (b : Bool) → (changed s change).next ≡ s.next + (if b then 1 else 0) → (changed s change).next ≤ s.next + 1
    by_test true e = omega (arith, e)
    by_test false e = omega (arith, e)

pub next-after : (s : PlainState) (command : Command) → (after s command).next ≡ s.next + (if is_placed (reply_to s command) then 1 else 0)
next-after s command = next-changed s (change_of command) ∙ ap (λ (b : Bool). s.next + (if b then 1 else 0)) (sym (is_placed-reply_to s command))

pub next-replay_from : (s : PlainState) (es : List Entry) → AreReplies s es → (replay_from s es).next ≡ s.next + inserted es
next-replay_from s [] replies = omega arith
next-replay_from s (e ∷ es) replies =
    let later = next-replay_from (after s e.command) es replies.1 in
    let now = next-after s e.command in
    let first : inserted (e ∷ es) ≡ (if is_placed (reply_to s e.command) then 1 else 0) + inserted es = inserted-cons e es ∙ ap (λ reply. (if is_placed reply then 1 else 0) + inserted es) replies.0 in
    omega (arith, later, now, first)

-- if no row has the serial, none is removed and none is found
others-all : (serial : ℕ) (rows : List Row) → All (λ (r : Row). serial < r.serial.0) rows → length (filter (is_other serial) rows) ≡ length rows
others-all serial [] above = refl
others-all serial (row ∷ rows) above =
    let first = All-head (λ (r : Row). serial < r.serial.0) row rows above in
    let later = others-all serial rows (All-tail (λ (r : Row). serial < r.serial.0) row rows above) in
    by_test (row.serial.0 == serial) (Decides-eqb row.serial.0 serial) first later
  where
    by_test : (b : Bool) → Decides b (row.serial.0 ≡ serial) → serial < row.serial.0 → length (filter (is_other serial) rows) ≡ length rows → length (cond (not b) (row ∷ filter (is_other serial) rows) (filter (is_other serial) rows)) ≡ length (row ∷ rows)
    by_test true same above later = absurd (omega (arith, same.0 refl))
    by_test false other above later = ap suc later

-- if no row has the serial, a delete and an update of it change nothing
pub others-same : (serial : ℕ) (rows : List Row) → All (λ (r : Row). r.serial.0 ≢ serial) rows → filter (is_other serial) rows ≡ rows
others-same serial [] apart = refl
others-same serial (row ∷ rows) apart =
    by_test (row.serial.0 == serial) (Decides-eqb row.serial.0 serial) (All-head (λ (r : Row). r.serial.0 ≢ serial) row rows apart) (others-same serial rows (All-tail (λ (r : Row). r.serial.0 ≢ serial) row rows apart))
  where
    by_test : (b : Bool) → Decides b (row.serial.0 ≡ serial) → row.serial.0 ≢ serial → filter (is_other serial) rows ≡ rows → cond (not b) (row ∷ filter (is_other serial) rows) (filter (is_other serial) rows) ≡ row ∷ rows
    by_test true same differs later = absurd (differs (same.0 refl))
    by_test false other differs later = ap (λ (rs : List Row). row ∷ rs) later

pub replaced-same : (new : Row) (rows : List Row) → All (λ (r : Row). r.serial.0 ≢ new.serial.0) rows → map (replaced new) rows ≡ rows
replaced-same new [] apart = refl
replaced-same new (row ∷ rows) apart =
    by_test (row.serial.0 == new.serial.0) (Decides-eqb row.serial.0 new.serial.0) (All-head (λ (r : Row). r.serial.0 ≢ new.serial.0) row rows apart) (replaced-same new rows (All-tail (λ (r : Row). r.serial.0 ≢ new.serial.0) row rows apart))
  where
    by_test : (b : Bool) → Decides b (row.serial.0 ≡ new.serial.0) → row.serial.0 ≢ new.serial.0 → map (replaced new) rows ≡ rows → (if b then new else row) ∷ map (replaced new) rows ≡ row ∷ rows
    by_test true same differs later = absurd (differs (same.0 refl))
    by_test false other differs later = ap (λ (rs : List Row). row ∷ rs) later

-- exactly one row is removed if one with the serial is found
others-length : (serial : Serial) (rows : List Row) → AllPairs (λ (earlier later : Row). earlier.serial.0 < later.serial.0) rows → length (filter (is_other serial.0) rows) + (if is_gone (gone (row_in rows serial)) then 1 else 0) ≡ length rows
others-length serial [] rising = refl
others-length serial (row ∷ rows) rising =
    let above : All (λ (r : Row). row.serial.0 < r.serial.0) rows = λ k d k_lt. rising 0 (suc k) d (omega arith) (omega arith) in
    let later = others-length serial rows (λ i j d i_lt j_lt. rising (suc i) (suc j) d (omega arith) (omega arith)) in
    by_test (row.serial.0 == serial.0) (Decides-eqb row.serial.0 serial.0) above later
  where
    by_test : (b : Bool) → Decides b (row.serial.0 ≡ serial.0) → All (λ (r : Row). row.serial.0 < r.serial.0) rows → length (filter (is_other serial.0) rows) + (if is_gone (gone (row_in rows serial)) then 1 else 0) ≡ length rows → length (cond (not b) (row ∷ filter (is_other serial.0) rows) (filter (is_other serial.0) rows)) + (if is_gone (gone (cond b (Some row) (row_in rows serial))) then 1 else 0) ≡ length (row ∷ rows)
    by_test true same above later = omega (arith, others-all serial.0 rows (subst (λ (n : ℕ). All (λ (r : Row). n < r.serial.0) rows) (same.0 refl) above))
    by_test false other above later = omega (arith, later)

-- one more row if one was placed, one row less if one was removed
pub length_rows-after : (s : PlainState) (command : Command) → IsNumbered s → length (after s command).rows + (if is_gone (reply_to s command) then 1 else 0) ≡ length s.rows + (if is_placed (reply_to s command) then 1 else 0)
length_rows-after s (Insert key payload) numbered = omega (arith, length-append s.rows (record { serial = record { 0 = s.next }; key = key; payload = payload } ∷ []))
length_rows-after s (Delete serial) numbered =
    let one : Bool → ℕ = λ b. if b then 1 else 0 in
    let placed = ap one (is_placed-reply_to s (Delete serial)) in
    omega (arith, others-length serial s.rows numbered.rising, placed)
length_rows-after s (Update serial key payload) numbered = by_row (row_in s.rows serial) (length-map s.rows (replaced (row_with serial key payload)))
  where
    by_row : (o : Option Row) → length (map (replaced (row_with serial key payload)) s.rows) ≡ length s.rows → length (map (replaced (row_with serial key payload)) s.rows) + (if is_gone (rewritten o) then 1 else 0) ≡ length s.rows + (if is_placed (rewritten o) then 1 else 0)
    by_row None same = omega (arith, same)
    by_row (Some row) same = omega (arith, same)
length_rows-after s (Count range) numbered = refl
length_rows-after s (Sum range) numbered = refl
length_rows-after s (Select range) numbered = refl

pub length_rows-replay_from : (s : PlainState) (es : List Entry) → IsNumbered s → AreReplies s es → length (replay_from s es).rows + deleted es ≡ length s.rows + inserted es
length_rows-replay_from s [] numbered replies = omega arith
length_rows-replay_from s (e ∷ es) numbered replies =
    let later = length_rows-replay_from (after s e.command) es (IsNumbered-after s e.command numbered) replies.1 in
    let now = length_rows-after s e.command numbered in
    let placed : inserted (e ∷ es) ≡ (if is_placed (reply_to s e.command) then 1 else 0) + inserted es = inserted-cons e es ∙ ap (λ reply. (if is_placed reply then 1 else 0) + inserted es) replies.0 in
    let gone : deleted (e ∷ es) ≡ (if is_gone (reply_to s e.command) then 1 else 0) + deleted es = deleted-cons e es ∙ ap (λ reply. (if is_gone reply then 1 else 0) + deleted es) replies.0 in
    omega (arith, later, now, placed, gone)
