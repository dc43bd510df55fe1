-- Rows with a given serial, and sums of payloads.
use Rattle.std.specs.Prelude.{ℕ, ℤ, pos, ◌+ℤ◌, ◌^◌, ◌==◌, Bool, not, List, fold, if◌then◌else◌}
use Rattle.crack_row.specs.declared.Key.{Key}
use Rattle.crack_row.specs.declared.Payload.{Payload}
use Rattle.crack_row.specs.declared.Row.{Row}
use Rattle.crack_row.specs.declared.Serial.{Serial}

-- the row with this serial, key and payload
abbrev pub row_with : Serial → Key → Payload → Row
row_with serial key payload = record { serial = serial; key = key; payload = payload }

-- whether a row has this serial
abbrev pub has_serial : ℕ → Row → Bool
has_serial serial row = row.serial.0 == serial

-- whether a row's serial isn't this one
abbrev pub is_other : ℕ → Row → Bool
is_other serial row = not (row.serial.0 == serial)

-- `new` if the old row `row` has the same serial, otherwise `row`
abbrev pub replaced : Row → Row → Row
replaced new row = if row.serial.0 == new.serial.0 then new else row

-- the amount that a payload adds to a sum: its number
abbrev pub amount : Payload → ℤ
amount payload = payload.0

-- the greatest absolute value of an amount: that of the least payload
abbrev pub farthest_amount : ℕ
farthest_amount = 2 ^ 63

-- the sum of the numbers that the function `number` gives the elements of a list
abbrev pub total_by : {X : Type 0} → (X → ℤ) → List X → ℤ
total_by number xs = fold (λ total x. total +ℤ number x) (pos 0) xs

-- the sum of the payloads of rows
abbrev pub sum_of : List Row → ℤ
sum_of rows = total_by (λ (row : Row). amount row.payload) rows
