use Rattle.std.proofs.Common.{◌≡◌, drop}
use Rattle.crack_plain.specs.Plain.{row_in}
use Rattle.crack_plain.proofs.list.row_in.Given as goal

abbrev pub invariant-rows : goal.invariant-rows
invariant-rows l = row_in l.rows l.serial ≡ row_in (drop l.place l.rows) l.serial
