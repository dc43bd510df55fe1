use Rattle.std.proofs.Common.{◌≡◌, ◌++◌, map, take, drop}
use Rattle.crack_row.specs.Rows.{replaced}
use Rattle.crack_plain.proofs.list.replace.Given as goal

abbrev pub invariant-rows : goal.invariant-rows
invariant-rows l = l.rows ≡ map (replaced l.new) (take l.place l.initial.rows) ++ drop l.place l.initial.rows
