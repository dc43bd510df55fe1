use Rattle.std.proofs.Common.{◌≡◌, ◌<◌, ◌-◌, ◌++◌, drop, length}
use Rattle.std.specs.List.{flat_map}
use Rattle.crack_csv.specs.Exports.{record_text}
use Rattle.crack_csv.proofs.export.push_rows.Given as goal

abbrev pub invariant-rows : goal.invariant-rows
invariant-rows l = record {
  text : l.out.items ++ flat_map record_text (drop l.next l.rows) ≡ flat_map record_text (drop l.at l.rows);
  from : l.at < l.next;
}

abbrev pub decreases-rows : goal.decreases-rows
decreases-rows l = length l.rows - l.next
