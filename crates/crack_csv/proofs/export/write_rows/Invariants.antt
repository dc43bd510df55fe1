use Rattle.std.proofs.Common.{◌≡◌, ◌-◌, [], drop, length}
use Rattle.std.specs.List.{flat_map}
use Rattle.crack_row.specs.Devices.{device, has_failed}
use Rattle.crack_csv.specs.Exports.{record_text}
use Rattle.crack_csv.proofs.Batches.{Written}
use Rattle.crack_csv.proofs.export.write_rows.Given as goal

abbrev pub invariant-batches : goal.invariant-batches
invariant-batches g l = record {
  written : Written (g.W.Write.contents (device l.fn.writer)) (g.W.Write.contents (device l.writer)) (flat_map record_text l.rows) (flat_map record_text (drop l.done l.rows));
  unfailed : has_failed l.writer ≡ has_failed l.fn.writer;
  empty : l.out.items ≡ [];
}

abbrev pub decreases-batches : goal.decreases-batches
decreases-batches g l = length l.rows - l.done
