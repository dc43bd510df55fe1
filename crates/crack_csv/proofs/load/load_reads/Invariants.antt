use Rattle.std.proofs.Common.{◌≡◌, ◌-◌, ◌^◌}
use Rattle.crack_row.specs.Devices.{device, has_failed, reads_of}
use Rattle.crack_csv.proofs.Feeding.{Reading}
use Rattle.crack_csv.proofs.load.load_reads.Given as goal

abbrev pub invariant-reads : goal.invariant-reads
invariant-reads g l = record {
  reading : Reading g.D.Desk.bounds g.D.Desk.splits g.D.Desk.tables g.D.Desk.accepted g.D.Desk.leads l.fn.loader.policy l.fn.desk (g.R.Read.remaining (device l.fn.reader)) l.loader l.desk (g.R.Read.remaining (device l.reader));
  unfailed : has_failed l.reader ≡ has_failed l.fn.reader;
}

abbrev pub decreases-reads : goal.decreases-reads
decreases-reads g l = 2 ^ 64 - 1 - reads_of l.reader
