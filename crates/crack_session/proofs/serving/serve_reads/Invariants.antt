use Rattle.std.proofs.Common.{◌≡◌, ◌≤◌, ◌-◌, []}
use Rattle.crack_row.specs.Devices.{device, has_failed, reads_of}
use Rattle.crack_session.proofs.Running.{Running, ReadsMade}
use Rattle.crack_session.proofs.serving.serve_reads.Given as goal

abbrev pub invariant-reads : goal.invariant-reads
invariant-reads g l = record {
  running : Running g.D.Desk.bounds g.D.Desk.splits g.D.Desk.tables g.D.Desk.leads l.fn.session l.fn.desk (g.R.Read.remaining (device l.fn.reader)) (g.W.Write.contents (device l.fn.writer)) l.session l.desk (g.R.Read.remaining (device l.reader)) (g.W.Write.contents (device l.writer)) l.reads;
  empty : l.out.items ≡ [];
  few : l.reads ≤ 1000000000;
  made : ReadsMade (reads_of l.fn.reader) (reads_of l.reader) l.reads;
  reader_unfailed : has_failed l.reader ≡ has_failed l.fn.reader;
  writer_unfailed : has_failed l.writer ≡ has_failed l.fn.writer;
}

abbrev pub decreases-reads : goal.decreases-reads
decreases-reads g l = 1000000000 - l.reads
