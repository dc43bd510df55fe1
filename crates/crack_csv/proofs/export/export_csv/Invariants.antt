use Rattle.std.proofs.Common.{◌≡◌, ◌+◌, ◌*◌, ◌≤◌, [], List, Some}
use Rattle.crack_row.specs.Devices.{device, has_failed}
use Rattle.crack_plain.specs.Plain.{PlainView}
use Rattle.crack_csv.proofs.Exporting.{Exporting}
use Rattle.crack_csv.proofs.Listing.{Listing}
use Rattle.crack_csv.proofs.export.export_csv.Given as goal

abbrev pub invariant-parts : goal.invariant-parts
invariant-parts g l = record {
  exporting : (tables : List PlainView) → g.D.Desk.tables l.fn.desk ≡ Some tables → Exporting (g.D.Desk.bounds l.fn.desk) (g.D.Desk.splits l.fn.desk) tables l.part l.count (g.D.Desk.tables l.desk) (g.W.Write.contents (device l.fn.writer)) (g.W.Write.contents (device l.writer));
  listing : Listing g.D.Desk.leads (g.D.Desk.splits l.fn.desk) l.fn.policy l.fn.desk (g.W.Write.contents (device l.fn.writer)) l.part l.count l.desk (g.W.Write.contents (device l.writer));
  few : l.count ≤ 4294967296 * l.part;
  unfailed : has_failed l.writer ≡ has_failed l.fn.writer;
  accepted : g.D.Desk.accepted l.desk ≡ g.D.Desk.accepted l.fn.desk + l.part;
  splits : g.D.Desk.splits l.desk ≡ g.D.Desk.splits l.fn.desk;
  bounds : g.D.Desk.bounds l.desk ≡ g.D.Desk.bounds l.fn.desk;
  empty : l.out.items ≡ [];
}
