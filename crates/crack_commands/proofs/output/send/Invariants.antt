use Rattle.std.proofs.Common.{◌≡◌, length, ◌-◌, ◌≤◌, take}
use Rattle.std.specs.Io.KnownBytes.{Appends}
use Rattle.crack_row.specs.Devices.{device, has_failed}
use Rattle.crack_commands.proofs.output.send.Given as goal

abbrev pub invariant-sending : goal.invariant-sending
invariant-sending g l = record {
  sent : Appends (g.W.Write.contents (device l.fn.writer)) (g.W.Write.contents (device l.writer)) (take l.done l.bytes);
  within : l.done ≤ length l.bytes;
  unfailed : has_failed l.writer ≡ has_failed l.fn.writer;
}

abbrev pub decreases-sending : goal.decreases-sending
decreases-sending g l = length l.bytes - l.done
