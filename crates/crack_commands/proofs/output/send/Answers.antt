use Rattle.std.proofs.Common.{◌∙◌, take, drop, arith}
use Rattle.std.proofs.lemmas.List.{take_rest}
use Rattle.crack_commands.proofs.Sending.{Appends-then, take_on}
use Rattle.crack_commands.proofs.output.send.Goals as goal

pub sending-preserved : goal.sending-preserved
sending-preserved g c = record {
  sent = Appends-then _ _ _ _ (take c.in-Ok.count (drop c.sending.done c.args.bytes.now)) _ c.sending.invariant.sent (rw take_rest at c.in-Ok.ensures.bytes) (take_on c.sending.done c.in-Ok.count c.args.bytes.now);
  within = omega (arith, c.in-Ok.ensures.bound);
  unfailed = c.in-Ok.ensures.ok c.if-count-gt0.true ∙ c.sending.invariant.unfailed;
}
