use Rattle.std.proofs.Common.{arith}
use Rattle.crack_commands.proofs.Splitting.{place_here, no_place}
use Rattle.crack_commands.proofs.words.place_of.Goals as goal

pub returns : goal.returns
returns c = no_place c.args.byte c.args.word.now c.loop-i.i (omega arith) c.loop-i.invariant

pub returns-then-b-byte : goal.returns-then-b-byte
returns-then-b-byte c = place_here c.args.byte c.args.word.now c.loop-i.i c.loop-i-test.true c.if-b-byte.true c.loop-i.invariant
