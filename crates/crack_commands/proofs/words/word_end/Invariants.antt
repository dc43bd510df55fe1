use Rattle.std.proofs.Common.{◌≡◌, take, false}
use Rattle.crack_commands.specs.Inside.{has_space}
use Rattle.crack_commands.proofs.words.word_end.Given as goal

abbrev pub invariant-loop-i : goal.invariant-loop-i
invariant-loop-i l = has_space (take l.i l.bytes) ≡ false
