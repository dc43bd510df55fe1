use Rattle.std.proofs.Common.{◌≡◌, ◌<◌, ◌^◌, drop}
use Rattle.crack_commands.specs.Inside.{value_on}
use Rattle.crack_commands.proofs.words.value_of.Given as goal

abbrev pub invariant-loop-b : goal.invariant-loop-b
invariant-loop-b l = record {
  value_is : value_on l.value (drop l.b-index l.word) ≡ value_on 0 l.word;
  bound : l.value < 10 ^ l.b-index;
}
