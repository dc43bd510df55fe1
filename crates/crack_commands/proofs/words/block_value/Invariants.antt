use Rattle.std.proofs.Common.{◌≡◌, ◌<◌, ◌^◌, drop}
use Rattle.crack_commands.specs.Inside.{value_on}
use Rattle.crack_commands.proofs.words.block_value.Given as goal

abbrev pub invariant-bytes : goal.invariant-bytes
invariant-bytes l = record {
  value_is : value_on l.value (drop l.b-index l.block) ≡ value_on 0 l.block;
  bound : l.value < 10 ^ l.b-index;
}
