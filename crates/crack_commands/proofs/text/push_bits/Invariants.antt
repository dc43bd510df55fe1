use Rattle.std.proofs.Common.{◌≡◌, ◌+◌, ◌*◌, ◌≤◌, ◌++◌, length}
use Rattle.crack_commands.specs.Texts.{bits_text}
use Rattle.crack_commands.proofs.text.push_bits.Given as goal

abbrev pub invariant-numbers : goal.invariant-numbers
invariant-numbers g l = record {
  value : l.text.items ≡ l.fn.text.items ++ bits_text l.bits l.number;
  within : length l.text.items ≤ length l.fn.text.items + 21 * l.number;
}
