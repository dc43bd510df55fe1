use Rattle.std.proofs.Common.{◌≡◌, ◌+◌, ◌*◌, ◌≤◌, ◌++◌, take, length}
use Rattle.std.specs.List.{flat_map}
use Rattle.crack_commands.specs.Texts.{field_text}
use Rattle.crack_commands.proofs.text.push_fields.Given as goal

abbrev pub invariant-numbers : goal.invariant-numbers
invariant-numbers g l = record {
  value : l.text.items ≡ l.fn.text.items ++ flat_map field_text (take l.number-index l.numbers);
  within : length l.text.items ≤ length l.fn.text.items + 21 * l.number-index;
}
