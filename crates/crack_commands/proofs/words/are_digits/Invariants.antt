use Rattle.std.proofs.Common.{◌≡◌, take}
use Rattle.std.specs.List.{list_all}
use Rattle.crack_commands.specs.Grammar.{is_digit}
use Rattle.crack_commands.proofs.words.are_digits.Given as goal

abbrev pub invariant-bytes : goal.invariant-bytes
invariant-bytes l = l.all ≡ list_all is_digit (take l.b-index l.block)
