use Rattle.std.proofs.Common.{◌≡◌, ◌<◌, ◌^◌, take, true}
use Rattle.std.specs.List.{list_all}
use Rattle.crack_commands.specs.Grammar.{is_digit}
use Rattle.crack_commands.specs.Inside.{value_on}
use Rattle.crack_commands.proofs.words.leading_digits.Given as goal

abbrev pub invariant-digits : goal.invariant-digits
invariant-digits l = record {
  digits : list_all is_digit (take l.i l.bytes) ≡ true;
  value_is : l.value ≡ value_on 0 (take l.i l.bytes);
  bound : l.value < 10 ^ l.i;
}
