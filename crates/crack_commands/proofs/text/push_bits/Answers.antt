use Rattle.std.proofs.Common.{arith}
use Rattle.crack_commands.proofs.Bits.{bits_text-none, bits_text-next}
use Rattle.crack_commands.proofs.text.push_bits.Goals as goal

pub numbers-init : goal.numbers-init
numbers-init g c = record {
  value = bits_text-none c.args.bits c.args.text.now.items;
  within = omega arith;
}

pub numbers-preserved : goal.numbers-preserved
numbers-preserved g c = record {
  value = bits_text-next c.args.bits c.numbers.number _ _ _ c.numbers.invariant.value c.push_bit.ensures.value;
  within = omega (arith, c.numbers.invariant.within, c.push_bit.ensures.few);
}
