use Rattle.std.proofs.Common.{arith, ◌*◌, ap, ◌∙◌}
use Rattle.crack_witness.specs.Witnesses.{WorkerState}
use Rattle.crack_table.proofs.Missing.{bit_fits, next_bit, missing_more, next_fits}
use Rattle.crack_table.proofs.gathering.missing_workers.Goals as goal

pub overflow_cast-bit : goal.overflow_cast-bit
overflow_cast-bit g c =
    let h = bit_fits c.numbers.number (omega arith) in
    omega (arith, h, c.numbers.invariant.bit)

pub overflow_mul-bit : goal.overflow_mul-bit
overflow_mul-bit g c =
    let h = bit_fits c.numbers.number (omega arith) in
    omega (arith, h, c.numbers.invariant.bit)

pub overflow_add-missing : goal.overflow_add-missing
overflow_add-missing g c =
    let h = next_fits c.numbers.number (omega arith) in
    let n = next_bit c.numbers.number in
    omega (arith, h, n, c.numbers.invariant.bit, c.numbers.invariant.small, c.bit_unless-missing.ensures.small)

pub numbers-preserved : goal.numbers-preserved
numbers-preserved g c =
    let n = next_bit c.numbers.number in record {
      missing = missing_more (λ (a : WorkerState). a.worker) c.args.workers.now.items c.numbers.number c.numbers.missing c.numbers.bit c.bit_unless-missing.result c.has_worker.result c.numbers.invariant.missing c.numbers.invariant.bit c.has_worker.ensures c.bit_unless-missing.ensures.is;
      bit = ap (λ x. x * 2) c.numbers.invariant.bit ∙ n;
      small = omega (arith, n, c.numbers.invariant.bit, c.numbers.invariant.small, c.bit_unless-missing.ensures.small);
    }
