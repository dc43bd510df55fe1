use Rattle.std.proofs.Common.{sym, ap, ◌∙◌, refl, arith, get_or, ◌*◌, ◌+◌, ◌-◌}
use Rattle.crack_commands.proofs.Numbers.{digit_from, value_below, value_more, digits_more}
use Rattle.crack_commands.proofs.words.leading_digits.Goals as goal

pub overflow_add-value : goal.overflow_add-value
overflow_add-value c =
    let b = get_or c.args.bytes.now c.digits.i 0 in
    let digit = digit_from b _ (omega (arith, c.type_inv.bytes c.digits.i)) refl c.if-digit-ge10.false in
    let next = value_below c.digits.value c.digits.i b c.digits.invariant.bound (omega arith) digit.0 in
    omega (arith, next.1, digit.1)

pub overflow_mul-value : goal.overflow_mul-value
overflow_mul-value c =
    let b = get_or c.args.bytes.now c.digits.i 0 in
    let digit = digit_from b _ (omega (arith, c.type_inv.bytes c.digits.i)) refl c.if-digit-ge10.false in
    let next = value_below c.digits.value c.digits.i b c.digits.invariant.bound (omega arith) digit.0 in
    omega (arith, next.1)

pub digits-preserved : goal.digits-preserved
digits-preserved c =
    let b = get_or c.args.bytes.now c.digits.i 0 in
    let digit = digit_from b _ (omega (arith, c.type_inv.bytes c.digits.i)) refl c.if-digit-ge10.false in
    let next = value_below c.digits.value c.digits.i b c.digits.invariant.bound (omega arith) digit.0 in
    record {
      digits = digits_more c.args.bytes.now c.digits.i (omega arith) c.digits.invariant.digits digit.0;
      value_is = ap (λ d. c.digits.value * 10 + d) digit.1 ∙ ap (λ v. v * 10 + (b - 48)) c.digits.invariant.value_is ∙ sym (value_more c.args.bytes.now c.digits.i (omega arith));
      bound = omega (arith, next.0, digit.1);
    }
