use Rattle.std.proofs.Common.{◌+◌, ◌*◌, ap, sym, ◌∙◌, get_or, arith, ℕ}
use Rattle.std.specs.Char.{digit_value}
use Rattle.std.proofs.lemmas.Int.Digits.{digits_value_more}
use Rattle.http_admission.proofs.Digits.{few_fit, ten_more, digit_is, all_more}
use Rattle.http_admission.proofs.browsers.number_in.Goals as goal

pub overflow_mul-n : goal.overflow_mul-n
overflow_mul-n c = let small = few_fit c.loop-digit.digit-index c.loop-digit.n c.loop-digit.invariant.small (omega arith) in omega (arith, small)

pub overflow_add-n : goal.overflow_add-n
overflow_add-n c =
    let small = few_fit c.loop-digit.digit-index c.loop-digit.n c.loop-digit.invariant.small (omega arith) in
    let digit = digit_is (get_or c.args.text.now c.loop-digit.digit-index 0) (sym c.if-not-is_ascii_digit.ensures.value) in
    omega (arith, small, digit.1)

pub loop-digit-preserved : goal.loop-digit-preserved
loop-digit-preserved c =
    let i = c.loop-digit.digit-index in
    let digit = digit_is (get_or c.args.text.now i 0) (sym c.if-not-is_ascii_digit.ensures.value) in
    record {
      digits = all_more c.args.text.now i (omega arith) c.loop-digit.invariant.digits (sym c.if-not-is_ascii_digit.ensures.value);
      value = ap (λ (k : ℕ). c.loop-digit.n * 10 + k) (c.from.ensures ∙ sym digit.2) ∙ ap (λ (n : ℕ). n * 10 + digit_value (get_or c.args.text.now i 0)) c.loop-digit.invariant.value ∙ sym (digits_value_more 10 c.args.text.now i (omega arith));
      small = ten_more i c.loop-digit.n c.from.result c.loop-digit.invariant.small (omega (arith, digit.1));
      few = omega arith;
    }
