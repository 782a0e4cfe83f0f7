use Rattle.std.proofs.Common.{◌≡◌, ℕ, ◌∙◌, ap, sym, arith}
use Rattle.std.specs.Prelude.{find}
use Rattle.home_core.specs.State.{numbers_below, is_in_neither}
use Rattle.home_core.proofs.Counting.{least_is, least_not}
use Rattle.home_core.proofs.numbers.least_in_neither.Goals as goal

pub returns-then-is_in_neither : goal.returns-then-is_in_neither
returns-then-is_in_neither c = sym (least_is (is_in_neither c.args.one.now c.args.other.now) c.numbers.n c.args.bound
    c.numbers.invariant (sym c.is_in_neither.ensures ∙ c.if-is_in_neither.true) c.numbers-test.true)

pub numbers-preserved : goal.numbers-preserved
numbers-preserved c = least_not (is_in_neither c.args.one.now c.args.other.now) c.numbers.n
    c.numbers.invariant (sym c.is_in_neither.ensures ∙ c.if-is_in_neither.false)

pub returns : goal.returns
returns c =
    let end : c.numbers.n ≡ c.args.bound = omega (arith, c.numbers-test.false, c.numbers.auto) in
    sym (sym (ap (λ (b : ℕ). find (is_in_neither c.args.one.now c.args.other.now) (numbers_below b)) end) ∙ c.numbers.invariant)
