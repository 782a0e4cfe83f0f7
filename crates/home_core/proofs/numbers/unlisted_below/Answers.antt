use Rattle.std.proofs.Common.{◌≡◌, ℕ, List, ◌∷◌, [], ◌++◌, ◌∙◌, ap, arith}
use Rattle.home_core.specs.State.{numbers_below, without}
use Rattle.home_core.proofs.Counting.{unlisted_more}
use Rattle.home_core.proofs.numbers.unlisted_below.Goals as goal

pub numbers-preserved : goal.numbers-preserved
numbers-preserved c = c.in_ok-keep_unlisted.ensures ∙
    (ap (λ (zs : List ℕ). zs ++ without c.args.listed.now (c.numbers.n ∷ [])) c.numbers.invariant ∙ unlisted_more c.args.listed.now c.numbers.n)

pub returns : goal.returns
returns c =
    let end : c.numbers.n ≡ c.args.bound = omega (arith, c.numbers-test.false, c.numbers.auto) in
    c.numbers.invariant ∙ ap (λ (b : ℕ). without c.args.listed.now (numbers_below b)) end
