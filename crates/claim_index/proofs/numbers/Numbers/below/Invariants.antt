-- the numbers so far
use Rattle.std.proofs.Common.{◌≡◌, ℕ, nat_lt}
use Rattle.std.specs.FinMap.{contains_key}
use Rattle.claim_index.proofs.numbers.Numbers.below.Given as goal

abbrev pub invariant-numbers : goal.invariant-numbers
invariant-numbers l = (q : ℕ) → contains_key l.numbers.numbers q ≡ nat_lt q l.n
