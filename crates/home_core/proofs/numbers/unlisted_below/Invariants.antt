use Rattle.std.proofs.Common.{◌≡◌}
use Rattle.home_core.specs.State.{numbers_below, without}
use Rattle.home_core.proofs.numbers.unlisted_below.Given as goal

-- the numbers so far
abbrev pub invariant-numbers : goal.invariant-numbers
invariant-numbers l = l.rest.items ≡ without l.listed (numbers_below l.n)
