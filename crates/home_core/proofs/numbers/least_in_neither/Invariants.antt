use Rattle.std.proofs.Common.{◌≡◌, None}
use Rattle.std.specs.Prelude.{find}
use Rattle.home_core.specs.State.{numbers_below, is_in_neither}
use Rattle.home_core.proofs.numbers.least_in_neither.Given as goal

-- none so far
abbrev pub invariant-numbers : goal.invariant-numbers
invariant-numbers l = find (is_in_neither l.one l.other) (numbers_below l.n) ≡ None
