use Rattle.std.proofs.Common.{◌≡◌, ◌++◌, length}
use Rattle.peer_requests.specs.Boundaries.{number_in, numbers_in, listed}
use Rattle.peer_requests.proofs.marks.numbers_in.Given as goal

-- what was found, and what is found in what is left, is the whole
abbrev pub invariant-lines : goal.invariant-lines
invariant-lines l = l.numbers.items ++ numbers_in l.rest ≡ listed (number_in l.blob) (numbers_in l.blob)

abbrev pub decreases-lines : goal.decreases-lines
decreases-lines l = length l.rest
