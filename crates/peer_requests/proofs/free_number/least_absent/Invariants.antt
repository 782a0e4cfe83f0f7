use Rattle.std.proofs.Common.{◌≡◌, ◌+◌, drop, length, replicate}
use Rattle.peer_requests.specs.Flags.{all_marked}
use Rattle.peer_requests.proofs.free_number.least_absent.Given as goal

-- what is marked, and what is still to be marked, is the whole
abbrev pub invariant-loop-number : goal.invariant-loop-number
invariant-loop-number l = all_marked (drop l.number-index l.numbers) l.flags ≡ all_marked l.numbers (replicate (length l.numbers + 1) 0)
