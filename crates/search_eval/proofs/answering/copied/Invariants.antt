use Rattle.std.proofs.Common.{◌≡◌, take}
use Rattle.search_eval.proofs.answering.copied.Given as goal

abbrev pub invariant-loop-r : goal.invariant-loop-r
invariant-loop-r l = l.copy ≡ take l.r-index l.refs
