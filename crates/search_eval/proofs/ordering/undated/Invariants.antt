use Rattle.std.proofs.Common.{◌≡◌, take, map}
use Rattle.search_eval.proofs.ordering.undated.Given as goal

abbrev pub invariant-loop-r : goal.invariant-loop-r
invariant-loop-r l = l.refs ≡ map (λ e. e.1) (take l.r-index (take l.limit l.dated))
