use Rattle.std.proofs.Common.{◌≡◌, ◌++◌, [], drop}
use Rattle.histories.specs.StoreCalls.{each_once}
use Rattle.store_history.specs.Once.{HasSame}
use Rattle.store_history.proofs.asking.once.Given as goal

-- what stands there, and what is still to come, is the whole; the set has the refs that stand there
abbrev pub invariant-loop-r : goal.invariant-loop-r
invariant-loop-r l = record {
  whole : l.once ++ each_once l.once (drop l.r-index l.r-items) ≡ each_once [] l.r-items;
  seen : HasSame l.seen l.once;
}
