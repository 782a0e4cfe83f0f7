use Rattle.std.proofs.Common.{◌≡◌, [], ◌++◌, drop}
use Rattle.std.specs.List.{filter_map}
use Rattle.histories.specs.StoreCalls.{each_once, sized}
use Rattle.core_home.proofs.reading.stat.Given as goal

-- what was found, and what is found of the refs that are left, is the whole
abbrev pub invariant-refs : goal.invariant-refs
invariant-refs l =
    l.found ++ filter_map (sized l.blobs) (each_once l.asked (drop l.r-index l.refs))
    ≡ filter_map (sized l.blobs) (each_once [] l.refs)
