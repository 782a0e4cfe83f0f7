use Rattle.std.proofs.Common.{◌-◌, length}
use Rattle.salvage_scan.specs.JunkRuns.{IsJunkTo}
use Rattle.salvage_scan.proofs.heads.past_junk.Given as goal

abbrev pub invariant-junk : goal.invariant-junk
invariant-junk l = IsJunkTo l.bytes l.fn.at l.at

abbrev pub decreases-junk : goal.decreases-junk
decreases-junk l = length l.bytes - l.at
