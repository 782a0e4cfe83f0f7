use Rattle.std.proofs.Common.{◌-◌}
use Rattle.salvage_scan.proofs.ahead.Lookout.leave.Given as goal

abbrev pub invariant-records : goal.invariant-records
invariant-records l = record {}

abbrev pub decreases-records : goal.decreases-records
decreases-records l = l.self.records.count - l.next
