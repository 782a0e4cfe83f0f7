use Rattle.std.proofs.Common.{◌≡◌, ◌-◌, ◌≤◌}
use Rattle.pack_disk.specs.Runs.{Stays}
use Rattle.perkeep_top.specs.Salvaged.{IsReportBelow, IsCutAt, Writes}
use Rattle.perkeep_top.proofs.commands.salvage.tell_packs.Given as goal

-- what was written tells of the packs below the next number, and nothing was changed
abbrev pub invariant-packs : goal.invariant-packs
invariant-packs g l =
    let disk = g.D.Disk in
    record {
      small : l.next ≤ 100000;
      wrote : Writes (IsReportBelow l.next (disk.packs l.fn.disk)) (g.K.Sink.written l.fn.sink) (g.K.Sink.written l.sink);
      cut : IsCutAt l.next (disk.packs l.fn.disk);
      stays : Stays disk l.fn.disk l.disk;
      still : disk.moment l.disk ≡ disk.moment l.fn.disk;
      disk_later : disk.faults l.fn.disk ≤ disk.faults l.disk;
      sink_later : g.K.Sink.faults l.fn.sink ≤ g.K.Sink.faults l.sink;
    }

abbrev pub decreases-packs : goal.decreases-packs
decreases-packs g l = 100000 - l.next
