use Rattle.std.proofs.Common.{◌≤◌}
use Rattle.std.specs.List.{All}
use Rattle.pack_store.specs.Reading.{StaysStill}
use Rattle.store_ahead.specs.Ahead.{StandsUnder}
use Rattle.store_ahead.proofs.next.read_blobs.Given as goal

abbrev pub invariant-loop-r : goal.invariant-loop-r
invariant-loop-r g l = record {
  stand : All (StandsUnder g.D.Disk l.fn.store) l.blobs.items;
  stays : StaysStill g.D.Disk l.fn.store l.store;
  later : g.D.Disk.faults l.fn.store.disk ≤ g.D.Disk.faults l.store.disk;
}
