use Rattle.std.proofs.Common.{◌-◌, ◌≤◌, []}
use Rattle.pack_disk.specs.Runs.{Stays}
use Rattle.pack_store.specs.Calls.{AreReadFrom}
use Rattle.pack_store.specs.Onlooking.{IsShown}
use Rattle.pack_store.specs.Opening.{IsTaken, IsPlaced}
use Rattle.pack_store.proofs.opening.load.Given as goal

abbrev pub invariant-loop-found : goal.invariant-loop-found
invariant-loop-found g l =
    let disk = g.D.Disk in
    record {
      small : l.next ≤ 100000;
      rose : disk.faults l.fn.disk ≤ disk.faults l.disk;
      stays : Stays disk l.fn.disk l.disk;
      placed : IsPlaced l.arrivals.places l.arrivals.rows.items;
      read : AreReadFrom disk l.fn.disk l.arrivals.rows.items l.next l.current l.disk;
      taken : IsTaken disk l.disk l.arrivals.rows.items l.next l.current;
      shown : IsShown g.L.Onlooker (disk.packs l.fn.disk) [] l.arrivals.rows.items l.fn.onlooker l.arrivals.onlooker;
    }

abbrev pub decreases-loop-found : goal.decreases-loop-found
decreases-loop-found g l = 100000 - l.next
