use Rattle.std.proofs.Common.{◌≡◌, ◌≤◌, ◌-◌}
use Rattle.pack_disk.specs.Runs.{Stays}
use Rattle.pack_store.specs.Calls.{ReadsFront}
use Rattle.pack_store.specs.Taking.{TookFront}
use Rattle.pack_store.proofs.pieces.take_pieces.Given as goal

-- what was read and taken up so far
abbrev pub invariant-pieces : goal.invariant-pieces
invariant-pieces g l =
    let disk = g.D.Disk in
    record {
      within : l.at ≤ l.size;
      took : TookFront g.T.Taker (disk.packs l.fn.disk) (λ bytes. ReadsFront disk l.fn.disk l.pack l.size bytes l.disk) l.pack l.at l.scanner l.fn.taker l.taker;
      ready : g.T.Taker.ready l.taker;
      stays : Stays disk l.fn.disk l.disk;
      still : disk.moment l.disk ≡ disk.moment l.fn.disk;
      later : disk.faults l.fn.disk ≤ disk.faults l.disk;
    }

abbrev pub decreases-pieces : goal.decreases-pieces
decreases-pieces g l = l.size - l.at
