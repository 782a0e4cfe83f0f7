use Rattle.snap_index.specs.SnapSeats.{IsOfSnap}
use Rattle.seat_tests.proofs.rows.insert_all.Given as goal

abbrev pub invariant-blobs : goal.invariant-blobs
invariant-blobs g l = IsOfSnap l.index l.seat
