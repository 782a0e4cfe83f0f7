use Rattle.std.proofs.Common.{◌≡◌, map, drop}
use Rattle.salvage_scan.specs.Pieces.{kept_finding}
use Rattle.pack_store.specs.Opening.{IsPlaced, row_of, take_rows}
use Rattle.pack_store.specs.Onlooking.{Saw, new_blobs}
use Rattle.pack_store.proofs.arrivals.take_findings.Given as goal

-- what is left to take up gives the rows of all, and what is left to show is shown behind what was
abbrev pub invariant-loop-f : goal.invariant-loop-f
invariant-loop-f g l =
    let left = map (kept_finding l.scanner) (drop l.f-index l.found) in
    let all = map (kept_finding l.scanner) l.found in
    record {
      placed : IsPlaced l.places l.rows.items;
      taken : take_rows l.rows.items (map (row_of l.pack) left) ≡ take_rows l.fn.rows.items (map (row_of l.pack) all);
      saw : (now : _) → Saw g.L.Onlooker l.onlooker now (new_blobs l.rows.items l.pack left) → Saw g.L.Onlooker l.fn.onlooker now (new_blobs l.fn.rows.items l.pack all);
    }
