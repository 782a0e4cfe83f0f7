use Rattle.std.proofs.Common.{◌≤◌, refl, sym, subst, arith}
use Rattle.pack_disk.specs.Runs.{Stays}
use Rattle.pack_store.specs.StoreShelf.{map_of}
use Rattle.share_server.specs.Serving.{Ends}
use Rattle.share_server.proofs.Ending.{ends_since, none_told}
use Rattle.share_server.proofs.serving.serve_opened.Goals as goal

pub returns-clause-ends : goal.returns-clause-ends
returns-clause-ends g c =
    let disk = c.args.store.disk in
    let told = g.D.Disk.packs disk in
    let faults = g.D.Disk.faults disk in
    let le : faults ≤ faults = omega arith in
    subst (λ (d : g.row.D.Denot). Ends c.args.connections (g.L.Listener.accepted c.args.listener.now)
    (g.L.Listener.accepted c.serve_shelf-status.new.listener) (g.L.Listener.faults c.args.listener.now)
    (g.L.Listener.faults c.serve_shelf-status.new.listener) told faults (g.D.Disk.faults d) c.serve_shelf-status.result)
    (sym c.give_back.ensures)
    (ends_since told _ (none_told (map_of c.args.store.rows) told) c.args.connections
    (g.L.Listener.accepted c.args.listener.now) (g.L.Listener.accepted c.serve_shelf-status.new.listener)
    (g.L.Listener.faults c.args.listener.now) (g.L.Listener.faults c.serve_shelf-status.new.listener) faults faults
    (g.D.Disk.faults c.serve_shelf-status.new.shelf.disk) c.serve_shelf-status.result le
    c.serve_shelf-status.ensures.ends)

pub returns-clause-stays : goal.returns-clause-stays
returns-clause-stays g c =
    subst (λ (d : g.row.D.Denot). Stays g.D.Disk c.args.store.disk d) (sym c.give_back.ensures)
    (c.serve_shelf-status.ensures.read.nothing.still refl)

pub returns-clause-later : goal.returns-clause-later
returns-clause-later g c =
    subst (λ (d : g.row.D.Denot). g.D.Disk.faults c.args.store.disk ≤ g.D.Disk.faults d) (sym c.give_back.ensures)
    c.serve_shelf-status.ensures.read.later
