use Rattle.std.proofs.Common.{Option, sym, subst, ◌∙◌}
use Rattle.std.specs.Option.{ForSome, option_map}
use Rattle.pack_disk.specs.Packs.{Packs}
use Rattle.pack_store.specs.RunLaws.{stays_then}
use Rattle.pack_store.specs.StoreShelf.{map_of}
use Rattle.share_server.specs.Serving.{Ends, IsListing}
use Rattle.share_server.proofs.Ending.{ends_since, open_fault}
use Rattle.share_server.proofs.Listing.{listing}
use Rattle.share_server.proofs.serving.serve_shares.Goals as goal

pub serve_opened-requires-clause-facts : goal.serve_opened-requires-clause-facts
serve_opened-requires-clause-facts g c =
    let e = c.in-Ok.ensures in
    let rows = c.in-Ok.opened.0.rows in
    let facts = c.in-Ok.opened.1 in
    subst (λ (told : Option Packs). ForSome (option_map (map_of rows) told) (IsListing facts)) (sym e.stays.told)
    (listing (g.D.Disk.packs c.args.disk) rows facts e.opened.arrived e.facts)

pub returns-in-Ok-clause-ends : goal.returns-in-Ok-clause-ends
returns-in-Ok-clause-ends g c =
    let e = c.in-Ok.ensures in
    let store = c.in-Ok.opened.0 in
    ends_since (g.D.Disk.packs c.args.disk) (g.D.Disk.packs store.disk) (λ none. sym e.stays.told ∙ none)
    c.args.connections (g.L.Listener.accepted c.args.listener.now)
    (g.L.Listener.accepted c.serve_opened.new.listener) (g.L.Listener.faults c.args.listener.now)
    (g.L.Listener.faults c.serve_opened.new.listener) (g.D.Disk.faults c.args.disk) (g.D.Disk.faults store.disk)
    (g.D.Disk.faults c.serve_opened.result.0) c.serve_opened.result.1 e.later c.serve_opened.ensures.ends

pub returns-in-Ok-clause-stays : goal.returns-in-Ok-clause-stays
returns-in-Ok-clause-stays g c =
    stays_then g.D.Disk g.met.D.Disk.counts_now g.met.D.Disk.only_now c.args.disk c.in-Ok.opened.0.disk
    c.serve_opened.result.0 c.in-Ok.ensures.stays c.serve_opened.ensures.stays

pub returns-in-Err-clause-ends : goal.returns-in-Err-clause-ends
returns-in-Err-clause-ends g c =
    let accepted = g.L.Listener.accepted c.args.listener.now in
    let faults = g.L.Listener.faults c.args.listener.now in
    let told = g.D.Disk.packs c.args.disk in
    let before = g.D.Disk.faults c.args.disk in
    let now = g.D.Disk.faults c.in-Err.end.0 in
    subst (Ends c.args.connections accepted accepted faults faults told before now) (sym c.from.ensures)
    (open_fault told before now accepted faults c.args.connections c.in-Err.end.1 c.in-Err.ensures.failed)
