use Rattle.pack_store.proofs.Moments.{keeps_then, on_ok}
use Rattle.pack_store.proofs.Appending.{tells_then, tells_both, adds_then, rows_then}
use Rattle.pack_store.proofs.adding.write_blob.Goals as goal

pub returns-clause-added : goal.returns-clause-added
returns-clause-added g c = on_ok c.add_record.result
    (λ added. tells_then _ _ _ _ _ _ (λ first before now ready more. adds_then c.args.end.pack c.args.r.now c.args.bytes.now first before now ready.0 ready.1 more)
    (tells_both _ _ _ _ c.ready_pack.ensures.told c.in_ok-ready_pack.ensures.same) added)
    c.add_record.ensures.added

pub returns-clause-rows : goal.returns-clause-rows
returns-clause-rows g c =
    let disk = g.D.Disk in
    rows_then disk g.met.D.Disk.reads g.met.D.Disk.tells _ _ _ _ c.ready_pack.ensures.told c.ready_pack.ensures.rows c.add_record.ensures.rows

pub returns-clause-any_moment : goal.returns-clause-any_moment
returns-clause-any_moment g c =
    let disk = g.D.Disk in
    keeps_then disk g.met.D.Disk.counts_now g.met.D.Disk.only_now _ _ _ c.ready_pack.ensures.any_moment c.add_record.ensures.any_moment
