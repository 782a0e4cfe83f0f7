use Rattle.pack_store.proofs.Moments.{keeps_append, keeps_no_new, keeps_then, on_ok}
use Rattle.pack_store.proofs.Appending.{synced, stands_clean, stands_row, told_added, rows_append, rows_no_new, rows_then}
use Rattle.pack_store.proofs.adding.add_record.Goals as goal

pub returns-in_err-append-clause-any_moment : goal.returns-in_err-append-clause-any_moment
returns-in_err-append-clause-any_moment g c =
    let disk = g.D.Disk in
    keeps_append disk g.met.D.Disk.counts_now g.met.D.Disk.only_now _ _ c.args.pack c.append.ensures.time c.append.ensures.crash c.requires.clean

pub returns-in_err-append-clause-rows : goal.returns-in_err-append-clause-rows
returns-in_err-append-clause-rows g c =
    let disk = g.D.Disk in
    rows_append disk g.met.D.Disk.reads g.met.D.Disk.tells _ _ c.args.pack c.append.ensures.crash c.requires.clean

pub returns-clause-any_moment : goal.returns-clause-any_moment
returns-clause-any_moment g c =
    let disk = g.D.Disk in
    keeps_then disk g.met.D.Disk.counts_now g.met.D.Disk.only_now _ _ _
    (keeps_append disk g.met.D.Disk.counts_now g.met.D.Disk.only_now _ _ c.args.pack c.append.ensures.time c.append.ensures.crash c.requires.clean)
    (keeps_no_new disk g.met.D.Disk.counts_now g.met.D.Disk.only_now _ _ c.sync.ensures.time c.sync.ensures.crash)

pub returns-clause-rows : goal.returns-clause-rows
returns-clause-rows g c =
    let disk = g.D.Disk in
    rows_then disk g.met.D.Disk.reads g.met.D.Disk.tells _ _ _ _ c.append.ensures.told
    (rows_append disk g.met.D.Disk.reads g.met.D.Disk.tells _ _ c.args.pack c.append.ensures.crash c.requires.clean)
    (rows_no_new disk g.met.D.Disk.reads g.met.D.Disk.tells _ _ c.sync.ensures.crash)

pub returns-clause-added : goal.returns-clause-added
returns-clause-added g c =
    let disk = g.D.Disk in
    on_ok c.sync.result (λ durable. told_added disk g.met.D.Disk.reads g.met.D.Disk.tells c.args.disk.now c.append.new.self c.sync.new.self c.args.pack c.args.size c.args.r.now c.args.bytes.now c.requires.long
    c.append.ensures.told (rw (← c.requires.text) c.in_ok-append.ensures.appended) c.sync.ensures.told)
    c.sync.ensures.durable

pub returns-clause-clean : goal.returns-clause-clean
returns-clause-clean g c =
    let disk = g.D.Disk in
    on_ok c.sync.result (λ durable. stands_clean (disk.images c.sync.new.self) c.args.pack c.args.size c.args.r.now c.args.bytes.now c.requires.own c.requires.small
    (synced disk g.met.D.Disk.reads g.met.D.Disk.tells c.args.disk.now c.append.new.self c.sync.new.self c.args.pack c.args.size c.args.r.now c.args.bytes.now c.requires.clean c.requires.long
    (rw (← c.requires.text) c.in_ok-append.ensures.appended) c.sync.ensures.told durable))
    c.sync.ensures.durable

pub returns-clause-row : goal.returns-clause-row
returns-clause-row g c =
    let disk = g.D.Disk in
    on_ok c.sync.result (λ durable. stands_row disk g.met.D.Disk.reads g.met.D.Disk.tells c.sync.new.self c.args.pack c.args.size c.args.r.now c.args.bytes.now c.requires.own c.requires.small
    (synced disk g.met.D.Disk.reads g.met.D.Disk.tells c.args.disk.now c.append.new.self c.sync.new.self c.args.pack c.args.size c.args.r.now c.args.bytes.now c.requires.clean c.requires.long
    (rw (← c.requires.text) c.in_ok-append.ensures.appended) c.sync.ensures.told durable))
    c.sync.ensures.durable
