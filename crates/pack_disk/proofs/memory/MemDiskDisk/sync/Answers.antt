use Rattle.std.proofs.Common.{refl, ap, Some, ◌∙◌}
use Rattle.std.specs.FinMap.{get}
use Rattle.pack_disk.specs.declared.history.Call.TheVariants.{Sync}
use Rattle.pack_disk.proofs.Steps.{on_ok, runs, same_history, does_counted, some_same, sync_told, sync_crashes, sync_stands}
use Rattle.pack_disk.proofs.memory.MemDiskDisk.sync.Goals as goal

pub returns-clause-durable : goal.returns-clause-durable
returns-clause-durable c =
    let does = does_counted c.sync-done.result c.counted.result (Sync c.args.pack) _ _ _ _ _ _ (same_history c.self.view_is) c.sync-done.ensures c.counted.ensures.ok c.counted.ensures.err c.counted.ensures.same in
    on_ok c.counted.result (λ more held is image i. sync_stands _ _ c.args.pack (c.requires _ refl) more image i ∙ ap (λ m. get m c.args.pack) (some_same _ _ is)) does.ok

pub returns-clause-told : goal.returns-clause-told
returns-clause-told c =
    let does = does_counted c.sync-done.result c.counted.result (Sync c.args.pack) _ _ _ _ _ _ (same_history c.self.view_is) c.sync-done.ensures c.counted.ensures.ok c.counted.ensures.err c.counted.ensures.same in
    ap Some (sync_told _ _ c.args.pack (runs c.counted.result _ _ _ does))

pub returns-clause-crash : goal.returns-clause-crash
returns-clause-crash c =
    let does = does_counted c.sync-done.result c.counted.result (Sync c.args.pack) _ _ _ _ _ _ (same_history c.self.view_is) c.sync-done.ensures c.counted.ensures.ok c.counted.ensures.err c.counted.ensures.same in
    sync_crashes _ _ c.args.pack (runs c.counted.result _ _ _ does)
