use Rattle.std.proofs.Common.{refl, inl}
use Rattle.pack_disk.specs.declared.history.Call.TheVariants.{Append}
use Rattle.pack_disk.proofs.Steps.{on_ok, runs, same_history, does_counted, append_told, append_appends, append_crashes}
use Rattle.pack_disk.proofs.memory.MemDiskDisk.append.Goals as goal

pub returns-in_err-begin-clause-crash : goal.returns-in_err-begin-clause-crash
returns-in_err-begin-clause-crash c = append_crashes _ _ c.args.pack c.args.bytes.now (inl (same_history c.self.view_is))

pub returns-clause-told : goal.returns-clause-told
returns-clause-told c =
    let does = does_counted c.append-done.result c.counted.result (Append c.args.pack c.args.bytes.now) _ _ _ _ _ _ (same_history c.self.view_is) c.append-done.ensures c.counted.ensures.ok c.counted.ensures.err c.counted.ensures.same in
    append_told _ _ c.args.pack c.args.bytes.now (runs c.counted.result _ _ _ does) (c.requires _ refl)

pub returns-clause-appended : goal.returns-clause-appended
returns-clause-appended c =
    let does = does_counted c.append-done.result c.counted.result (Append c.args.pack c.args.bytes.now) _ _ _ _ _ _ (same_history c.self.view_is) c.append-done.ensures c.counted.ensures.ok c.counted.ensures.err c.counted.ensures.same in
    on_ok c.counted.result (λ more had at. append_appends _ _ c.args.pack c.args.bytes.now more had at) does.ok

pub returns-clause-crash : goal.returns-clause-crash
returns-clause-crash c =
    let does = does_counted c.append-done.result c.counted.result (Append c.args.pack c.args.bytes.now) _ _ _ _ _ _ (same_history c.self.view_is) c.append-done.ensures c.counted.ensures.ok c.counted.ensures.err c.counted.ensures.same in
    append_crashes _ _ c.args.pack c.args.bytes.now (runs c.counted.result _ _ _ does)
