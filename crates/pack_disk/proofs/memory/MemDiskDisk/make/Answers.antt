use Rattle.std.proofs.Common.{refl, ap, inl, ◌∙◌}
use Rattle.pack_disk.specs.declared.history.Call.TheVariants.{Make}
use Rattle.pack_disk.specs.Past.{told}
use Rattle.pack_disk.proofs.Steps.{on_ok, runs, same_history, does_counted, make_told, make_crashes, told-push}
use Rattle.pack_disk.proofs.memory.MemDiskDisk.make.Goals as goal

pub returns-in_err-begin-clause-crash : goal.returns-in_err-begin-clause-crash
returns-in_err-begin-clause-crash c = make_crashes _ _ c.args.pack (inl (same_history c.self.view_is)) (c.requires.absent _ refl)

pub returns-clause-told : goal.returns-clause-told
returns-clause-told c =
    let does = does_counted c.make-done.result c.counted.result (Make c.args.pack) _ _ _ _ _ _ (same_history c.self.view_is) c.make-done.ensures c.counted.ensures.ok c.counted.ensures.err c.counted.ensures.same in
    make_told _ _ c.args.pack (runs c.counted.result _ _ _ does) (c.requires.absent _ refl)

pub returns-clause-made : goal.returns-clause-made
returns-clause-made c =
    let does = does_counted c.make-done.result c.counted.result (Make c.args.pack) _ _ _ _ _ _ (same_history c.self.view_is) c.make-done.ensures c.counted.ensures.ok c.counted.ensures.err c.counted.ensures.same in
    on_ok c.counted.result (λ more. ap told more ∙ told-push c.args.self.now.history (Make c.args.pack)) does.ok

pub returns-clause-crash : goal.returns-clause-crash
returns-clause-crash c =
    let does = does_counted c.make-done.result c.counted.result (Make c.args.pack) _ _ _ _ _ _ (same_history c.self.view_is) c.make-done.ensures c.counted.ensures.ok c.counted.ensures.err c.counted.ensures.same in
    make_crashes _ _ c.args.pack (runs c.counted.result _ _ _ does) (c.requires.absent _ refl)
