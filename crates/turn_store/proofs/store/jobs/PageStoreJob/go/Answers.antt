use Rattle.store_history.proofs.Growing.{represents_end}
use Rattle.turn_store.proofs.store.jobs.PageStoreJob.go.Goals as goal

pub returns-clause-tells : goal.returns-clause-tells
returns-clause-tells g c made h turn tells before =
    (represents_end g.D.Disk made c.args.store.now h tells, c.list.ensures.adds made h tells)
