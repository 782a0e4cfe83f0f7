use Rattle.store_history.proofs.Growing.{represents_end}
use Rattle.turn_store.proofs.store.jobs.SizesStoreJob.go.Goals as goal

pub returns-clause-tells : goal.returns-clause-tells
returns-clause-tells g c made h turn tells before = (
  represents_end g.D.Disk made c.args.store.now h tells,
  λ asked is.
      c.stat.ensures.adds made asked is h tells,
)
