use Rattle.store_history.proofs.Puts.{put_adds}
use Rattle.store_history.proofs.putting.put.Goals as goal

pub returns-clause-adds : goal.returns-clause-adds
returns-clause-adds g c made =
    put_adds g.D.Disk made c.args.store.now c.put_own.new.self c.args.r.now c.args.bytes.now c.put_own.result
    c.requires.own c.put_own.ensures.answer c.put_own.ensures.leaves
    c.put_own.ensures.failed c.put_own.ensures.later
