use Rattle.store_history.proofs.Finds.{find_adds}
use Rattle.store_history.proofs.finding.find.Goals as goal

pub returns-clause-adds : goal.returns-clause-adds
returns-clause-adds g c made =
    find_adds g.D.Disk made c.args.store.now c.find.new.self c.args.r.now c.find.result c.find.ensures.none
    c.find.ensures.placed c.find.ensures.bytes c.find.ensures.own
    c.find.ensures.damaged c.find.ensures.stays c.find.ensures.failed c.find.ensures.later
