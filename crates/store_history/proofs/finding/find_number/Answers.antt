use Rattle.store_history.proofs.Finds.{find_number_adds}
use Rattle.store_history.proofs.finding.find_number.Goals as goal

pub returns-clause-adds : goal.returns-clause-adds
returns-clause-adds g c made =
    find_number_adds g.D.Disk made c.args.store.now c.find_number.new.self c.args.number c.find_number.result
    c.find_number.ensures.none.0 c.find_number.ensures.placed
    c.find_number.ensures.bytes c.find_number.ensures.own c.find_number.ensures.damaged c.find_number.ensures.stays
    c.find_number.ensures.failed c.find_number.ensures.later
