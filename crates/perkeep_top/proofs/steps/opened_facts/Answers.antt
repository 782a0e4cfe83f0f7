use Rattle.perkeep_top.proofs.Searching.{stored}
use Rattle.perkeep_top.proofs.steps.opened_facts.Goals as goal

pub returns-in-Ok-clause-facts : goal.returns-in-Ok-clause-facts
returns-in-Ok-clause-facts g c = stored (g.D.Disk.packs c.args.disk) _ _ c.in-Ok.ensures.opened.arrived c.in-Ok.ensures.facts
