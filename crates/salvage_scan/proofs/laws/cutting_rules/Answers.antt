use Rattle.salvage_scan.proofs.Cutting.{cuttings}
use Rattle.salvage_scan.proofs.laws.cutting_rules.Goals as goal

pub returns : goal.returns
returns c = cuttings
