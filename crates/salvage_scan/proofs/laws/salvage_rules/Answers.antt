use Rattle.salvage_scan.proofs.Cases.{salvage_is_one}
use Rattle.salvage_scan.proofs.laws.salvage_rules.Goals as goal

pub returns : goal.returns
returns c = salvage_is_one
