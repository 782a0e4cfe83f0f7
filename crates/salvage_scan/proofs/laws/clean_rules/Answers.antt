use Rattle.salvage_scan.proofs.Packs.{clean_packs}
use Rattle.salvage_scan.proofs.laws.clean_rules.Goals as goal

pub returns : goal.returns
returns c = clean_packs
