use Rattle.salvage_scan.proofs.Arriving.{arrivals_are_firsts}
use Rattle.salvage_scan.proofs.laws.arrival_rules.Goals as goal

pub returns : goal.returns
returns c = arrivals_are_firsts
