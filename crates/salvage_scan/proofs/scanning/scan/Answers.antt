use Rattle.std.proofs.Common.{sym, subst}
use Rattle.std.specs.List.{All}
use Rattle.salvage_scan.specs.declared.found.Clean.TheVariants as clean
use Rattle.salvage_scan.specs.Scan.{LiesIn}
use Rattle.salvage_scan.proofs.Telling.{told_whole}
use Rattle.salvage_scan.proofs.Slices.{places_lie}
use Rattle.salvage_scan.proofs.scanning.scan.Goals as goal

pub returns-clause-found : goal.returns-clause-found
returns-clause-found c = (told_whole 0 clean.Yes c.in_ok-told.told.clean c.args.pack.now c.in_ok-told.told.found _ _ c.in_ok-told.ensures.leads c.in_ok-told.ensures.waits).0

pub returns-clause-clean : goal.returns-clause-clean
returns-clause-clean c = (told_whole 0 clean.Yes c.in_ok-told.told.clean c.args.pack.now c.in_ok-told.told.found _ _ c.in_ok-told.ensures.leads c.in_ok-told.ensures.waits).1

pub returns-clause-within : goal.returns-clause-within
returns-clause-within c = subst (All (LiesIn c.args.pack.now)) (sym (returns-clause-found c)) (places_lie c.args.pack.now)
