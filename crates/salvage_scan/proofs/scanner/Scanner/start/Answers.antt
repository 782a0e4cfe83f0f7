use Rattle.std.proofs.Common.{◌∙◌, length, drop, ap, arith}
use Rattle.salvage_scan.specs.Pieces.{is_open}
use Rattle.salvage_scan.proofs.Open.{nothing-open}
use Rattle.salvage_scan.proofs.scanner.Scanner.start.Goals as goal

pub invariant_of-result : goal.invariant_of-result
invariant_of-result c = record {
  waits = ap (λ l. is_open (drop 0 l)) c.new.ensures.items ∙ nothing-open;
  within = omega arith;
  fits = omega (arith, ap length c.new.ensures.items);
}
