use Rattle.std.proofs.Common.{◌∙◌, length, ap, arith, length-append}
use Rattle.salvage_scan.specs.Pieces.{is_open, fed}
use Rattle.salvage_scan.proofs.Open.{nothing-open}
use Rattle.salvage_scan.proofs.Telling.{waits_open}
use Rattle.salvage_scan.proofs.scanner.Scanner.step.Goals as goal

pub invariant_of-self : goal.invariant_of-self
invariant_of-self c = record {
  waits = waits_open c.args.last _ c.in-Ok.ensures.waits;
  within = c.in-Ok.ensures.used;
  fits = omega (arith, c.requires, ap fed c.self.view_is, ap length c.in-Ok.ensures.kept, length-append c.drop_front.new.bytes.items c.args.piece.now, ap length c.drop_front.ensures);
}

pub invariant_of-self-in-Err : goal.invariant_of-self-in-Err
invariant_of-self-in-Err c = record {
  waits = ap is_open c.clear.ensures.items ∙ nothing-open;
  within = omega arith;
  fits = omega (arith, ap length c.clear.ensures.items, c.self.invariant.fits, c.self.invariant.within);
}
