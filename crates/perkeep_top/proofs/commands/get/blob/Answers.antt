use Rattle.std.proofs.Common.{◌∙◌, ap, IfSome, Ok, refl, subst}
use Rattle.blobref.specs.Blobref.{IsOwnRef}
use Rattle.perkeep_top.proofs.Arrived.{bytes_stand}
use Rattle.perkeep_top.proofs.commands.get.blob.Goals as goal

pub returns-in-Ok-Some-clause-found : goal.returns-in-Ok-Some-clause-found
returns-in-Ok-Some-clause-found g c = (
  subst (λ o. IfSome o (IsOwnRef c.args.r.now)) c.in-Ok-Some.field-0-is c.in-Ok-Some.ensures.named,
  λ held tells. bytes_stand (g.D.Disk.packs c.args.store.now.disk) c.args.store.now.rows c.requires.arrived c.args.r.now c.in-Ok-Some.field-0 c.in-Ok-Some.ensures.bytes held tells ∙ c.in-Ok-Some.field-0-is,
)

pub returns-in-Ok-None-clause-refused : goal.returns-in-Ok-None-clause-refused
returns-in-Ok-None-clause-refused g c = record {
  same = refl;
  lacks = c.in-Ok-None.ensures.none.0 (ap Ok c.in-Ok-None.field-0-is);
  absent = λ held tells. bytes_stand (g.D.Disk.packs c.args.store.now.disk) c.args.store.now.rows c.requires.arrived c.args.r.now c.in-Ok-None.field-0 c.in-Ok-None.ensures.bytes held tells ∙ c.in-Ok-None.field-0-is;
}
