use Rattle.std.proofs.Common.{sym, subst}
use Rattle.schema_fact.specs.Validity.{IsValid}
use Rattle.index_rows.specs.Loose.{LooseRow}
use Rattle.snap_copies.proofs.copies.IndexCopyAbsorbAddition.absorb_first.Goals as goal

pub place-requires-clause-valid : goal.place-requires-clause-valid
place-requires-clause-valid g c = subst (λ (m : LooseRow). IsValid m.2) (sym c.in-Ok.ensures) c.args.operation.now.prepared.valid
