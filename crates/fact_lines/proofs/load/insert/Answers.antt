use Rattle.std.proofs.Common.{sym, subst}
use Rattle.schema_fact.specs.Validity.{IsValid}
use Rattle.fact_lines.proofs.Loading.{valid_at}
use Rattle.fact_lines.proofs.load.insert.Goals as goal

pub insert-requires-clause-valid : goal.insert-requires-clause-valid
insert-requires-clause-valid g c =
    subst IsValid (sym c.in_ok-fact.ensures) (valid_at c.args.facts.now c.args.i c.at.result.now c.requires.valid
    c.requires.within c.at.ensures)
