use Rattle.std.proofs.Common.{sym, subst}
use Rattle.schema_fact.specs.Validity.{IsValidKind}
use Rattle.schema_json.proofs.ValidFacts.{IsValidKind-kind_of}
use Rattle.schema_json.proofs.reading.fact.Goals as goal

pub returns-clause-valid : goal.returns-clause-valid
returns-clause-valid c = subst IsValidKind (sym c.in_ok-kind.ensures) (IsValidKind-kind_of c.args.bytes.now)
