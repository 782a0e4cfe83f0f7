use Rattle.schema_write.proofs.ClaimsRead.{permanode_read, claim_read}
use Rattle.schema_write.proofs.laws.signed_are_read.Goals as goal

pub returns-clause-permanodes : goal.returns-clause-permanodes
returns-clause-permanodes c = permanode_read

pub returns-clause-claims : goal.returns-clause-claims
returns-clause-claims c = claim_read
