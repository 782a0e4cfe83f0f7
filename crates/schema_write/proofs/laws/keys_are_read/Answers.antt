use Rattle.schema_write.proofs.Objects.{key_read}
use Rattle.schema_write.proofs.laws.keys_are_read.Goals as goal

pub returns : goal.returns
returns c = key_read
