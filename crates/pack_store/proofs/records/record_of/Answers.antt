use Rattle.std.proofs.Common.{rules}
use Rattle.pack_format.specs.Header.{record_under}
use Rattle.pack_store.proofs.records.record_of.Goals as goal

pub returns : goal.returns
unfolding record_under
returns c = search rules
