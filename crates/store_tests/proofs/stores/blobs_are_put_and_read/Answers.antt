use Rattle.std.proofs.Common.{[]}
use Rattle.blobref.proofs.Digests.{IsOwnRef-named}
use Rattle.store_tests.proofs.stores.blobs_are_put_and_read.Goals as goal

pub put_own-requires : goal.put_own-requires
put_own-requires g c = record { own = IsOwnRef-named c.of.result [] c.of.ensures }
