use Rattle.std.proofs.Common.{subst}
use Rattle.index_rows.specs.Holders.{AllCounted}
use Rattle.index_rows.proofs.holder_rows.HolderRows.are_counted.Goals as goal

pub returns : goal.returns
returns c = subst AllCounted c.self.view_is c.self.invariant.1
