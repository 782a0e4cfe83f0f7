use Rattle.std.proofs.Common.{ap, length}
use Rattle.core_home.proofs.Answering.{counts}
use Rattle.core_home.proofs.pass.CorePass.seen.Goals as goal

pub returns : goal.returns
returns g c = counts c.args.self.now.core.state c.args.self.now.puts.items c.args.self.now.inserts.items c.args.self.now.stores c.args.self.now.indexes c.args.self.now.kept (g.V.Verifier.accepts c.args.self.now.core.keys) c.args.self.now.spent (length c.blobs.result.now) (length c.indexed.result.now) (ap length c.blobs.ensures) (ap length c.indexed.ensures)
