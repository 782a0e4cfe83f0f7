use Rattle.core_home.proofs.Answering.{searches}
use Rattle.core_home.proofs.pass.CorePass.search.Goals as goal

pub returns : goal.returns
returns g c = searches c.args.self.now.core.state c.args.self.now.puts.items c.args.self.now.inserts.items c.args.self.now.stores c.args.self.now.indexes c.args.self.now.kept (g.V.Verifier.accepts c.args.self.now.core.keys) c.args.self.now.spent c.args.query.now c.search.result c.each_is_sound.ensures c.search.ensures
