use Rattle.std.proofs.Common.{ap, rules}
use Rattle.core_home.specs.Keeping.{store_of, index_of}
use Rattle.core_home.proofs.Settling.{settle_kept, settle_done, settle_refused, settle_spent}
use Rattle.core_home.proofs.pass.CorePass.settle.Goals as goal

pub invariant_of-self-2 : goal.invariant_of-self-2
invariant_of-self-2 g c = record {
  kept = settle_kept c.args.self.now.core.state c.args.self.now.puts.items c.args.self.now.inserts.items c.settle.new.inserts.items c.args.self.now.stores c.args.self.now.indexes c.in-Some.last c.lacking-count.result c.settle.new.core.state
      c.args.self.now.kept c.each_is_sound.ensures c.lacking-count.ensures c.in-Some.ensures.last (search rules) (search rules) c.settle.ensures.sound;
}

pub returns-clause-settled : goal.returns-clause-settled
returns-clause-settled g c =
    settle_done c.args.self.now.core.state c.args.self.now.puts.items c.args.self.now.inserts.items c.settle.new.inserts.items c.args.self.now.stores c.args.self.now.indexes c.in-Some.last c.lacking-count.result c.settle.new.core.state
    c.args.self.now.kept c.each_is_sound.ensures c.lacking-count.ensures c.in-Some.ensures.last (search rules) (search rules)
    (g.V.Verifier.accepts c.args.self.now.core.keys) (g.V.Verifier.accepts c.settle.new.core.keys) c.args.self.now.spent c.last_of.new.spent (ap g.V.Verifier.accepts c.settle.ensures.keys) c.in-Some.ensures.stays

pub returns-in_default-clause-settled : goal.returns-in_default-clause-settled
returns-in_default-clause-settled g c =
    settle_spent (g.V.Verifier.accepts c.args.self.now.core.keys) (store_of c.args.self.now.puts.items c.args.self.now.core.state.store) c.args.self.now.stores
    (index_of c.args.self.now.core.state.store c.args.self.now.inserts.items c.args.self.now.core.state.indexed) c.args.self.now.indexes c.args.self.now.spent c.last_of.new.spent c.in_default.ensures.spent

pub returns-then-is_err-clause-settled : goal.returns-then-is_err-clause-settled
returns-then-is_err-clause-settled g c =
    settle_refused (g.V.Verifier.accepts c.args.self.now.core.keys) (g.V.Verifier.accepts c.settle.new.core.keys) c.args.self.now.puts.items c.args.self.now.inserts.items c.settle.new.inserts.items
    c.args.self.now.core.state c.settle.new.core.state c.args.self.now.stores c.args.self.now.indexes c.args.self.now.spent c.last_of.new.spent
    (search rules) (search rules) (ap g.V.Verifier.accepts c.settle.ensures.keys) c.in-Some.ensures.stays
