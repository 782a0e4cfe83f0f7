use Rattle.std.proofs.Common.{◌+◌, ◌∙◌, ap, refl, rules}
use Rattle.core_home.proofs.Stepping.{refused_kept, take_refused, next_kept, next_done}
use Rattle.core_home.proofs.pass.CorePass.index.Goals as goal

pub invariant_of-self-then-is_err : goal.invariant_of-self-then-is_err
invariant_of-self-then-is_err g c = record {
  kept = refused_kept c.args.self.now.core.state c.args.self.now.puts.items c.args.self.now.inserts.items c.args.self.now.stores c.args.self.now.indexes c.args.self.now.kept (g.V.Verifier.accepts c.args.self.now.core.keys) c.insert.new.inserts.items c.insert.new.core.state (search rules) (search rules);
}

pub returns-then-is_err-clause-indexes : goal.returns-then-is_err-clause-indexes
returns-then-is_err-clause-indexes g c =
    take_refused c.args.self.now.core.state c.args.self.now.puts.items c.args.self.now.inserts.items c.args.self.now.stores c.args.self.now.indexes c.args.self.now.kept (g.V.Verifier.accepts c.args.self.now.core.keys) c.insert.new.inserts.items c.insert.new.core.state
    (c.args.self.now.stores + 1) (c.args.self.now.indexes + 1) (g.V.Verifier.accepts c.insert.new.core.keys) c.args.self.now.spent c.last_of-2.new.spent
    (search rules) (search rules) (ap g.V.Verifier.accepts c.insert.ensures.keys) refl refl (c.in-Some-last_of.ensures.stays ∙ c.in-Some.ensures.stays)

pub invariant_of-self-2 : goal.invariant_of-self-2
invariant_of-self-2 g c = record {
  kept = next_kept c.args.self.now.core.state c.args.self.now.puts.items c.args.self.now.inserts.items c.args.self.now.stores c.args.self.now.indexes c.args.self.now.kept (g.V.Verifier.accepts c.args.self.now.core.keys)
      c.each_is_sound.ensures c.args.number c.requires c.insert.new.inserts.items c.insert.new.core.state (c.args.self.now.indexes + 1) c.in-Some.stores c.in-Some-last_of.indexes
      refl c.in-Some.ensures.last c.in-Some-last_of.ensures.last (search rules) (search rules) c.insert.ensures.sound;
}

pub returns-clause-indexes : goal.returns-clause-indexes
returns-clause-indexes g c =
    next_done c.args.self.now.core.state c.args.self.now.puts.items c.args.self.now.inserts.items c.args.self.now.stores c.args.self.now.indexes c.args.self.now.kept (g.V.Verifier.accepts c.args.self.now.core.keys)
    c.each_is_sound.ensures c.args.number c.requires c.insert.new.inserts.items c.insert.new.core.state (c.args.self.now.indexes + 1) c.in-Some.stores c.in-Some-last_of.indexes
    refl c.in-Some.ensures.last c.in-Some-last_of.ensures.last (search rules) (search rules)
    (g.V.Verifier.accepts c.insert.new.core.keys) c.args.self.now.spent c.last_of-2.new.spent (ap g.V.Verifier.accepts c.insert.ensures.keys)
    (c.in-Some-last_of.ensures.stays ∙ c.in-Some.ensures.stays)
