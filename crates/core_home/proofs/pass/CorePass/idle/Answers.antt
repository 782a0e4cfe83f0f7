use Rattle.std.proofs.Common.{◌∙◌, arith}
use Rattle.core_home.proofs.Turning.{kept_later}
use Rattle.core_home.proofs.Stepping.{idles}
use Rattle.core_home.proofs.pass.CorePass.idle.Goals as goal

pub invariant_of-self-2 : goal.invariant_of-self-2
invariant_of-self-2 g c = record {
  kept = kept_later c.args.self.now.puts.items c.args.self.now.inserts.items c.args.self.now.core.state c.args.self.now.stores c.in-Some.stores c.args.self.now.indexes c.in-Some-last_of.indexes
      (let e = c.in-Some.ensures.last in omega (arith, e)) (let e = c.in-Some-last_of.ensures.last in omega (arith, e)) c.args.self.now.kept;
}

pub returns-clause-indexes : goal.returns-clause-indexes
returns-clause-indexes g c =
    idles c.args.self.now.core.state c.args.self.now.puts.items c.args.self.now.inserts.items c.args.self.now.stores c.args.self.now.indexes c.args.self.now.kept (g.V.Verifier.accepts c.args.self.now.core.keys)
    c.args.arrivals c.in-Some.stores c.in-Some-last_of.indexes c.args.self.now.spent c.last_of-2.new.spent c.requires.arrivals c.in-Some.ensures.last c.in-Some-last_of.ensures.last
    (c.in-Some-last_of.ensures.stays ∙ c.in-Some.ensures.stays) c.requires.none
