use Rattle.std.proofs.Common.{ap, inl}
use Rattle.core_home.proofs.Uploads.{upload_kept, upload_turn}
use Rattle.core_home.proofs.pass.CorePass.upload.Goals as goal

pub invariant_of-self-2 : goal.invariant_of-self-2
invariant_of-self-2 g c = record {
  kept = upload_kept c.args.said.now c.args.bytes.now c.in-Some.turn c.args.self.now.puts.items c.args.self.now.inserts.items c.args.self.now.core.state c.args.self.now.stores c.args.self.now.indexes
      c.put-answer.result c.args.self.now.kept c.each_is_sound.ensures c.put-answer.ensures.says c.put-answer.new.puts.items c.put-answer.new.core.state
      c.put-answer.ensures.puts c.put-answer.ensures.core c.in-Some.ensures.last c.put-answer.ensures.sound;
}

pub returns-clause-turn : goal.returns-clause-turn
returns-clause-turn g c =
    inl (upload_turn c.args.said.now c.args.bytes.now c.in-Some.turn c.args.self.now.puts.items c.args.self.now.inserts.items c.args.self.now.core.state c.args.self.now.stores c.args.self.now.indexes
    c.put-answer.result c.args.self.now.kept c.each_is_sound.ensures c.put-answer.ensures.says c.put-answer.new.puts.items c.put-answer.new.core.state
    c.put-answer.ensures.puts c.put-answer.ensures.core c.in-Some.ensures.last
    (g.V.Verifier.accepts c.args.self.now.core.keys) (g.V.Verifier.accepts c.put-answer.new.core.keys) c.args.self.now.spent c.last_of.new.spent
    (ap g.V.Verifier.accepts c.put-answer.ensures.keys) c.in-Some.ensures.stays)
