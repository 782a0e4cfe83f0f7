use Rattle.http_wire.proofs.Passing.{pass_front}
use Rattle.http_wire.proofs.ahead.ReadAhead.pass.Goals as goal

pub returns : goal.returns
returns c = pass_front c.args.n c.args.self.now c.drop_front.new.self c.requires c.drop_front.ensures.bytes c.drop_front.ensures.taken
