use Rattle.share_gate.proofs.Reading.{read_nothing}
use Rattle.share_server.proofs.accepting.serve_next.Goals as goal

pub returns-in_default-clause-read : goal.returns-in_default-clause-read
returns-in_default-clause-read g c = read_nothing g.B.Shelf g.met.B.Shelf.puts_nothing c.args.shelf.now
