use Rattle.share_gate.proofs.Reading.{read_nothing}
use Rattle.share_http.proofs.requests.answer.Goals as goal

pub returns-in-Refused-clause-read : goal.returns-in-Refused-clause-read
returns-in-Refused-clause-read g c = read_nothing g.B.Shelf g.met.B.Shelf.puts_nothing c.args.shelf.now
