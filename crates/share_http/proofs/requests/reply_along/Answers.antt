use Rattle.share_gate.proofs.Reading.{read_nothing}
use Rattle.share_http.proofs.requests.reply_along.Goals as goal

pub returns-in-Err-clause-read : goal.returns-in-Err-clause-read
returns-in-Err-clause-read g c = read_nothing g.B.Shelf g.met.B.Shelf.puts_nothing c.args.shelf.now
