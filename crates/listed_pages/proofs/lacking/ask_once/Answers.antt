use Rattle.std.proofs.Common.{inl, inr, None, Ok, Err}
use Rattle.listed_pages.proofs.Runs.{laws, listed_once}
use Rattle.listed_pages.proofs.lacking.ask_once.Goals as goal

pub returns-in-Ok-clause-reached : goal.returns-in-Ok-clause-reached
returns-in-Ok-clause-reached g c = λ asked. (
  c.in-Ok._page,
  listed_once g.B.Peer (laws g.B.Peer g.met.B.Peer.puts_nothing g.met.B.Peer.puts_then
      g.met.B.Peer.puts_follows g.met.B.Peer.follows_then) c.args.target.now c.list.new.self None 1000
      (Ok c.in-Ok._page) c.in-Ok.ensures.is,
)

pub returns-in-Err-clause-answered : goal.returns-in-Err-clause-answered
returns-in-Err-clause-answered g c =
    inr (inl (listed_once g.B.Peer (laws g.B.Peer g.met.B.Peer.puts_nothing g.met.B.Peer.puts_then
    g.met.B.Peer.puts_follows g.met.B.Peer.follows_then) c.args.target.now c.list.new.self None 1000
    (Err c.in-Err.fault) c.in-Err.ensures.is))
