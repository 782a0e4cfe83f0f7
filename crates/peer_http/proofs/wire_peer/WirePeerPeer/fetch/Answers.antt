use Rattle.std.proofs.Common.{subst}
use Rattle.peer_http.specs.Calls.{FetchesOver}
use Rattle.peer_http.specs.Links.{LinkView}
use Rattle.peer_http.proofs.wire_peer.WirePeerPeer.fetch.Goals as goal

pub returns-clause-is : goal.returns-clause-is
returns-clause-is g c = subst (λ (l : LinkView g.row.S.Denot g.row.K.Denot). FetchesOver g.S.Source.left g.K.Sink.written l c.args.r.now c.fetch.result c.fetch.new.link) c.self.view_is c.fetch.ensures.is
