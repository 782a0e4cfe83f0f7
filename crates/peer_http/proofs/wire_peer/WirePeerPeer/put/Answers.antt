use Rattle.std.proofs.Common.{subst}
use Rattle.peer_http.specs.Calls.{KeepsOver}
use Rattle.peer_http.specs.Links.{LinkView}
use Rattle.peer_http.proofs.wire_peer.WirePeerPeer.put.Goals as goal

pub returns-clause-is : goal.returns-clause-is
returns-clause-is g c = subst (λ (l : LinkView g.row.S.Denot g.row.K.Denot). KeepsOver g.S.Source.left g.K.Sink.written l (c.args.r.now, c.args.bytes.now) c.put.result c.put.new.link) c.self.view_is c.put.ensures.is
