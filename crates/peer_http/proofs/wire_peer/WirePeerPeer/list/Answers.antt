use Rattle.std.proofs.Common.{subst, option_copied}
use Rattle.peer_http.specs.Calls.{ListsOver}
use Rattle.peer_http.specs.Links.{LinkView}
use Rattle.peer_http.proofs.wire_peer.WirePeerPeer.list.Goals as goal

pub returns-clause-is : goal.returns-clause-is
returns-clause-is g c = subst (λ (l : LinkView g.row.S.Denot g.row.K.Denot). ListsOver g.S.Source.left g.K.Sink.written l (option_copied c.args.after) c.args.limit c.list.result c.list.new.link) c.self.view_is c.list.ensures.is
