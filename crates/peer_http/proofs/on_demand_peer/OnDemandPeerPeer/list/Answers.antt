use Rattle.std.proofs.Common.{List, None, Result, option_copied, subst, ℕ}
use Rattle.peer_base.specs.declared.peer.PeerFault.{PeerFault}
use Rattle.peer_base.specs.Causes.{ListCause}
use Rattle.peer_http.specs.Calls.{ListsOver}
use Rattle.peer_http.specs.Links.{LinkView, link_faults}
use Rattle.peer_http.proofs.Dialed.{dialed}
use Rattle.peer_http.proofs.on_demand_peer.OnDemandPeerPeer.list.Goals as goal

pub returns-clause-is : goal.returns-clause-is
returns-clause-is g c =
    let faults : LinkView g.row.D-In.Denot g.row.D-Out.Denot → ℕ = link_faults g.D.In.Source.faults g.D.Out.Sink.faults in
    dialed g.D.Dialer.gives g.D.Out.Sink.written faults (λ (link : LinkView g.row.D-In.Denot g.row.D-Out.Denot) (given : Result (List (List ℕ × ℕ)) PeerFault) (link_now : LinkView g.row.D-In.Denot g.row.D-Out.Denot).
    ListsOver g.D.In.Source.left g.D.Out.Sink.written link (option_copied c.args.after) c.args.limit given link_now)
    c.args.self.now c.take.new.self c.give_back.new.self c.in_ok-peer.peer c.list-listed.new.self c.list-listed.result c.give_back.result
    c.in_ok-peer.ensures.taken c.take.ensures.same c.list-listed.ensures.is
    (λ failed. subst (λ (r : Result (List (List ℕ × ℕ)) PeerFault). ListCause None (faults c.in_ok-peer.peer) (faults c.list-listed.new.self) r) failed c.list-listed.ensures.cause)
    c.give_back.ensures.same c.give_back.ensures.back
