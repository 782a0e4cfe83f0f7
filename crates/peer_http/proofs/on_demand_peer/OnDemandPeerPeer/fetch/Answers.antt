use Rattle.std.proofs.Common.{List, None, Option, Result, subst, ℕ}
use Rattle.peer_base.specs.declared.peer.PeerFault.{PeerFault}
use Rattle.peer_base.specs.Causes.{FetchCause}
use Rattle.peer_http.specs.Calls.{FetchesOver}
use Rattle.peer_http.specs.Links.{LinkView, link_faults}
use Rattle.peer_http.proofs.Dialed.{dialed}
use Rattle.peer_http.proofs.on_demand_peer.OnDemandPeerPeer.fetch.Goals as goal

pub returns-clause-is : goal.returns-clause-is
returns-clause-is g c =
    let faults : LinkView g.row.D-In.Denot g.row.D-Out.Denot → ℕ = link_faults g.D.In.Source.faults g.D.Out.Sink.faults in
    dialed g.D.Dialer.gives g.D.Out.Sink.written faults (λ (link : LinkView g.row.D-In.Denot g.row.D-Out.Denot) (given : Result (Option (List ℕ)) PeerFault) (link_now : LinkView g.row.D-In.Denot g.row.D-Out.Denot).
    FetchesOver g.D.In.Source.left g.D.Out.Sink.written link c.args.r.now given link_now)
    c.args.self.now c.take.new.self c.give_back.new.self c.in_ok-peer.peer c.fetch-fetched.new.self c.fetch-fetched.result c.give_back.result
    c.in_ok-peer.ensures.taken c.take.ensures.same c.fetch-fetched.ensures.is
    (λ failed. subst (λ (r : Result (Option (List ℕ)) PeerFault). FetchCause None (faults c.in_ok-peer.peer) (faults c.fetch-fetched.new.self) c.args.r.now r) failed c.fetch-fetched.ensures.cause)
    c.give_back.ensures.same c.give_back.ensures.back
