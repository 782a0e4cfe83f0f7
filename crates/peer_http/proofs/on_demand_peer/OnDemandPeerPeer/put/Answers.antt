use Rattle.std.proofs.Common.{List, None, Result, subst, ℕ}
use Rattle.edge_base.specs.Shelf.{Blob}
use Rattle.peer_base.specs.declared.peer.PeerFault.{PeerFault}
use Rattle.peer_base.specs.Causes.{PutLeaves}
use Rattle.peer_http.specs.Calls.{KeepsOver}
use Rattle.peer_http.specs.Links.{LinkView, link_faults}
use Rattle.peer_http.proofs.Dialed.{dialed}
use Rattle.peer_http.proofs.on_demand_peer.OnDemandPeerPeer.put.Goals as goal

pub returns-clause-is : goal.returns-clause-is
returns-clause-is g c =
    let faults : LinkView g.row.D-In.Denot g.row.D-Out.Denot → ℕ = link_faults g.D.In.Source.faults g.D.Out.Sink.faults in
    dialed g.D.Dialer.gives g.D.Out.Sink.written faults (λ (link : LinkView g.row.D-In.Denot g.row.D-Out.Denot) (given : Result (Unit {0}) PeerFault) (link_now : LinkView g.row.D-In.Denot g.row.D-Out.Denot).
    KeepsOver g.D.In.Source.left g.D.Out.Sink.written link (c.args.r.now, c.args.bytes.now) given link_now)
    c.args.self.now c.take.new.self c.give_back.new.self c.in_ok-peer.peer c.put-done.new.self c.put-done.result c.give_back.result
    c.in_ok-peer.ensures.taken c.take.ensures.same c.put-done.ensures.is
    (λ failed. subst (λ (r : Result (Unit {0}) PeerFault). PutLeaves (λ (blobs : List Blob). Unit {0}) (λ (blobs pack : ℕ). ⊥) None None (faults c.in_ok-peer.peer) (faults c.put-done.new.self) (c.args.r.now, c.args.bytes.now) r) failed c.put-done.ensures.leaves)
    c.give_back.ensures.same c.give_back.ensures.back
