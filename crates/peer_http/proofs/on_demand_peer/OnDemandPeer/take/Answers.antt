use Rattle.std.proofs.Common.{sym}
use Rattle.std.proofs.lemmas.Result.{err_from_is_err_and}
use Rattle.peer_http.proofs.Dialed.{no_ends, new_ends}
use Rattle.peer_http.proofs.on_demand_peer.OnDemandPeer.take.Goals as goal

pub returns-in_err-source-in-None-clause-taken : goal.returns-in_err-source-in-None-clause-taken
returns-in_err-source-in-None-clause-taken g c =
    let p = err_from_is_err_and c.from_residual.result c.from_residual.ensures.1 in
    let a = c.self.inside in
    rw p.1 (no_ends g.D.Dialer.gives g.D.Out.Sink.written c.args.self.now (record { dialer = a.dialer; link = a.peer; faults = a.faults }) c.ends.new.self
    c.ends.result p.0 c.self.view_is (sym c.in-None.ensures.value) c.ends.ensures.is)

pub returns-in_ok-source-in-None-clause-taken : goal.returns-in_ok-source-in-None-clause-taken
returns-in_ok-source-in-None-clause-taken g c =
    let a = c.self.inside in
    new_ends g.D.Dialer.gives g.D.Out.Sink.written c.args.self.now (record { dialer = a.dialer; link = a.peer; faults = a.faults }) c.ends.new.self
    c.in_ok-source-in-None.source c.in_ok-source-in-None.sink c.make.result c.self.view_is (sym c.in-None.ensures.value) c.in_ok-source-in-None.ensures.is c.in_ok-source-in-None.ensures.unasked c.make.ensures
