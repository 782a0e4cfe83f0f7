use Rattle.std.proofs.Common.{◌≤◌, subst}
use Rattle.edge_base.specs.Edge.{FaultsRose}
use Rattle.peer_http.specs.Links.{LinkView, Asks, both}
use Rattle.peer_http.proofs.link.Link.ask.Goals as goal

pub returns-clause-asks : goal.returns-clause-asks
returns-clause-asks g c =
    subst (λ (l : LinkView g.row.S.Denot g.row.K.Denot). Asks c.args.most (g.S.Source.left l.source) (g.S.Source.left c.exchange.new.source) (g.K.Sink.written l.sink) (g.K.Sink.written c.exchange.new.sink) l.wire c.exchange.new.wire c.args.request.now c.exchange.result) c.self.view_is c.exchange.ensures.asks

pub returns-clause-fault : goal.returns-clause-fault
returns-clause-fault g c is =
    subst (λ (l : LinkView g.row.S.Denot g.row.K.Denot). FaultsRose (both (g.S.Source.faults l.source) (g.K.Sink.faults l.sink)) (both (g.S.Source.faults c.exchange.new.source) (g.K.Sink.faults c.exchange.new.sink))) c.self.view_is (c.exchange.ensures.fault is)

pub returns-clause-later : goal.returns-clause-later
returns-clause-later g c =
    subst (λ (l : LinkView g.row.S.Denot g.row.K.Denot). both (g.S.Source.faults l.source) (g.K.Sink.faults l.sink) ≤ both (g.S.Source.faults c.exchange.new.source) (g.K.Sink.faults c.exchange.new.sink)) c.self.view_is c.exchange.ensures.later
