use Rattle.std.proofs.Common.{◌≡◌, subst}
use Rattle.http_wire.specs.Stream.{Passed}
use Rattle.http_wire.specs.Wires.{WireView, HasHead}
use Rattle.http_wire.proofs.wire.Wire.next_reply.Goals as goal

pub returns-clause-ok : goal.returns-clause-ok
returns-clause-ok g c =
    let ok = c.in_ok-head.ensures.ok in
    (subst (λ (w : WireView). Passed (g.S.Source.left c.args.source.now) (g.S.Source.left c.take_reply.new.source) w.flow c.take_reply.new.ahead c.take_reply.new.kept) c.self.view_is ok.0, ok.1, ok.2, c.body_at-self-inside.ensures)

pub returns-in_err-head-clause-ready : goal.returns-in_err-head-clause-ready
returns-in_err-head-clause-ready g c =
    subst (λ (w : WireView). HasHead w.flow.bytes → c.take_reply.new.source ≡ c.args.source.now) c.self.view_is
    c.take_reply.ensures.ready

pub returns-clause-ready : goal.returns-clause-ready
returns-clause-ready g c =
    subst (λ (w : WireView). HasHead w.flow.bytes → c.take_reply.new.source ≡ c.args.source.now) c.self.view_is
    c.take_reply.ensures.ready
