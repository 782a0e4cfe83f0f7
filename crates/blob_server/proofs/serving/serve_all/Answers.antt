use Rattle.std.proofs.Common.{map, sym, subst}
use Rattle.blob_server.specs.Stands.{stand_of}
use Rattle.blob_server.specs.Ends.{Ends}
use Rattle.blob_server.proofs.Ending.{ends_served, ends_unsettled}
use Rattle.blob_server.proofs.serving.serve_all.Goals as goal

pub returns-in-Ok-clause-ends : goal.returns-in-Ok-clause-ends
returns-in-Ok-clause-ends g c =
    let seen = map (stand_of g.H.Home.sight g.L.Listener.accepted g.L.Listener.faults) in
    ends_served c.args.connections (seen c.args.desks.now) (seen c.settle_first.new.desks) (seen c.serve_settled.new.desks) c.serve_settled.result c.in-Ok.ensures.settles c.serve_settled.ensures.serves

pub returns-in-Err-clause-ends : goal.returns-in-Err-clause-ends
returns-in-Err-clause-ends g c =
    let seen = map (stand_of g.H.Home.sight g.L.Listener.accepted g.L.Listener.faults) in
    let old = seen c.args.desks.now in
    let new = seen c.settle_first.new.desks in
    subst (Ends c.args.connections old new) (sym c.from.ensures)
    (ends_unsettled c.args.connections old new c.in-Err.fault c.in-Err.ensures.settles)
