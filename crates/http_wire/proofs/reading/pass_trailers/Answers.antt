use Rattle.std.proofs.Common.{[], sym, subst}
use Rattle.http_wire.specs.declared.body.Body.{Body}
use Rattle.http_wire.specs.declared.body.Body.TheVariants as body
use Rattle.http_wire.specs.Bodies.{BodyRun}
use Rattle.http_wire.proofs.Leading.{leads_trailers}
use Rattle.http_wire.proofs.reading.pass_trailers.Goals as goal

pub returns-in_ok-take_trailers-in-Trailers-clause-moved :
    goal.returns-in_ok-take_trailers-in-Trailers-clause-moved
returns-in_ok-take_trailers-in-Trailers-clause-moved g c =
    let trailers = c.in_ok-take_trailers-in-Trailers.ensures.ok in
    (trailers.0, trailers.1, subst (λ (b : Body). BodyRun b body.Done trailers.0 []) (sym c.in-Trailers.is) (leads_trailers trailers.0 trailers.2))
