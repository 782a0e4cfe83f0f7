use Rattle.std.proofs.Common.{[], sym, subst}
use Rattle.http_wire.specs.declared.body.Body.{Body}
use Rattle.http_wire.specs.Bodies.{BodyRun}
use Rattle.http_wire.proofs.Leading.{leads_on}
use Rattle.http_wire.proofs.reading.pass_line.Goals as goal

pub returns-in_ok-size-in-ChunkLine-clause-moved :
    goal.returns-in_ok-size-in-ChunkLine-clause-moved
returns-in_ok-size-in-ChunkLine-clause-moved g c =
    let line = c.in_ok-size-in-ChunkLine.ensures.ok in
    (line.0, line.1, subst (λ (b : Body). BodyRun b c.behind_line.result line.0 []) (sym c.in-ChunkLine.is) (leads_on line.0 c.in_ok-size-in-ChunkLine.size c.behind_line.result line.2 c.behind_line.ensures.last c.behind_line.ensures.more))
