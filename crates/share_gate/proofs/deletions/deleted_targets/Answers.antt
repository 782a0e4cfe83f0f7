use Rattle.std.proofs.Common.{arith}
use Rattle.std.proofs.lemmas.Result.{IfOk-weaker}
use Rattle.blobref.specs.Sets.{HasSameRefs}
use Rattle.share_gate.specs.Tables.{AreDeleted}
use Rattle.share_gate.proofs.Rows.{deleted_all}
use Rattle.share_gate.proofs.deletions.deleted_targets.Goals as goal

pub returns : goal.returns
returns g c =
    let facts = g.K.Look.facts c.args.look.now in
    let accepts = g.V.Verifier.accepts c.args.keys.now in
    IfOk-weaker c.of.result (λ set. HasSameRefs set c.loop-r.targets) (AreDeleted facts accepts c.args.refs.now)
    (λ set same. deleted_all facts accepts c.args.refs.now c.loop-r.targets set c.loop-r.r-index c.loop-r.invariant
    (omega (arith, c.loop-r-test.false)) same) c.of.ensures
