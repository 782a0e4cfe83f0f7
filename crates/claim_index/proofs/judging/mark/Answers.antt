use Rattle.std.proofs.Common.{◌≡◌, ◌∙◌, ◌||◌, true, ap, sym}
use Rattle.std.proofs.lemmas.Result.{on_ok_weaker}
use Rattle.std.specs.FinMap.{get, insert}
use Rattle.index_rows.specs.States.{States}
use Rattle.claim_index.proofs.Rows.{put_marked, either_found}
use Rattle.claim_index.proofs.judging.mark.Goals as goal

pub returns-in-Some-clause-marked : goal.returns-in-Some-clause-marked
returns-in-Some-clause-marked g c =
    let some : (c.args.genuine || c.args.sound)
    ≡ true = either_found c.args.genuine c.args.sound c.else-not-genuine.either in
    on_ok_weaker c.put.result (λ is y.
    ap (λ (m : States). get m y) (is ∙ ap (insert c.args.state.now c.args.x.now) c.with_marks-row.ensures)
    ∙ put_marked c.args.state.now c.args.x.now c.in-Some.row.now c.args.genuine c.args.sound
    (sym c.in-Some.ensures.value) some y) c.put.ensures.ok
