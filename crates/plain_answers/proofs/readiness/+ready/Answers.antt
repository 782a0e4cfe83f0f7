use Rattle.std.proofs.Common.{◌≡◌, ◌<◌, ◌+◌, ◌*◌, ◌∙◌, Some, sym, ap, arith, take, option_copied}
use Rattle.std.specs.List.{list_all}
use Rattle.schema_fact.specs.Dependencies.{dependencies}
use Rattle.claim_model.specs.Facts.{passes}
use Rattle.claim_model.specs.Ready.{round}
use Rattle.index_look.specs.Walk.{number_after}
use Rattle.plain_answers.proofs.Walking.{none_left, one_less}
use Rattle.plain_answers.proofs.Reaching.{one_further, known_holds, new_holds, new_fails}
use Rattle.plain_answers.proofs.readiness.+ready.Goals as goal
use Rattle.plain_answers.proofs.readiness.+ready.Goals.{parts_ready-in-Some+else-not-ready_within, parts_ready-in_default}

pub parts_ready-returns-then-not-ready_within : goal.parts_ready-returns-then-not-ready_within
parts_ready-returns-then-not-ready_within g t c =
    let facts = g.T.FactTable.facts c.args.table.now in
    new_fails (round facts (number_after facts (Some c.args.after.now))) c.args.parts.now c.loop-i.i c.index-parts-i.result c.in-Some.r (omega arith) c.index-parts-i.is
    c.in-Some.ensures c.if-not-ready_within.ensures

pub parts_ready-loop-i-preserved : goal.parts_ready-loop-i-preserved
parts_ready-loop-i-preserved g t c =
    let facts = g.T.FactTable.facts c.args.table.now in
    let test = round facts (number_after facts (Some c.args.after.now)) in
    let parts = c.args.parts.now in
    let part = c.index-parts-i.result in
    one_further test parts c.loop-i.i part (omega arith) c.index-parts-i.is c.loop-i.invariant
    (elim c.match-new_ref.branch [
      | parts_ready-in-Some+else-not-ready_within w ↦ new_holds test (take c.loop-i.i parts) part w.in-Some.r w.in-Some.ensures w.if-not-ready_within.ensures
      | parts_ready-in_default w ↦ known_holds test (take c.loop-i.i parts) part c.loop-i.invariant w.in_default.ensures
    ])

pub ready_within-returns-in_default : goal.ready_within-returns-in_default
ready_within-returns-in_default g t c =
    let facts = g.T.FactTable.facts c.args.table.now in
    sym (ap (λ n. round facts n c.args.r.now) (none_left facts (option_copied c.args.after) c.in_default.ensures.value))

pub ready_within-all_ready-requires : goal.ready_within-all_ready-requires
ready_within-all_ready-requires g t c =
    let facts = g.T.FactTable.facts c.args.table.now in
    let is : 4 * number_after facts (option_copied c.args.after) ≡ t = c.decreases in
    let less : 4 * number_after facts (Some c.in-Some.next) + 3 < t = omega (arith, is, one_less facts (option_copied c.args.after) c.in-Some.next c.in-Some.ensures.value) in
    λ κs lives. (less, lives)

pub ready_within-returns-in-Some-fact_at : goal.ready_within-returns-in-Some-fact_at
ready_within-returns-in-Some-fact_at g t c =
    let facts = g.T.FactTable.facts c.args.table.now in
    let n = number_after facts (Some c.in-Some.next) in
    c.all_ready.ensures
    ∙ sym (ap (λ n. round facts n c.args.r.now) (one_less facts (option_copied c.args.after) c.in-Some.next c.in-Some.ensures.value)
    ∙ ap (passes (λ fact. list_all (round facts n) (dependencies fact))) (sym c.in-Some-fact_at.ensures.value))
