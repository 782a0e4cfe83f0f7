use Rattle.std.proofs.Common.{◌≡◌, ◌<◌, ◌+◌, ◌*◌, Some, arith, option_copied, refl}
use Rattle.schema_fact.specs.Dependencies.{part_refs}
use Rattle.claim_model.specs.Ready.{is_ready, round}
use Rattle.index_look.specs.Walk.{number_after}
use Rattle.plain_answers.proofs.Walking.{one_less}
use Rattle.plain_answers.proofs.Learning.{said, denied, alone, refs_join, further, stopped, gone_through, none_deeper, not_all, has_all}
use Rattle.plain_answers.proofs.known.+ready.Goals as goal

pub parts_ready-returns-then-not-branch-clause-finds : goal.parts_ready-returns-then-not-branch-clause-finds
parts_ready-returns-then-not-branch-clause-finds g t c =
    let facts = g.T.FactTable.facts c.args.table.now in
    stopped (round facts (number_after facts (Some c.args.after.now))) (is_ready facts) part_refs refs_join c.args.parts.now c.loop-part.part-index c.part-item.result
    (omega arith) c.part-item.is (denied _ _ _ c.if-not-branch.true c.in_ok-part_ready.ensures.finds) c.loop-part.invariant.onward

pub parts_ready-loop-part-preserved : goal.parts_ready-loop-part-preserved
parts_ready-loop-part-preserved g t c =
    let facts = g.T.FactTable.facts c.args.table.now in
    record {
      onward = further (round facts (number_after facts (Some c.args.after.now))) (is_ready facts) part_refs refs_join c.args.parts.now c.loop-part.part-index c.part-item.result
          (omega arith) c.part-item.is (said _ _ _ c.if-not-branch.false c.in_ok-part_ready.ensures.finds) c.loop-part.invariant.onward;
      so = c.in_ok-part_ready.ensures.so;
    }

pub parts_ready-returns-clause-finds : goal.parts_ready-returns-clause-finds
parts_ready-returns-clause-finds g t c =
    let facts = g.T.FactTable.facts c.args.table.now in
    gone_through (round facts (number_after facts (Some c.args.after.now))) (is_ready facts) part_refs c.args.parts.now c.loop-part.part-index
    refl (omega arith) c.loop-part.invariant.onward

pub ready_within-returns-in_default-clause-finds : goal.ready_within-returns-in_default-clause-finds
ready_within-returns-in_default-clause-finds g t c =
    none_deeper (g.T.FactTable.facts c.args.table.now) (option_copied c.args.after) c.args.r.now c.in_default.ensures.value

pub ready_within-all_ready-requires : goal.ready_within-all_ready-requires
ready_within-all_ready-requires g t c =
    let facts = g.T.FactTable.facts c.args.table.now in
    let is : 5 * number_after facts (option_copied c.args.after) ≡ t = c.decreases in
    let less : 5 * number_after facts (Some c.in-Some.next) + 4 < t = omega (arith, is, one_less facts (option_copied c.args.after) c.in-Some.next c.in-Some.ensures.value) in
    λ κs lives. (less, (lives.0, (lives.1, c.requires.so)))

pub ready_within-returns-then-not-branch-clause-finds : goal.ready_within-returns-then-not-branch-clause-finds
ready_within-returns-then-not-branch-clause-finds g t c =
    not_all (g.T.FactTable.facts c.args.table.now) (option_copied c.args.after) c.args.r.now c.in-Some.next c.in-Some.ensures.value
    c.in-Some-fact_at.fact.now c.in-Some-fact_at.ensures.value (denied _ _ _ c.if-not-branch.true c.in_ok-all_ready.ensures.finds)

pub ready_within-returns-in_err-keep_ready-clause-so : goal.ready_within-returns-in_err-keep_ready-clause-so
ready_within-returns-in_err-keep_ready-clause-so g t c =
    let facts = g.T.FactTable.facts c.args.table.now in
    c.in_err-keep_ready.ensures.so facts c.in_ok-all_ready.ensures.so
    (has_all facts c.args.r.now c.in-Some-fact_at.fact.now c.in-Some-fact_at.ensures.value (said _ _ _ c.if-not-branch.false c.in_ok-all_ready.ensures.finds))

pub ready_within-returns-clause-finds : goal.ready_within-returns-clause-finds
ready_within-returns-clause-finds g t c =
    let facts = g.T.FactTable.facts c.args.table.now in
    alone (is_ready facts c.args.r.now)
    (has_all facts c.args.r.now c.in-Some-fact_at.fact.now c.in-Some-fact_at.ensures.value (said _ _ _ c.if-not-branch.false c.in_ok-all_ready.ensures.finds))

pub ready_within-returns-clause-so : goal.ready_within-returns-clause-so
ready_within-returns-clause-so g t c =
    let facts = g.T.FactTable.facts c.args.table.now in
    c.in_ok-keep_ready.ensures.so facts c.in_ok-all_ready.ensures.so
    (has_all facts c.args.r.now c.in-Some-fact_at.fact.now c.in-Some-fact_at.ensures.value (said _ _ _ c.if-not-branch.false c.in_ok-all_ready.ensures.finds))
