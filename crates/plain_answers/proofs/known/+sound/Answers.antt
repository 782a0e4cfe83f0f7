use Rattle.std.proofs.Common.{◌≡◌, ◌<◌, ◌+◌, ◌*◌, Some, arith, option_copied, refl, sym, ◌∙◌}
use Rattle.claim_model.specs.Trees.{is_sound_tree, part_fits, sound_within}
use Rattle.index_look.specs.Walk.{number_after}
use Rattle.plain_answers.proofs.Walking.{one_less}
use Rattle.plain_answers.proofs.Learning.{said, denied, alone, further, gone_through, none_deeper_sound, not_fitting, has_fitting}
use Rattle.plain_answers.proofs.known.+sound.Goals as goal

pub all_fit-loop-part-preserved : goal.all_fit-loop-part-preserved
all_fit-loop-part-preserved g t c =
    let facts = g.T.FactTable.facts c.args.table.now in
    record {
      onward = further (part_fits facts (sound_within facts (number_after facts (Some c.args.after.now)))) (part_fits facts (is_sound_tree facts)) (λ parts. parts) (λ xs ys. refl)
          c.args.parts.now c.loop-part.part-index c.part-item.result
          (omega arith) c.part-item.is (said _ _ _ c.if-not-branch.false c.in_ok-part_fits.ensures.finds) c.loop-part.invariant.onward;
      so = c.in_ok-part_fits.ensures.so;
    }

pub all_fit-returns-clause-finds : goal.all_fit-returns-clause-finds
all_fit-returns-clause-finds g t c =
    let facts = g.T.FactTable.facts c.args.table.now in
    gone_through (part_fits facts (sound_within facts (number_after facts (Some c.args.after.now)))) (part_fits facts (is_sound_tree facts)) (λ parts. parts)
    c.args.parts.now c.loop-part.part-index refl (omega arith) c.loop-part.invariant.onward

pub sound_within-returns-in_default-clause-finds : goal.sound_within-returns-in_default-clause-finds
sound_within-returns-in_default-clause-finds g t c =
    none_deeper_sound (g.T.FactTable.facts c.args.table.now) (option_copied c.args.after) c.args.r.now c.in_default.ensures.value

pub sound_within-parts_fit-requires : goal.sound_within-parts_fit-requires
sound_within-parts_fit-requires g t c =
    let facts = g.T.FactTable.facts c.args.table.now in
    let is : 4 * number_after facts (option_copied c.args.after) ≡ t = c.decreases in
    let less : 4 * number_after facts (Some c.in-Some.next) + 3 < t = omega (arith, is, one_less facts (option_copied c.args.after) c.in-Some.next c.in-Some.ensures.value) in
    λ κs lives. (less, (lives.0, (lives.1, (c.in-Some-fact_at.ensures.valid, c.in_ok-is_ready.ensures.so))))

pub sound_within-returns-then-not-branch-2-clause-finds : goal.sound_within-returns-then-not-branch-2-clause-finds
sound_within-returns-then-not-branch-2-clause-finds g t c =
    not_fitting (g.T.FactTable.facts c.args.table.now) (option_copied c.args.after) c.args.r.now c.in-Some.next c.in-Some.ensures.value
    c.in-Some-fact_at.fact.now c.in-Some-fact_at.ensures.value (denied _ _ _ c.if-not-branch-2.true c.in_ok-parts_fit.ensures.finds)

pub sound_within-returns-in_err-keep_sound-clause-so : goal.sound_within-returns-in_err-keep_sound-clause-so
sound_within-returns-in_err-keep_sound-clause-so g t c =
    let facts = g.T.FactTable.facts c.args.table.now in
    c.in_err-keep_sound.ensures.so facts c.in_ok-parts_fit.ensures.so
    (has_fitting facts c.args.r.now c.in-Some-fact_at.fact.now (sym c.if-not-branch.false ∙ c.in_ok-is_ready.ensures.value) c.in-Some-fact_at.ensures.value
    (said _ _ _ c.if-not-branch-2.false c.in_ok-parts_fit.ensures.finds))

pub sound_within-returns-clause-finds : goal.sound_within-returns-clause-finds
sound_within-returns-clause-finds g t c =
    let facts = g.T.FactTable.facts c.args.table.now in
    alone (is_sound_tree facts c.args.r.now)
    (has_fitting facts c.args.r.now c.in-Some-fact_at.fact.now (sym c.if-not-branch.false ∙ c.in_ok-is_ready.ensures.value) c.in-Some-fact_at.ensures.value
    (said _ _ _ c.if-not-branch-2.false c.in_ok-parts_fit.ensures.finds))

pub sound_within-returns-clause-so : goal.sound_within-returns-clause-so
sound_within-returns-clause-so g t c =
    let facts = g.T.FactTable.facts c.args.table.now in
    c.in_ok-keep_sound.ensures.so facts c.in_ok-parts_fit.ensures.so
    (has_fitting facts c.args.r.now c.in-Some-fact_at.fact.now (sym c.if-not-branch.false ∙ c.in_ok-is_ready.ensures.value) c.in-Some-fact_at.ensures.value
    (said _ _ _ c.if-not-branch-2.false c.in_ok-parts_fit.ensures.finds))
