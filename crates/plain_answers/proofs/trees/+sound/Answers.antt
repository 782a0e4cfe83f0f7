use Rattle.std.proofs.Common.{◌≡◌, ◌<◌, ◌+◌, ◌*◌, ◌∙◌, ◌&&◌, Some, sym, ap, arith, option_copied}
use Rattle.claim_model.specs.Facts.{passes}
use Rattle.claim_model.specs.Trees.{parts_fit, sound_within}
use Rattle.index_look.specs.Walk.{number_after}
use Rattle.plain_answers.proofs.Walking.{none_left, one_less}
use Rattle.plain_answers.proofs.trees.+sound.Goals as goal

pub sound_within-returns-in_default : goal.sound_within-returns-in_default
sound_within-returns-in_default g t c =
    let facts = g.T.FactTable.facts c.args.table.now in
    sym (ap (λ n. sound_within facts n c.args.r.now) (none_left facts (option_copied c.args.after) c.in_default.ensures.value))

pub sound_within-parts_fit-requires : goal.sound_within-parts_fit-requires
sound_within-parts_fit-requires g t c =
    let facts = g.T.FactTable.facts c.args.table.now in
    let is : 4 * number_after facts (option_copied c.args.after) ≡ t = c.decreases in
    let less : 4 * number_after facts (Some c.in-Some.next) + 3 < t = omega (arith, is, one_less facts (option_copied c.args.after) c.in-Some.next c.in-Some.ensures.value) in
    λ κs lives. (less, (lives.0, (lives.1, c.in-Some-fact_at.ensures.valid)))

pub sound_within-returns-then-ready : goal.sound_within-returns-then-ready
sound_within-returns-then-ready g t c =
    let facts = g.T.FactTable.facts c.args.table.now in
    let n = number_after facts (Some c.in-Some.next) in
    c.parts_fit.ensures
    ∙ sym (ap (λ n. sound_within facts n c.args.r.now) (one_less facts (option_copied c.args.after) c.in-Some.next c.in-Some.ensures.value)
    ∙ (λ i. sym c.if-ready.ensures i && passes (parts_fit facts (sound_within facts n)) (sym c.in-Some-fact_at.ensures.value i)))
