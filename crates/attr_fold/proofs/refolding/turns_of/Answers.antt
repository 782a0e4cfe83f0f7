use Rattle.std.proofs.Common.{◌∙◌, arith}
use Rattle.attr_fold.proofs.Ticks.{all_there, size_none, size_more}
use Rattle.attr_fold.proofs.Noting.{tells_none}
use Rattle.attr_fold.proofs.Telling.{change_there, tells_next}
use Rattle.attr_fold.proofs.refolding.turns_of.Goals as goal

pub loop-n-init : goal.loop-n-init
loop-n-init g c = record {
  tells = tells_none c.args.p.now c.empty-turns.result c.empty-turns.ensures.given c.empty-turns.ensures.emptied;
  few = size_none c.empty-turns.result.given c.empty-turns.ensures.given;
  ticks = let same = all_there c.args.rows.now.changes c.args.p.now c.deref-moment-items.result.now (c.deref-moment-items.ensures.value ∙ c.in_ok-moments.ensures.moments) in omega (arith, same, c.moments_of.ensures.ticks);
}

pub note_moment-requires-clause-change : goal.note_moment-requires-clause-change
note_moment-requires-clause-change g c =
    change_there c.args.rows.now.facts.ordered c.args.rows.now.state c.args.rows.now.changes c.args.p.now c.requires.listed
    c.deref-moment-items.result.now
    (c.deref-moment-items.ensures.value ∙ c.in_ok-moments.ensures.moments) c.loop-n.n c.moment-item.result c.loop-n-test.true
    c.moment-item.is

pub loop-n-preserved : goal.loop-n-preserved
loop-n-preserved g c = record {
  tells = tells_next c.args.rows.now.facts.ordered c.args.rows.now.state c.args.rows.now.deletes c.args.p.now
      c.deref-moment-items.result.now c.loop-n.n c.moment-item.result c.loop-n-test.true c.moment-item.is
      (change_there c.args.rows.now.facts.ordered c.args.rows.now.state c.args.rows.now.changes c.args.p.now c.requires.listed
      c.deref-moment-items.result.now
      (c.deref-moment-items.ensures.value ∙ c.in_ok-moments.ensures.moments) c.loop-n.n c.moment-item.result c.loop-n-test.true
      c.moment-item.is)
      c.loop-n.turns c.note_moment.new.turns c.loop-n.invariant.tells c.in_ok-note_moment.ensures.noted;
  few = size_more c.args.rows.now.facts.ordered c.args.rows.now.deletes c.args.p.now c.loop-n.turns c.note_moment.new.turns c.moment-item.result c.loop-n.n c.in_ok-note_moment.ensures.noted c.loop-n.invariant.few;
  ticks = omega (arith, c.loop-n.invariant.ticks, c.note_moment.ensures.ticks);
}

pub returns-in_err-note_moment-clause-ticks : goal.returns-in_err-note_moment-clause-ticks
returns-in_err-note_moment-clause-ticks g c =
    let same = all_there c.args.rows.now.changes c.args.p.now c.deref-moment-items.result.now (c.deref-moment-items.ensures.value ∙ c.in_ok-moments.ensures.moments) in omega (arith, same, c.loop-n.invariant.ticks, c.note_moment.ensures.ticks, c.loop-n-test.true)

pub returns-clause-ticks : goal.returns-clause-ticks
returns-clause-ticks g c = let same = all_there c.args.rows.now.changes c.args.p.now c.deref-moment-items.result.now (c.deref-moment-items.ensures.value ∙ c.in_ok-moments.ensures.moments) in omega (arith, same, c.loop-n.invariant.ticks, c.loop-n.auto.n-end)

pub returns-clause-few : goal.returns-clause-few
returns-clause-few g c = let same = all_there c.args.rows.now.changes c.args.p.now c.deref-moment-items.result.now (c.deref-moment-items.ensures.value ∙ c.in_ok-moments.ensures.moments) in omega (arith, same, c.loop-n.invariant.few, c.loop-n.auto.n-end)
