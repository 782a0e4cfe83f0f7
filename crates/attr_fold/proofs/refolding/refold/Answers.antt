use Rattle.std.proofs.Common.{refl, arith}
use Rattle.attr_fold.proofs.Ticks.{steps_none, steps_some}
use Rattle.std.proofs.lemmas.Result.{on_ok_weaker}
use Rattle.attr_fold.proofs.Telling.{own_held, own_none, own_written, others_stay, held_after}
use Rattle.attr_fold.proofs.refolding.refold.Goals as goal

pub returns-in_default-clause-own : goal.returns-in_default-clause-own
returns-in_default-clause-own g c =
    let old = c.args.rows.now in
    own_held old.facts.ordered old.deletes old.changes c.args.p.now old.state old.holders c.requires.held old.holders
    c.are_counted.ensures c.are_counted.ensures (λ name value q f. refl)
    (own_none old.facts.ordered old.deletes old.changes c.args.p.now old.state old.holders c.requires.held
    c.in_default.ensures.stands)

pub returns-in_default-clause-held : goal.returns-in_default-clause-held
returns-in_default-clause-held g c =
    let old = c.args.rows.now in
    held_after old.facts.ordered old.deletes old.changes c.args.p.now old.state old.holders c.requires.held old.holders
    c.are_counted.ensures c.are_counted.ensures (λ name value q f. refl)
    (own_none old.facts.ordered old.deletes old.changes c.args.p.now old.state old.holders c.requires.held
    c.in_default.ensures.stands)

pub returns-clause-others : goal.returns-clause-others
returns-clause-others g c =
    let old = c.args.rows.now in
    others_stay old.facts.ordered old.deletes old.changes c.args.p.now old.state old.holders c.requires.held
    c.write_rows-written.new.holders c.are_counted.ensures c.are_counted-2.ensures c.write_rows-written.ensures.others

pub returns-clause-own : goal.returns-clause-own
returns-clause-own g c =
    let old = c.args.rows.now in
    on_ok_weaker c.write_rows-written.result
    (λ written. own_held old.facts.ordered old.deletes old.changes c.args.p.now old.state old.holders c.requires.held
    c.write_rows-written.new.holders c.are_counted.ensures c.are_counted-2.ensures c.write_rows-written.ensures.others
    (own_written old.facts.ordered old.deletes old.changes c.args.p.now old.state old.holders c.requires.held
    c.in-Some.stands c.in-Some.ensures.stands c.in_ok-turns.turns _ c.in_ok-turns.ensures.told
    c.write_rows-written.new.holders written))
    c.write_rows-written.ensures.written

pub returns-clause-held : goal.returns-clause-held
returns-clause-held g c =
    let old = c.args.rows.now in
    on_ok_weaker c.write_rows-written.result
    (λ written. held_after old.facts.ordered old.deletes old.changes c.args.p.now old.state old.holders c.requires.held
    c.write_rows-written.new.holders c.are_counted.ensures c.are_counted-2.ensures c.write_rows-written.ensures.others
    (own_written old.facts.ordered old.deletes old.changes c.args.p.now old.state old.holders c.requires.held
    c.in-Some.stands c.in-Some.ensures.stands c.in_ok-turns.turns _ c.in_ok-turns.ensures.told
    c.write_rows-written.new.holders written))
    c.write_rows-written.ensures.written

pub returns-in_default-clause-ticks : goal.returns-in_default-clause-ticks
returns-in_default-clause-ticks g c = let e = steps_none c.args.rows.now.facts.ordered c.args.rows.now.state c.args.rows.now.deletes c.args.rows.now.changes c.args.p.now c.in_default.ensures.stands in omega (arith, e, c.standing.ensures.ticks)

pub returns-in_err-turns-clause-ticks : goal.returns-in_err-turns-clause-ticks
returns-in_err-turns-clause-ticks g c =
    let e = steps_some c.args.rows.now.facts.ordered c.args.rows.now.state c.args.rows.now.deletes c.args.rows.now.changes c.args.p.now _ c.in-Some.ensures.stands in
    omega (arith, e, c.standing.ensures.ticks, c.turns_of.ensures.ticks)

pub returns-clause-ticks : goal.returns-clause-ticks
returns-clause-ticks g c =
    let e = steps_some c.args.rows.now.facts.ordered c.args.rows.now.state c.args.rows.now.deletes c.args.rows.now.changes c.args.p.now _ c.in-Some.ensures.stands in
    omega (
      arith,
      e,
      c.standing.ensures.ticks,
      c.turns_of.ensures.ticks,
      c.write_rows-written.ensures.ticks,
      c.in_ok-turns.ensures.few,
    )
