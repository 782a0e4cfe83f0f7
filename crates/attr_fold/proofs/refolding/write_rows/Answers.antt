use Rattle.std.proofs.Common.{arith}
use Rattle.attr_fold.proofs.Ticks.{size_less}
use Rattle.attr_fold.proofs.Written.{writing_on, writing_falls}
use Rattle.attr_fold.proofs.refolding.write_rows.Goals as goal

pub rows-smaller : goal.rows-smaller
rows-smaller g c =
    writing_falls c.args.p.now c.args.stands c.args.turns c.args.holders.now c.requires c.rows.turns c.rows.holders
    c.rows.invariant.writing
    c.in-Some.key c.in-Some.turn c.in-Some.ensures.held c.pop_first.new.self c.in-Some.ensures.taken

pub rows-preserved : goal.rows-preserved
rows-preserved g c = record {
  writing = writing_on c.args.p.now c.args.stands c.args.turns c.args.holders.now c.requires c.rows.turns c.rows.holders
      c.rows.invariant.writing
      c.in-Some.key c.in-Some.turn c.in-Some.ensures.held c.pop_first.new.self c.in-Some.ensures.taken
      c.write_row.new.holders c.in_ok-write_row.ensures.ok;
  ticks = let less = size_less c.rows.turns.given c.pop_first.new.self c.in-Some.key c.in-Some.turn c.in-Some.ensures.held c.in-Some.ensures.taken in omega (arith, less, c.rows.invariant.ticks, c.write_row.ensures.ticks);
}

pub returns-in_err-write_row-clause-ticks : goal.returns-in_err-write_row-clause-ticks
returns-in_err-write_row-clause-ticks g c =
    let less = size_less c.rows.turns.given c.pop_first.new.self c.in-Some.key c.in-Some.turn c.in-Some.ensures.held c.in-Some.ensures.taken in omega (arith, less, c.rows.invariant.ticks, c.write_row.ensures.ticks)
