use Rattle.std.proofs.Common.{◌∙◌, arith}
use Rattle.fact_lines.specs.Load.{place_at}
use Rattle.fact_lines.proofs.Loading.{lacks, goes, all_of, none_yet, none_at, none_after, no_numbers}
use Rattle.fact_lines.proofs.load.inserted.Goals as goal

pub insert-requires-clause-fresh : goal.insert-requires-clause-fresh
insert-requires-clause-fresh g c =
    none_at c.args.order c.len-count.result c.loop-turn.turn c.place_at-i.result c.loop-turn.index.numbers
    c.loop-turn-test.true c.place_at-i.ensures c.loop-turn.invariant.numbers

pub insert-requires-clause-alone : goal.insert-requires-clause-alone
insert-requires-clause-alone g c =
    lacks c.args.facts.now c.requires.distinct c.args.order c.len-count.result c.loop-turn.turn c.place_at-i.result
    c.loop-turn.index.facts c.len-count.ensures c.loop-turn-test.true c.place_at-i.ensures c.loop-turn.invariant.facts

pub loop-turn-preserved : goal.loop-turn-preserved
loop-turn-preserved g c = record {
  facts = goes c.args.facts.now c.requires.distinct c.args.order c.len-count.result c.loop-turn.turn
      c.place_at-i.result c.loop-turn.index.facts c.insert.new.index.facts c.len-count.ensures c.loop-turn-test.true
      c.place_at-i.ensures c.loop-turn.invariant.facts c.in_ok-insert.ensures.facts;
  numbers = none_after c.args.order c.len-count.result c.loop-turn.turn c.place_at-i.result
      c.loop-turn.index.numbers c.insert.new.index.numbers c.place_at-i.ensures c.in_ok-insert.ensures.numbers
      c.loop-turn.invariant.numbers;
  keys = c.insert.ensures.keys ∙ c.loop-turn.invariant.keys;
}

pub loop-turn-init : goal.loop-turn-init
loop-turn-init g c = record {
  facts = none_yet c.args.order c.args.facts.now c.fresh-index.result.facts c.fresh-index.ensures.facts;
  numbers = λ t reached within.
      no_numbers c.fresh-index.result.numbers c.fresh-index.ensures.numbers
      (place_at c.args.order c.len-count.result t);
  keys = c.fresh-index.ensures.keys;
}
