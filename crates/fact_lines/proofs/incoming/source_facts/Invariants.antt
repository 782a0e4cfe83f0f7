use Rattle.std.proofs.Common.{◌≤◌, ◌-◌, ◌+◌}
use Rattle.fact_lines.specs.Incoming.{Came}
use Rattle.fact_lines.proofs.incoming.source_facts.Given as goal

-- what was taken from the source was taken up
abbrev pub invariant-reads : goal.invariant-reads
invariant-reads g l =
    let left = g.S.Source.left in
    let faults = g.S.Source.faults in
    record {
      short : l.at ≤ l.limit;
      later : faults l.fn.source ≤ faults l.source;
      came : Came (left l.fn.source) (left l.source) l.at l.incoming.scanner l.incoming.seen l.incoming.facts;
    }

abbrev pub decreases-reads : goal.decreases-reads
decreases-reads g l = l.limit + 1 - l.at
