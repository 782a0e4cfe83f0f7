use Rattle.std.proofs.Common.{◌≡◌, map, take, drop}
use Rattle.search_query.specs.View.{view}
use Rattle.search_meets.specs.Meaning.{meets}
use Rattle.search_meets.specs.Values.{each_or_any}
use Rattle.search_meets.proofs.meeting.+meets.Given as goal

abbrev pub invariant-linked_marks-loop-linked : goal.invariant-linked_marks-loop-linked
invariant-linked_marks-loop-linked g l =
    l.out.items ≡ map (each_or_any l.each (meets (g.K.Look.facts l.look) (g.K.Look.accepts l.look) (view l.constraint) l.when)) (take l.linked-index l.links)

abbrev pub invariant-each_or_any-loop-r : goal.invariant-each_or_any-loop-r
invariant-each_or_any-loop-r g l =
    each_or_any l.each (meets (g.K.Look.facts l.look) (g.K.Look.accepts l.look) (view l.constraint) l.when) l.linked
    ≡ each_or_any l.each (meets (g.K.Look.facts l.look) (g.K.Look.accepts l.look) (view l.constraint) l.when) (drop l.r-index l.linked)
