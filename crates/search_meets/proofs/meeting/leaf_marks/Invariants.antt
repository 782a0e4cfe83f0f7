use Rattle.std.proofs.Common.{◌≡◌, map, take}
use Rattle.index_look.specs.Known.{IsSo}
use Rattle.search_query.specs.View.{leaves_of}
use Rattle.search_query.specs.declared.query.Constraint.TheViews.{out-Constraint}
use Rattle.search_meets.specs.Meaning.{leaves_meet}
use Rattle.search_meets.proofs.meeting.leaf_marks.Given as goal

abbrev pub invariant-loop-r : goal.invariant-loop-r
invariant-loop-r g l = (l.out.items ≡ map (leaves_meet (g.K.Look.facts l.look) (leaves_of (out-Constraint l.constraint))) (take l.r-index l.refs))
    × IsSo (g.K.Look.facts l.look) l.known
