use Rattle.std.proofs.Common.{◌∙◌}
use Rattle.std.proofs.lemmas.Result.{IfOk-weaker}
use Rattle.search_query.specs.View.{view}
use Rattle.search_meets.specs.Meaning.{meets}
use Rattle.search_meets.proofs.Marked.{chosen_right}
use Rattle.search_meets.proofs.meeting.met.Goals as goal

pub returns : goal.returns
returns g c =
    IfOk-weaker c.chosen.result _ _
    (λ m is. chosen_right (meets (g.K.Look.facts c.args.look.now) (g.K.Look.accepts c.args.look.now) (view c.args.constraint.now) c.args.when.now) c.args.refs.now m.items _
    (c.deref.ensures.value ∙ c.in_ok-marks.ensures) is)
    c.chosen.ensures
