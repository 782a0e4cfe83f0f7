use Rattle.std.specs.List.{list_any}
use Rattle.std.specs.Str.{bytes_eq}
use Rattle.claim_model.specs.Claims.{has_value, member_attribute}
use Rattle.search_meets.proofs.Gathering.{one_parent_more}
use Rattle.search_meets.proofs.parents.enter_all.Goals as goal

pub loop-p-preserved : goal.loop-p-preserved
loop-p-preserved g c = λ q is.
    one_parent_more (has_value (g.K.Look.facts c.args.look.now) (g.K.Look.accepts c.args.look.now) c.args.when.now member_attribute q) c.args.live.now c.loop-p.p-index c.p-item.result
    (list_any (bytes_eq q) c.args.refs.now) _ _ c.requires.ascending c.loop-p-test.true c.p-item.is (c.in_ok-enter.ensures q is) (c.loop-p.invariant q is)
