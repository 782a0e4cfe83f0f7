use Rattle.std.proofs.Common.{◌∙◌, arith}
use Rattle.search_meets.proofs.Gathering.{all_members, one_more}
use Rattle.search_meets.proofs.parents.enter.Goals as goal

pub loop-member-preserved : goal.loop-member-preserved
loop-member-preserved g c = λ q is. one_more _ c.loop-member.member-index c.member-item.result c.args.p.now q _ _ _ c.loop-member-test.true c.member-item.is (c.in_ok-enter_under.ensures q is) (c.loop-member.invariant q is)

pub returns : goal.returns
returns g c = λ q is. all_members _ _ c.loop-member.member-index c.args.p.now q _ _ (omega (arith, c.loop-member-test.false)) (c.as_slice-member-items.ensures ∙ c.in_ok-members.ensures) (c.loop-member.invariant q is)
