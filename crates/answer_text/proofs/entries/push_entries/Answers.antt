use Rattle.answer_text.proofs.Joined.{joined_after}
use Rattle.answer_text.proofs.entries.push_entries.Goals as goal

pub returns : goal.returns
returns g c = joined_after g.T.Entry.entry c.args.text.now.items c.push_to.new.text.items c.loop-item.text.items c.args.items.now c.in-Some.first.now c.in-Some.others.now c.loop-item.item-index c.in-Some.ensures.cases.0 c.in_ok-push_to.ensures c.loop-item-test.false c.loop-item.invariant
