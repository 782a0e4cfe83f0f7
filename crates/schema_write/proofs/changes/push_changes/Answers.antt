use Rattle.std.proofs.Common.{◌≡◌, ◌+◌, ◌∷◌, drop, sym, subst}
use Rattle.schema_write.specs.Blobs.{change_item}
use Rattle.schema_write.proofs.PartsWritten.{next_left}
use Rattle.schema_write.proofs.ItemsWritten.{joined_after, next_text, next_said, all_said}
use Rattle.schema_write.proofs.changes.push_changes.Goals as goal

pub returns-clause-text : goal.returns-clause-text
returns-clause-text c = joined_after change_item c.args.text.now.items c.push_change.new.text.items c.loop-change.text.items c.args.changes.now c.in-Some.first.now c.in-Some.others.now c.loop-change.change-index c.in-Some.ensures.cases.0 c.in_ok-push_change.ensures.text c.loop-change-test.false c.loop-change.invariant.0

pub returns-clause-said : goal.returns-clause-said
returns-clause-said c = all_said c.args.changes.now c.in-Some.first.now c.in-Some.others.now c.loop-change.change-index c.in-Some.ensures.cases.0 c.in_ok-push_change.ensures.said c.loop-change-test.false c.loop-change.invariant.1

pub loop-change-preserved : goal.loop-change-preserved
loop-change-preserved c =
    let others = c.in-Some.others.now in
    let i = c.loop-change.change-index in
    let change = c.change-item.result in
    let left : drop i others ≡ change ∷ drop (i + 1) others = subst (λ p. drop i others ≡ p ∷ drop (i + 1) others) (sym c.change-item.is) (next_left others i change c.loop-change-test.true) in (
      next_text change_item c.loop-change.text.items c.push.new.self.items c.push_change-in-loop-change.new.text.items _ others i change left c.in_ok-push.ensures.items c.in_ok-push_change-2.ensures.text c.loop-change.invariant.0,
      next_said others i change c.loop-change-test.true c.change-item.is left c.in_ok-push_change-2.ensures.said c.loop-change.invariant.1,
    )
