use Rattle.std.proofs.Common.{◌≡◌, ◌+◌, ◌∷◌, drop, sym, subst}
use Rattle.schema_write.proofs.PartsWritten.{joined_after, next_left, next_text, next_ref, refs_after}
use Rattle.schema_write.proofs.files.push_parts.Goals as goal

pub returns-clause-text : goal.returns-clause-text
returns-clause-text c = joined_after c.args.text.now.items c.push_part.new.text.items c.loop-part.text.items c.args.parts.now c.in-Some.first.now c.in-Some.others.now c.loop-part.part-index c.in-Some.ensures.cases.0 c.in_ok-push_part.ensures.text c.loop-part-test.false c.loop-part.invariant.0

pub returns-clause-refs : goal.returns-clause-refs
returns-clause-refs c = refs_after c.args.parts.now c.in-Some.first.now c.in-Some.others.now c.loop-part.part-index c.in-Some.ensures.cases.0 c.in_ok-push_part.ensures.refs c.loop-part-test.false c.loop-part.invariant.1

pub loop-part-preserved : goal.loop-part-preserved
loop-part-preserved c =
    let others = c.in-Some.others.now in
    let i = c.loop-part.part-index in
    let part = c.part-item.result in
    let left : drop i others ≡ part ∷ drop (i + 1) others = subst (λ p. drop i others ≡ p ∷ drop (i + 1) others) (sym c.part-item.is) (next_left others i part c.loop-part-test.true) in (
      next_text c.loop-part.text.items c.push.new.self.items c.push_part-in-loop-part.new.text.items _ others i part left c.in_ok-push.ensures.items c.in_ok-push_part-2.ensures.text c.loop-part.invariant.0,
      next_ref others i part _ left c.in_ok-push_part-2.ensures.refs c.loop-part.invariant.1,
    )
