use Rattle.std.proofs.Common.{◌≡◌, ◌∙◌, true, false, Some, sym, ap, subst}
use Rattle.std.proofs.lemmas.Result.{IfOk-weaker}
use Rattle.search_query.specs.declared.query.Constraint.TheViews.{out-Logical}
use Rattle.search_query.specs.declared.query.Op.TheVariants.{And}
use Rattle.search_query.specs.View.{asked_view, logical_view}
use Rattle.words_write.specs.Writing.{an_or, an_atom, made, not_made}
use Rattle.words_write.specs.Pushing.{Pushes, text_at, joined_of}
use Rattle.words_write.proofs.Layered.{text_of_word, text_in_group, text_of_and, text_of_one}
use Rattle.words_write.proofs.Pushed.{pushes_as, pair_off, pair_on, negated_on, group_on}
use Rattle.words_write.proofs.writing.+push.Goals as goal

pub push_form-returns-in-None : goal.push_form-returns-in-None
push_form-returns-in-None t c =
    pushes_as _ _ c.args.out.now c.push_one.new.out c.push_one.result
    (text_of_word c.args.constraint.now c.args.least c.in-None.is) c.push_one.ensures

pub push_joined-returns-then-not-needs_group : goal.push_joined-returns-then-not-needs_group
push_joined-returns-then-not-needs_group t c =
    pushes_as _ _ c.args.out.now c.push_operands.new.out c.push_operands.result
    (text_in_group c.args.logical.now c.args.least false (sym c.if-not-needs_group.true ∙ c.needs_group.ensures))
    c.push_operands.ensures

pub push_joined-returns : goal.push_joined-returns
push_joined-returns t c =
    let x = text_at an_or (joined_of (logical_view c.args.logical.now)) in
    let on = subst (λ b. Pushes x c.append.new.self c.push_operands-2.new.out b) c.if-not-branch.false
    c.in_ok-push_operands.ensures in
    subst (λ y. Pushes y c.args.out.now c.append-2.new.self true)
    (text_in_group c.args.logical.now c.args.least true (sym c.if-not-needs_group.false ∙ c.needs_group.ensures))
    (group_on x c.args.out.now c.append.new.self c.push_operands-2.new.out c.append-2.new.self c.in_ok-append.ensures on
    c.in_ok-append-2.ensures)

pub push_negated-returns : goal.push_negated-returns
push_negated-returns t c =
    let x = made (asked_view c.args.a.now) in
    pushes_as _ _ c.args.out.now c.push_operand.new.out c.push_operand.result
    (text_of_one c.args.b.now (not_made x) (sym c.is_some.ensures ∙ c.if-is_some.false))
    (IfOk-weaker c.push_operand.result (Pushes (text_at an_atom x) c.append.new.self c.push_operand.new.out) _
    (λ b is. negated_on x c.args.out.now c.append.new.self c.push_operand.new.out b c.in_ok-append.ensures is)
    c.push_operand.ensures)

pub push_operands-returns-in-Some-And : goal.push_operands-returns-in-Some-And
push_operands-returns-in-Some-And t c =
    let pair = c.push_pair-in-Some-And in
    let some : (out-Logical c.args.logical.now).op ≡ Some c.in-Some-And.field-0 = c.in-Some-And.is in
    let op : c.in-Some-And.field-0 ≡ And = rw some at c.in-Some-And.field-0-is in
    pushes_as _ _ c.args.out.now pair.new.out pair.result (text_of_and c.args.logical.now (some ∙ ap Some op))
    pair.ensures

pub push_pair-returns-then-not-branch : goal.push_pair-returns-then-not-branch
push_pair-returns-then-not-branch t c =
    let o = out-Logical c.args.logical.now in
    let x = text_at c.args.at_a (made (asked_view o.a)) in
    pair_off x (text_at c.args.at_b (made (asked_view o.b))) c.args.between.now c.args.out.now c.push_operand.new.out
    (subst (λ b. Pushes x c.args.out.now c.push_operand.new.out b) c.if-not-branch.true c.in_ok-push_operand.ensures)

pub push_pair-returns : goal.push_pair-returns
push_pair-returns t c =
    let o = out-Logical c.args.logical.now in
    let x = text_at c.args.at_a (made (asked_view o.a)) in
    let y = text_at c.args.at_b (made (asked_view o.b)) in
    let on = subst (λ b. Pushes x c.args.out.now c.push_operand.new.out b) c.if-not-branch.false
    c.in_ok-push_operand.ensures in
    IfOk-weaker c.push_operand-2.result (Pushes y c.append.new.self c.push_operand-2.new.out) _
    (λ b is. pair_on x y c.args.between.now c.args.out.now c.push_operand.new.out c.append.new.self
    c.push_operand-2.new.out b on c.in_ok-append.ensures is)
    c.push_operand-2.ensures
