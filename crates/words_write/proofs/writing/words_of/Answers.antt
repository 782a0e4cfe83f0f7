use Rattle.std.proofs.Common.{◌∙◌, Some, None, ap, subst}
use Rattle.search_query.specs.View.{view}
use Rattle.words_write.specs.Pushing.{Pushes}
use Rattle.words_write.specs.Writing.{line_of}
use Rattle.words_write.proofs.Lines.{is_written}
use Rattle.words_write.proofs.Pushed.{none_written, some_written}
use Rattle.words_write.proofs.writing.words_of.Goals as goal

pub returns-then-not-branch-clause-written : goal.returns-then-not-branch-clause-written
returns-then-not-branch-clause-written c =
    let x = line_of (view c.args.constraint.now) in
    is_written (view c.args.constraint.now) None
    (none_written x c.new-line.result c.push_form.new.out
    (subst (λ b. Pushes x c.new-line.result c.push_form.new.out b) c.if-not-branch.true c.in_ok-push_form.ensures))

pub returns-clause-line : goal.returns-clause-line
returns-clause-line c =
    let x = line_of (view c.args.constraint.now) in
    ap Some c.in_ok-text.ensures
    ∙ some_written x c.new-line.result c.push_form.new.out c.new-line.ensures
    (subst (λ b. Pushes x c.new-line.result c.push_form.new.out b) c.if-not-branch.false c.in_ok-push_form.ensures)

pub returns-clause-written : goal.returns-clause-written
returns-clause-written c =
    is_written (view c.args.constraint.now) (Some c.in_ok-text.field-0) (returns-clause-line c)
