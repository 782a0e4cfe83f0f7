use Rattle.std.proofs.Common.{ap, ◌∙◌, ◌&&◌}
use Rattle.index_rows.specs.Counted.{has_deleters}
use Rattle.index_rows.proofs.DeletionCounts.{counts_are_deletion}
use Rattle.row_answers.proofs.answers.is_gone.Goals as goal

pub returns-then-can_be_deleted_at-clause-gone : goal.returns-then-can_be_deleted_at-clause-gone
returns-then-can_be_deleted_at-clause-gone g c =
    c.has_deleters.ensures.some ∙ ap
    (λ b. b && has_deleters c.args.rows.now.state c.args.y.now) c.if-can_be_deleted_at.ensures.value
    ∙ counts_are_deletion c.args.rows.now.facts.ordered c.args.rows.now.deletes c.args.rows.now.state c.requires
    c.args.y.now
