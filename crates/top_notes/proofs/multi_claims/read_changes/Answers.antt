use Rattle.std.proofs.Common.{ap, ◌∙◌}
use Rattle.schema_json.specs.Facts.{change_list_in}
use Rattle.top_notes.proofs.Changing.{listed_in, unlisted_in}
use Rattle.top_notes.proofs.multi_claims.read_changes.Goals as goal

pub returns-clause-read : goal.returns-clause-read
returns-clause-read g c =
    rw c.ok_or.ensures.value (listed_in g.S.Source c.args.source.now c.read_input.new.source c.in-Ok.text.items
    c.in-Ok.ensures.read c.in_ok-changes.changes
    (c.in_ok-changes.ensures.value ∙ ap change_list_in c.deref.ensures.value))

pub returns-clause-refused : goal.returns-clause-refused
returns-clause-refused g c =
    rw c.ok_or.ensures.value (unlisted_in g.S.Source c.args.source.now c.read_input.new.source c.in-Ok.text.items
    c.in-Ok.ensures.read c.in_ok-changes.changes
    (c.in_ok-changes.ensures.value ∙ ap change_list_in c.deref.ensures.value))
