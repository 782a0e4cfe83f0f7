use Rattle.std.proofs.Common.{◌≡◌, IfOk, Option, List, ℕ, subst}
use Rattle.serde_json.specs.View.{view}
use Rattle.schema_fact.specs.declared.changes.Act.TheVariants as act
use Rattle.schema_json.specs.Facts.{change_by}
use Rattle.schema_json.proofs.claims.set_change.Goals as goal

pub returns : goal.returns
returns c =
    subst (λ (value : Option (List ℕ)). IfOk c.change_by.result (λ change. change ≡ change_by act.Set value (view c.args.object.now)))
    c.text_at.ensures c.change_by.ensures
