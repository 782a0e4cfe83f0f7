use Rattle.schema_fact.specs.Changes.{change_seen}
use Rattle.attr_fold.proofs.Deciding.{not_own}
use Rattle.attr_fold.proofs.late.decides.Goals as goal

pub returns-then-ne : goal.returns-then-ne
returns-then-ne c =
    not_own c.args.all c.args.key.now.0 c.args.key.now.1 (change_seen c.args.change.now) c.as_str.result.now c.attr.result.now c.as_str.ensures c.attr.ensures c.if-ne.ensures
