use Rattle.store_history.proofs.Several.{own_answered}
use Rattle.store_history.proofs.together.answered.Goals as goal

pub returns-then-is_own : goal.returns-then-is_own
returns-then-is_own c = own_answered c.args.blob (c.requires c.if-is_own.true)
