use Rattle.std.proofs.Common.{subst, sym}
use Rattle.store_history.specs.Once.{HasSame}
use Rattle.store_history.proofs.Refs.{has_more}
use Rattle.store_history.proofs.asking.add_once.Goals as goal

pub returns-in_ok-push-clause-seen : goal.returns-in_ok-push-clause-seen
returns-in_ok-push-clause-seen c =
    subst (HasSame c.insert.new.self) (sym c.in_ok-push.ensures.ok) (has_more c.args.seen.now c.insert.new.self c.args.once.now c.args.r.now c.requires c.in_ok-insert.ensures.updates.0)
