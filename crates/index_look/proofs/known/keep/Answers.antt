use Rattle.index_look.proofs.Keeping.{added, unchanged}
use Rattle.index_look.proofs.known.keep.Goals as goal

pub returns-clause-holds : goal.returns-clause-holds
returns-clause-holds c test so h = added test _ _ _ c.in_ok-insert.ensures.updates.0 so h

pub returns-in_err-insert-clause-holds : goal.returns-in_err-insert-clause-holds
returns-in_err-insert-clause-holds c test so h = unchanged test _ _ c.in_err-insert.ensures.err so
