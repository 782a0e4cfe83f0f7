use Rattle.pack_store.proofs.store.Store.open_watched.Goals as goal

pub returns-in-Ok-clause-opened : goal.returns-in-Ok-clause-opened
returns-in-Ok-clause-opened g c = c.in-Ok.ensures.opened c.args.limits

pub returns-in-Ok-clause-read : goal.returns-in-Ok-clause-read
returns-in-Ok-clause-read g c = c.in-Ok.ensures.read c.args.limits
