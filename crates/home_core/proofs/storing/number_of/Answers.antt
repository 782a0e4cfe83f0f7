use Rattle.std.proofs.Common.{◌∙◌}
use Rattle.std.proofs.lemmas.Iterator.Adapters.{position_from-zero}
use Rattle.histories.specs.Stores.{Blob, is_ref}
use Rattle.home_core.proofs.storing.number_of.Goals as goal

pub returns-in-Some : goal.returns-in-Some
returns-in-Some c = c.in-Some.ensures ∙ position_from-zero (λ (b : Blob). is_ref c.args.r.now b.0) c.args.store.now

pub returns-in-None : goal.returns-in-None
returns-in-None c = c.in-None.ensures ∙ position_from-zero (λ (b : Blob). is_ref c.args.r.now b.0) c.args.store.now
