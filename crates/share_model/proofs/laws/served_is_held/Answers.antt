use Rattle.share_model.proofs.Reaching.{served_is_held}
use Rattle.share_model.proofs.laws.served_is_held.Goals as goal

pub returns : goal.returns
returns c = served_is_held
