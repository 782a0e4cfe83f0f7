use Rattle.share_model.proofs.Reaching.{shares_reach}
use Rattle.share_model.proofs.laws.share_is_reached.Goals as goal

pub returns : goal.returns
returns c = shares_reach
