use Rattle.blob_routes.proofs.Further.{further}
use Rattle.blob_routes.proofs.laws.further_numbers_tell_nothing.Goals as goal

pub returns : goal.returns
returns c = further
