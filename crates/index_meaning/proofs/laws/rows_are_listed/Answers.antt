use Rattle.index_meaning.proofs.Listing.{rows_are_listed}
use Rattle.index_meaning.proofs.laws.rows_are_listed.Goals as goal

pub returns : goal.returns
returns c = rows_are_listed
