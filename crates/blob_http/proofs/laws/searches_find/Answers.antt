use Rattle.blob_http.proofs.Finds.{searches_find}
use Rattle.blob_http.proofs.laws.searches_find.Goals as goal

pub returns : goal.returns
returns c = searches_find
