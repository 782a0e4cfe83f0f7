use Rattle.blob_http.proofs.Completing.{valid_is_served}
use Rattle.blob_http.proofs.laws.valid_requests_are_served.Goals as goal

pub returns : goal.returns
returns c = valid_is_served
