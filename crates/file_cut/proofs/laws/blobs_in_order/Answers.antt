use Rattle.file_cut.proofs.Cuts.{blobs_in_order}
use Rattle.file_cut.proofs.laws.blobs_in_order.Goals as goal

pub returns : goal.returns
returns c = blobs_in_order
