use Rattle.blob_upload.proofs.SoFar.{sound_so_far}
use Rattle.blob_upload.proofs.laws.uploads_so_far.Goals as goal

pub returns : goal.returns
returns c = sound_so_far
