use Rattle.blob_upload.proofs.Adding.{uploads_add}
use Rattle.blob_upload.proofs.laws.uploads_add.Goals as goal

pub returns : goal.returns
returns c = uploads_add
