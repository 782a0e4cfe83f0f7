use Rattle.blob_upload.proofs.Coming.{uploads_come}
use Rattle.blob_upload.proofs.Counting.{parts_are_few}
use Rattle.blob_upload.proofs.laws.uploads_come.Goals as goal

pub returns : goal.returns
returns c = record { come = uploads_come; few = parts_are_few }
