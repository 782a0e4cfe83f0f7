use Rattle.blob_upload.proofs.Fronts.{told_first}
use Rattle.blob_upload.proofs.Fitting.{contents_fit}
use Rattle.blob_upload.proofs.laws.fronts_of_bodies.Goals as goal

pub returns : goal.returns
returns c = record { first = told_first; fit = contents_fit }
