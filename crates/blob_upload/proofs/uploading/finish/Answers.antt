use Rattle.std.proofs.Common.{Err, sym, subst}
use Rattle.blob_upload.specs.Taking.{Finishes}
use Rattle.blob_upload.proofs.Ending.{finishes}
use Rattle.blob_upload.proofs.uploading.finish.Goals as goal

pub returns : goal.returns
returns c =
    subst (Finishes c.args.reading.parts) (sym c.end_of_part.ensures)
    (finishes c.args.reading.parts (Err c.in-Err.fault) c.in-Err.ensures.memory c.in-Err.ensures.ended)
