use Rattle.std.proofs.Common.{sym, subst}
use Rattle.blob_upload.specs.declared.upload_end.UploadEnd.{UploadEnd}
use Rattle.blob_http.specs.Keeping.{UploadMade}
use Rattle.blob_http.proofs.uploads.reply_of_end.Goals as goal

pub returns-in-Ended : goal.returns-in-Ended
returns-in-Ended c =
    subst (λ (z : UploadEnd). UploadMade c.args.closes c.args.kept.now z c.ended.result) (sym c.in-Ended.is)
    (c.ended.ensures c.args.closes)
