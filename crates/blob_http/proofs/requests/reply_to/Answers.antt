use Rattle.std.proofs.Common.{Ok, ap, sym, ◌∙◌}
use Rattle.blob_http.proofs.Firsts.{first_unrouted}
use Rattle.blob_http.proofs.Requesting.{upload_is}
use Rattle.blob_http.proofs.requests.reply_to.Goals as goal

pub returns-in-Err-clause-comes : goal.returns-in-Err-clause-comes
returns-in-Err-clause-comes g c x0 flow read = record {
  replies = c.reply_early.ensures.replies x0 (g.S.Source.left c.args.source.now) flow c.args.wire.now read
      (first_unrouted c.args.wire.now.head c.args.head.now c.in-Err.operation (sym c.in-Err.ensures.routed));
  passes = tt;
  none = tt;
}

pub reply_to_upload-requires-clause-upload : goal.reply_to_upload-requires-clause-upload
reply_to_upload-requires-clause-upload g c =
    sym c.in-Ok.ensures.routed ∙ ap Ok (upload_is c.in-Ok.found (sym c.is_upload.ensures ∙ c.if-is_upload.true))
