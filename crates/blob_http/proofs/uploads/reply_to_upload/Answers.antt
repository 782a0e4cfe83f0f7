use Rattle.std.proofs.Common.{◌≡◌, ℕ, List, [], Ok, Err, true, not, ◌||◌, length, sym, ap, subst, ◌∙◌}
use Rattle.blob_routes.specs.Before.{upload_early}
use Rattle.blob_http.specs.Operations.{IsFew}
use Rattle.blob_http.proofs.Firsts.{first_upload, upload_first, upload_bounds}
use Rattle.std.proofs.lemmas.Result.{IfErr-weaker}
use Rattle.std.specs.Option.{option_map}
use Rattle.blob_upload.specs.Uploads.{Uploads}
use Rattle.http_exchange.specs.HeadPlaces.{piece}
use Rattle.blob_http.specs.Keeping.{UploadMade, is_whole}
use Rattle.blob_http.specs.Handling.{IsUploadEntry, is_memory}
use Rattle.blob_http.proofs.Requesting.{none_read}
use Rattle.blob_http.proofs.Uploading.{boundary_is, upload_replies, upload_passes, upload_none, fault_so, if_ok_three}
use Rattle.blob_http.proofs.uploads.reply_to_upload.Goals as goal

pub reply_early-requires-clause-few : goal.reply_early-requires-clause-few
reply_early-requires-clause-few g c = subst IsFew (sym c.refused.ensures) tt

pub returns-in-Err-clause-comes : goal.returns-in-Err-clause-comes
returns-in-Err-clause-comes g c x0 flow read = record {
  replies = c.reply_early.ensures.replies x0 (g.S.Source.left c.args.source.now) flow c.args.wire.now read
      (first_upload c.args.wire.now.head c.args.head.now (Err c.in-Err.refusal) c.requires.upload
      (ap (upload_early c.args.head.now.framing) (sym c.content_type.ensures) ∙ c.in-Err.ensures.err)
      ∙ ap Err (sym c.refused.ensures));
  passes = tt;
  none = tt;
}

pub with_boundary-requires : goal.with_boundary-requires
with_boundary-requires g c =
    boundary_is (option_map (piece c.args.wire.now.head) c.args.head.now.content_type) c.in-Ok.boundary.now
    (upload_bounds c.args.wire.now.head c.args.head.now _ c.in-Ok.boundary.now c.content_type.ensures
    c.in-Ok.ensures.ok)

pub take_parts-end-requires-clause-fresh : goal.take_parts-end-requires-clause-fresh
take_parts-end-requires-clause-fresh g c = (c.in-Ok.boundary.now, c.in-Ok-with_boundary.ensures)

pub returns-in_default-clause-comes : goal.returns-in_default-clause-comes
returns-in_default-clause-comes g c x0 flow read = record {
  replies = none_read x0 (g.S.Source.left c.args.source.now) flow c.args.wire.now c.args.head.now read
      (g.H.Home.tells c.args.service.now.home.now) (g.H.Home.sight c.args.pass.now)
      (g.H.Home.sight c.args.pass.now) c.out_of_memory.result.entry c.out_of_memory.result.reply
      c.out_of_memory.result.closes
      (c.out_of_memory.ensures.answers (g.H.Home.tells c.args.service.now.home.now) true)
      c.out_of_memory.ensures.reply c.out_of_memory.ensures.closes;
  passes = tt;
  none = tt;
}

pub returns-clause-comes : goal.returns-clause-comes
returns-clause-comes g c x0 flow read =
    let v = g.H.Home.sight c.args.pass.now in
    let w = g.H.Home.sight c.take_parts-end.new.pass in
    let x1 = g.S.Source.left c.args.source.now in
    let x2 = g.S.Source.left c.take_parts-end.new.source in
    let mid = c.args.wire.now in
    let new = c.take_parts-end.new.wire in
    let says = c.args.head.now in
    let boundary = c.in-Ok.boundary.now in
    let kept = c.take_parts-end.new.kept in
    let end = c.take_parts-end.result in
    let tells = g.H.Home.tells c.args.service.now.home.now in
    let first = upload_first mid.head says _ boundary c.content_type.ensures c.in-Ok.ensures.ok c.requires.upload in
    let bounds = upload_bounds mid.head says _ boundary c.content_type.ensures c.in-Ok.ensures.ok in
    let u : Uploads boundary x1 x2 mid new v w [] kept end = subst
    (λ (k : List (List ℕ × ℕ)). Uploads boundary x1 x2 mid new v w k kept end) c.empty-kept.ensures
    (c.take_parts-end.ensures.uploads boundary c.in-Ok-with_boundary.ensures) in
    record {
      replies = if_ok_three c.reply_to_end.result (λ r. UploadMade says.closes kept end (Ok r.reply))
          (λ r. IsUploadEntry w (length kept) r.reply r.entry)
          (λ r. r.closes ≡ ((says.closes || not (is_whole end)) || is_memory r.reply)) _
          (λ r p q t. upload_replies x0 x1 x2 flow mid new says read first boundary bounds tells v w kept end u
          r.entry r.reply r.closes p q t)
          c.reply_to_end.ensures.reply c.reply_to_end.ensures.entry c.reply_to_end.ensures.closes;
      passes = IfErr-weaker c.reply_to_end.result (λ e. UploadMade says.closes kept end (Err e)) _
          (λ e p. upload_passes x0 x1 x2 flow mid new says read first boundary bounds tells v w kept end u
          c.take_parts-end.ensures.head.1 e p)
          c.reply_to_end.ensures.ends;
      none = IfErr-weaker c.reply_to_end.result (λ e. UploadMade says.closes kept end (Err e)) _
          (λ e p. upload_none x0 x1 x2 flow mid new says read first boundary bounds tells v w kept end u
          c.take_parts-end.ensures.head.1 e p)
          c.reply_to_end.ensures.ends;
    }

pub returns-clause-fault : goal.returns-clause-fault
returns-clause-fault g c = λ e.
    c.take_parts-end.ensures.fault
    (fault_so c.args.head.now.closes c.take_parts-end.new.kept c.take_parts-end.result c.reply_to_end.result
    c.reply_to_end.ensures.ends e)
