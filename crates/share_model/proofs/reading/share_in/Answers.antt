use Rattle.std.proofs.Common.{arith}
use Rattle.share_model.proofs.Payloads.{share_short, share_long, first_whole, gt_is, gt_isnt}
use Rattle.share_model.proofs.reading.share_in.Goals as goal

pub returns-then-bytes-gt-MAX_SCHEMA : goal.returns-then-bytes-gt-MAX_SCHEMA
returns-then-bytes-gt-MAX_SCHEMA c =
    share_long c.args.bytes.now (gt_is c.args.bytes.now (omega (arith, c.if-bytes-gt-MAX_SCHEMA.true)))

pub returns : goal.returns
returns c =
    first_whole c.args.bytes.now c.signed_share_in.result
    (share_short c.args.bytes.now (gt_isnt c.args.bytes.now (omega (arith, c.if-bytes-gt-MAX_SCHEMA.false))))
    c.signed_share_in.ensures
