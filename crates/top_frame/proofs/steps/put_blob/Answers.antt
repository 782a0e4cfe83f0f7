use Rattle.blobref.proofs.Digests.{IsOwnRef-named}
use Rattle.pack_store.proofs.PutRuns.{put_leaves}
use Rattle.top_frame.specs.Limits.{limits}
use Rattle.top_frame.proofs.steps.put_blob.Goals as goal

pub put_own-requires : goal.put_own-requires
put_own-requires g c = record { own = IsOwnRef-named c.args.r.now c.args.bytes.now c.requires.own }

pub returns-clause-leaves : goal.returns-clause-leaves
returns-clause-leaves g c =
    put_leaves g.D.Disk limits g.met.D.Disk.counts_now g.met.D.Disk.only_now c.args.store.now c.put_own.new.self c.args.r.now c.args.bytes.now
    (IsOwnRef-named c.args.r.now c.args.bytes.now c.requires.own) c.puts_last.ensures c.requires.small c.put_own.ensures.any_moment c.put_own.result c.put_own.ensures.answer c.put_own.ensures.leaves
    c.put_own.ensures.acknowledged c.put_own.ensures.failed
