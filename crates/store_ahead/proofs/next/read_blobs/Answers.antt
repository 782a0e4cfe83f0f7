use Rattle.std.proofs.Common.{is_ok, arith}
use Rattle.pack_store.proofs.Still.{still_then}
use Rattle.store_ahead.proofs.Ahead.{more_stand}
use Rattle.store_ahead.proofs.next.read_blobs.Goals as goal

pub loop-r-preserved : goal.loop-r-preserved
loop-r-preserved g c = record {
  stand = more_stand g.D.Disk c.args.store.now c.loop-r.store c.loop-r.blobs.items c.push.new.self.items (c.r-item.result, c.in-Some.bytes) (is_ok c.push.result) c.loop-r.invariant.stays
      c.loop-r.invariant.stand c.in-Some.ensures.stands c.push.ensures.items;
  stays = still_then g.D.Disk g.met.D.Disk.counts_now g.met.D.Disk.only_now c.args.store.now c.loop-r.store c.read_blob.new.store c.loop-r.invariant.stays c.read_blob.ensures.stays;
  later = omega (arith, c.loop-r.invariant.later, c.read_blob.ensures.later);
}

pub returns-then-is_err-clause-stand : goal.returns-then-is_err-clause-stand
returns-then-is_err-clause-stand g c =
    more_stand g.D.Disk c.args.store.now c.loop-r.store c.loop-r.blobs.items c.push.new.self.items (c.r-item.result, c.in-Some.bytes) (is_ok c.push.result) c.loop-r.invariant.stays
    c.loop-r.invariant.stand c.in-Some.ensures.stands c.push.ensures.items
