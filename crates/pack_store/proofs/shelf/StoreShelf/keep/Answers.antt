use Rattle.std.proofs.Common.{arith}
use Rattle.pack_store.proofs.StoreShelf.{content_refused, content_after, store_leaves_own}
use Rattle.pack_store.proofs.shelf.StoreShelf.keep.Goals as goal

pub returns-clause-kept : goal.returns-clause-kept
returns-clause-kept g c =
    content_after g.D.Disk c.args.self.now c.put_own.new.self c.args.r.now c.args.bytes.now c.put_own.result c.put_own.ensures.answer c.put_own.ensures.leaves

pub returns-clause-refused : goal.returns-clause-refused
returns-clause-refused g c = content_refused g.D.Disk c.args.self.now c.put_own.new.self c.args.r.now c.args.bytes.now c.put_own.result c.put_own.ensures.leaves

pub returns-clause-leaves : goal.returns-clause-leaves
returns-clause-leaves g c =
    store_leaves_own g.D.Disk g.met.D.Disk.counts_now g.met.D.Disk.only_now c.args.self.now c.put_own.new.self c.args.r.now c.args.bytes.now c.requires.own
    (omega (arith, c.if-size-gt-MAX_SIZE.false)) c.puts_last.ensures c.put_own.result c.put_own.ensures.any_moment c.put_own.ensures.answer c.put_own.ensures.leaves
    c.put_own.ensures.acknowledged c.put_own.ensures.failed
