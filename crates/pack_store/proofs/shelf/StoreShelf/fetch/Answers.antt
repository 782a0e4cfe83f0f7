use Rattle.pack_store.proofs.PutRuns.{reading_puts_nothing}
use Rattle.pack_store.proofs.StoreShelf.{content_fetched, content_read, content_cause}
use Rattle.pack_store.proofs.shelf.StoreShelf.fetch.Goals as goal

pub returns-clause-found : goal.returns-clause-found
returns-clause-found g c = content_fetched g.D.Disk c.args.self.now c.get.new.self c.args.r.now c.get.result c.get.ensures.bytes

pub returns-clause-told : goal.returns-clause-told
returns-clause-told g c = content_read g.D.Disk c.args.self.now c.get.new.self c.get.ensures.stays

pub returns-clause-cause : goal.returns-clause-cause
returns-clause-cause g c = content_cause g.D.Disk c.args.self.now c.get.new.self c.args.r.now c.get.result c.get.ensures.damaged c.get.ensures.failed

pub returns-clause-nothing : goal.returns-clause-nothing
returns-clause-nothing g c =
    reading_puts_nothing g.D.Disk c.args.self.now.limits g.met.D.Disk.counts_now g.met.D.Disk.only_now c.args.self.now c.get.new.self c.get.ensures.stays

pub returns-clause-is : goal.returns-clause-is
returns-clause-is g c =
    let got = c.get.ensures in
    record {
      none = got.none;
      named = got.named;
      found = content_fetched g.D.Disk c.args.self.now c.get.new.self c.args.r.now c.get.result got.bytes;
      damaged = got.damaged;
      failed = got.failed;
      stays = got.stays;
    }
