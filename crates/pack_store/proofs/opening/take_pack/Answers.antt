use Rattle.std.proofs.Common.{sym, ◌∙◌}
use Rattle.pack_store.specs.Opening.{current_by}
use Rattle.pack_store.proofs.Moments.{ok_told}
use Rattle.pack_store.proofs.Shown.{shown_pack}
use Rattle.pack_store.proofs.Taking.{current_shown}
use Rattle.pack_store.proofs.opening.take_pack.Goals as goal

pub returns-clause-takes : goal.returns-clause-takes
returns-clause-takes g c =
    let took = c.in_ok-taken.ensures.took in
    record {
      synced = c.sync.new.self;
      syncs = ok_told c.sync.result (sym c.is_err.ensures.value ∙ c.if-is_err.false) c.sync.ensures.is;
      bytes = took.bytes;
      octets = took.octets;
      reads = took.gave;
      there = λ held told. took.there held (c.sync.ensures.told ∙ told);
      rows = took.took.rows;
      placed = took.took.placed;
      shown = shown_pack g.L.Onlooker (g.D.Disk.packs c.args.disk.now) took.bytes _ _ took.took (λ held told. took.there held (c.sync.ensures.told ∙ told));
      current_is = c.current_by.ensures ∙ (λ i. current_by (took.clean_is i) c.args.pack (took.size_is i)) ∙ current_shown c.args.pack took.bytes;
    }
