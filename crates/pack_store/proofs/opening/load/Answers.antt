use Rattle.std.proofs.Common.{[], sym, ◌∙◌, ap, arith}
use Rattle.std.specs.FinMap.{get, get-empty}
use Rattle.blobref.specs.Blobref.{ref_cmp}
use Rattle.pack_store.specs.Rows.{number_of}
use Rattle.pack_store.proofs.Called.{none_read, one_read, all_read}
use Rattle.pack_store.proofs.Packing.{taken_none, taken_more, taken_opened, taken_sound}
use Rattle.pack_store.proofs.Moments.{stays_itself, stays_by_call, stays_then, stays_images}
use Rattle.pack_store.proofs.Shown.{shown_none, shown_then}
use Rattle.pack_store.proofs.Walking.{walk_found}
use Rattle.pack_store.proofs.opening.load.Goals as goal

pub loop-found-init : goal.loop-found-init
loop-found-init g c =
    let disk = g.D.Disk in
    record {
      small = omega arith;
      rose = omega arith;
      stays = stays_itself disk g.met.D.Disk.counts_now g.met.D.Disk.only_now c.args.disk.now;
      placed = λ r. ap (λ m. get m r) c.empty.ensures ∙ get-empty ref_cmp r ∙ ap (number_of r) (sym c.new.ensures.items);
      taken = rw c.new.ensures.items (taken_none disk c.args.disk.now);
      shown = rw c.new.ensures.items (shown_none g.L.Onlooker (disk.packs c.args.disk.now) [] c.args.onlooker);
      read = rw c.new.ensures.items (none_read disk c.args.disk.now);
    }

pub returns-in_default-found-clause-opened : goal.returns-in_default-found-clause-opened
returns-in_default-found-clause-opened g c = λ limits.
    let disk = g.D.Disk in
    taken_opened disk c.args.disk.now c.loop-found.disk c.packs.new.self c.loop-found.arrivals.rows.items c.loop-found.next c.loop-found.current limits c.loop-found.invariant.taken c.loop-found.invariant.stays.told
    (λ held told. sym c.in_default-found.is ∙ c.in-Ok.ensures.least held told)

pub returns-in_default-found-clause-read : goal.returns-in_default-found-clause-read
returns-in_default-found-clause-read g c = λ limits.
    all_read g.D.Disk c.args.disk.now c.loop-found.disk c.packs.new.self c.loop-found.arrivals.rows.items c.loop-found.next c.loop-found.current limits c.loop-found.invariant.read (rw c.in_default-found.is at c.in-Ok.ensures.is)

pub returns-in_default-found-clause-sound : goal.returns-in_default-found-clause-sound
returns-in_default-found-clause-sound g c = λ limits limited.
    let disk = g.D.Disk in
    taken_sound disk c.loop-found.disk c.packs.new.self c.loop-found.arrivals.rows.items c.loop-found.next c.loop-found.current limits c.loop-found.arrivals.places c.loop-found.invariant.taken c.loop-found.invariant.placed
    c.packs.ensures.told c.packs.ensures.crash (λ held told. sym c.in_default-found.is ∙ c.in-Ok.ensures.least held told) (omega (arith, c.loop-found.invariant.small)) limited

pub take_pack-requires-clause-there : goal.take_pack-requires-clause-there
take_pack-requires-clause-there g c = λ held told.
    walk_found c.loop-found.next c.in-Some.pack held (sym (c.in-Ok.ensures.least held (sym c.packs.ensures.told ∙ told)) ∙ c.in-Some.is)

pub loop-found-preserved : goal.loop-found-preserved
loop-found-preserved g c =
    let disk = g.D.Disk in
    let range = rw c.in-Some.is at c.in-Ok.ensures.range in
    let asked = stays_by_call disk g.met.D.Disk.counts_now g.met.D.Disk.only_now c.loop-found.disk c.packs.new.self c.packs.ensures.told c.packs.ensures.time c.packs.ensures.crash in
    let more = stays_then disk g.met.D.Disk.counts_now g.met.D.Disk.only_now c.loop-found.disk c.packs.new.self c.take_pack.new.disk asked c.take_pack.ensures.stays in
    record {
      small = omega (arith, range.1);
      rose = omega (arith, c.loop-found.invariant.rose, c.packs.ensures.cause.later, c.take_pack.ensures.later);
      stays = stays_then disk g.met.D.Disk.counts_now g.met.D.Disk.only_now c.args.disk.now c.loop-found.disk c.take_pack.new.disk c.loop-found.invariant.stays more;
      placed = c.in_ok-current.ensures.takes.placed;
      read = one_read disk g.L.Onlooker c.args.disk.now c.loop-found.disk c.packs.new.self c.take_pack.new.disk c.loop-found.arrivals c.take_pack.new.arrivals c.loop-found.next c.in-Some.pack c.loop-found.current c.in_ok-current.current
          c.loop-found.invariant.read (rw c.in-Some.is at c.in-Ok.ensures.is) range.0 c.in_ok-current.ensures.takes;
      shown = shown_then g.L.Onlooker (disk.packs c.args.disk.now) (disk.packs c.packs.new.self) [] c.loop-found.arrivals.rows.items c.take_pack.new.arrivals.rows.items c.args.onlooker c.loop-found.arrivals.onlooker
          c.take_pack.new.arrivals.onlooker (c.packs.ensures.told ∙ c.loop-found.invariant.stays.told) c.loop-found.invariant.shown c.in_ok-current.ensures.takes.shown;
      taken = taken_more disk g.met.D.Disk.tells g.L.Onlooker c.loop-found.disk c.packs.new.self c.take_pack.new.disk c.loop-found.arrivals c.take_pack.new.arrivals c.loop-found.next c.in-Some.pack c.loop-found.current c.in_ok-current.current
          c.loop-found.invariant.taken c.in_ok-current.ensures.takes c.packs.ensures.told c.take_pack.ensures.stays.told
          (stays_images disk g.met.D.Disk.counts_now g.met.D.Disk.only_now c.loop-found.disk c.take_pack.new.disk more)
          (λ held told. sym c.in-Some.is ∙ c.in-Ok.ensures.least held told) range.0 c.in_ok-current.ensures.stands;
    }
