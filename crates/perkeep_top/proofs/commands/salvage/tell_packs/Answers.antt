use Rattle.std.proofs.Common.{◌≡◌, ◌∙◌, refl, sym, subst, arith, Some}
use Rattle.std.specs.Option.{ForSome}
use Rattle.pack_disk.specs.Packs.{least_from}
use Rattle.pack_store.proofs.Moments.{stays_itself, stays_by_call, stays_then}
use Rattle.pack_store.proofs.Walking.{walk_found}
use Rattle.perkeep_top.specs.Salvaged.{Writes, WritesFront, IsPackReport}
use Rattle.perkeep_top.proofs.Reporting.{first_below, first_cut, cut_more, writes_more, writes_all, front_so_far, front_with}
use Rattle.perkeep_top.proofs.commands.salvage.tell_packs.Goals as goal

pub packs-init : goal.packs-init
packs-init g c =
    let disk = g.D.Disk in
    record {
      small = omega arith;
      wrote = first_below (disk.packs c.args.disk.now) (g.K.Sink.written c.args.sink.now);
      cut = first_cut (disk.packs c.args.disk.now);
      stays = stays_itself disk g.met.D.Disk.counts_now g.met.D.Disk.only_now c.args.disk.now;
      still = refl;
      disk_later = omega arith;
      sink_later = omega arith;
    }

pub returns-in-Err-clause-part : goal.returns-in-Err-clause-part
returns-in-Err-clause-part g c = front_so_far (g.D.Disk.packs c.args.disk.now) c.packs.next (g.K.Sink.written c.args.sink.now) (g.K.Sink.written c.packs.sink) c.packs.invariant.wrote c.packs.invariant.cut

pub returns-in_default-clause-done : goal.returns-in_default-clause-done
returns-in_default-clause-done g c =
    writes_all (g.D.Disk.packs c.args.disk.now) c.packs.next (g.K.Sink.written c.args.sink.now) (g.K.Sink.written c.packs.sink)
    (λ held tells. sym (c.in-Ok.ensures.least held (c.packs.invariant.stays.told ∙ tells)) ∙ c.in_default.is) c.packs.invariant.wrote

pub tell_pack-requires : goal.tell_pack-requires
tell_pack-requires g c = record { there = λ held tells. walk_found c.packs.next c.in-Some.pack held (sym (c.in-Ok.ensures.least held (sym c.packs-in-packs.ensures.told ∙ tells)) ∙ c.in-Some.is) }

pub returns-in-Err-tell_pack-clause-part : goal.returns-in-Err-tell_pack-clause-part
returns-in-Err-tell_pack-clause-part g c =
    let told = g.D.Disk.packs c.args.disk.now in
    front_with told c.packs.next c.in-Some.pack (g.K.Sink.written c.args.sink.now) (g.K.Sink.written c.packs.sink) (g.K.Sink.written c.tell_pack.new.sink)
    (λ held tells. sym (c.in-Ok.ensures.least held (c.packs.invariant.stays.told ∙ tells)) ∙ c.in-Some.is) c.packs.invariant.wrote
    (subst (λ o. WritesFront (IsPackReport c.in-Some.pack o) (g.K.Sink.written c.packs.sink) (g.K.Sink.written c.tell_pack.new.sink)) (c.packs-in-packs.ensures.told ∙ c.packs.invariant.stays.told) c.in-Err-tell_pack.ensures.part) c.packs.invariant.cut

pub packs-preserved : goal.packs-preserved
packs-preserved g c =
    let disk = g.D.Disk in
    let told = disk.packs c.args.disk.now in
    let least : ForSome told (λ held. least_from c.packs.next held ≡ Some c.in-Some.pack) = λ held tells. sym (c.in-Ok.ensures.least held (c.packs.invariant.stays.told ∙ tells)) ∙ c.in-Some.is in
    let range = rw c.in-Some.is at c.in-Ok.ensures.range in
    let asked = stays_by_call disk g.met.D.Disk.counts_now g.met.D.Disk.only_now c.packs.disk c.packs-in-packs.new.self c.packs-in-packs.ensures.told c.packs-in-packs.ensures.time c.packs-in-packs.ensures.crash in
    let more = stays_then disk g.met.D.Disk.counts_now g.met.D.Disk.only_now c.packs.disk c.packs-in-packs.new.self c.tell_pack.new.disk asked c.tell_pack.ensures.stays in
    record {
      small = omega (arith, range.1);
      wrote = writes_more told c.packs.next c.in-Some.pack (g.K.Sink.written c.args.sink.now) (g.K.Sink.written c.packs.sink) (g.K.Sink.written c.tell_pack.new.sink) least c.packs.invariant.wrote
          (subst (λ o. Writes (IsPackReport c.in-Some.pack o) (g.K.Sink.written c.packs.sink) (g.K.Sink.written c.tell_pack.new.sink)) (c.packs-in-packs.ensures.told ∙ c.packs.invariant.stays.told) c.in_default-tell_pack.ensures.done);
      cut = cut_more told c.packs.next c.in-Some.pack least c.packs.invariant.cut;
      stays = stays_then disk g.met.D.Disk.counts_now g.met.D.Disk.only_now c.args.disk.now c.packs.disk c.tell_pack.new.disk c.packs.invariant.stays more;
      still = c.tell_pack.ensures.still ∙ c.packs-in-packs.ensures.still ∙ c.packs.invariant.still;
      disk_later = omega (arith, c.packs.invariant.disk_later, c.packs-in-packs.ensures.cause.later, c.tell_pack.ensures.disk_later);
      sink_later = omega (arith, c.packs.invariant.sink_later, c.tell_pack.ensures.sink_later);
    }
