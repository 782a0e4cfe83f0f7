use Rattle.std.proofs.Common.{Option, sym, subst}
use Rattle.pack_disk.specs.Packs.{Packs}
use Rattle.top_frame.specs.Outside.{outside, world_before}
use Rattle.top_frame.specs.Steps.{OfOpened}
use Rattle.top_frame.specs.declared.status.Status.{Status}
use Rattle.perkeep_top.specs.Get.{IsBlob, RefusesBlob}
use Rattle.top_frame.proofs.Asking.{not_opened, not_answered, answered, finds_more}
use Rattle.perkeep_top.proofs.commands.get.get.Goals as goal

pub returns-in-Err : goal.returns-in-Err
returns-in-Err g c =
    let Refuses : Option Packs → Status → Type 0 = λ told answer. OfOpened g.D.Disk c.args.disk (λ s. RefusesBlob s c.args.r.now told answer) in
    not_opened (outside g.D.Disk g.P.Peer g.S.Source g.K.Sink g.C.Clock g.R.Dice) g.met.D.Disk.counts_now g.met.D.Disk.only_now (IsBlob c.args.r.now) Refuses (world_before c.args.disk c.args.environment)
    c.in-Err.end.0 c.in-Err.ensures.stays_err c.in-Err.ensures.later_err c.in-Err.end.1 c.in-Err.ensures.refused

pub returns-in-Ok-blob : goal.returns-in-Ok-blob
returns-in-Ok-blob g c =
    let Refuses : Option Packs → Status → Type 0 = λ told answer. OfOpened g.D.Disk c.args.disk (λ s. RefusesBlob s c.args.r.now told answer) in
    rw c.give_back.ensures (
    answered (outside g.D.Disk g.P.Peer g.S.Source g.K.Sink g.C.Clock g.R.Dice) g.met.D.Disk.counts_now g.met.D.Disk.only_now (IsBlob c.args.r.now) Refuses (world_before c.args.disk c.args.environment)
    c.in-Ok.store.disk c.in-Ok.ensures.stays c.in-Ok.ensures.later c.blob.new.store.disk c.in-Ok-blob.ensures.still.stays c.in-Ok-blob.ensures.later
    c.as_slice.result.now (subst (IsBlob c.args.r.now (g.D.Disk.packs c.in-Ok.store.disk)) (sym c.as_slice.ensures) c.in-Ok-blob.ensures.found) c.written.new.sink c.written.result c.written.ensures.wrote c.written.ensures.later)

pub returns-in-Err-blob : goal.returns-in-Err-blob
returns-in-Err-blob g c =
    let store = c.in-Ok.store in
    let Refuses : Option Packs → Status → Type 0 = λ told answer. OfOpened g.D.Disk c.args.disk (λ s. RefusesBlob s c.args.r.now told answer) in
    rw c.give_back-in-Err-blob.ensures (
    not_answered (outside g.D.Disk g.P.Peer g.S.Source g.K.Sink g.C.Clock g.R.Dice) g.met.D.Disk.counts_now g.met.D.Disk.only_now (IsBlob c.args.r.now) Refuses (world_before c.args.disk c.args.environment)
    store.disk c.in-Ok.ensures.stays c.in-Ok.ensures.later c.blob.new.store.disk c.in-Err-blob.ensures.still.stays c.in-Err-blob.ensures.later c.in-Err-blob.status
    (finds_more g.D.Disk store.disk c.blob.new.store.disk (RefusesBlob store c.args.r.now (g.D.Disk.packs store.disk)) (Refuses (g.D.Disk.packs store.disk)) (λ end w. record { store = store; read = c.in-Ok.ensures.read; is = w })
    c.in-Err-blob.status c.in-Err-blob.ensures.refused))
