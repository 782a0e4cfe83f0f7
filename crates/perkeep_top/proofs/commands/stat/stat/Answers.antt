use Rattle.std.proofs.Common.{ℕ, List, Option, sym, subst, arith}
use Rattle.pack_disk.specs.Packs.{Packs}
use Rattle.pack_store.proofs.Moments.{stays_itself}
use Rattle.top_frame.specs.Outside.{outside, world_before}
use Rattle.top_frame.specs.Steps.{OfOpened}
use Rattle.top_frame.specs.declared.status.Status.{Status}
use Rattle.perkeep_top.specs.Stat.{IsSizeLine, RefusesSize}
use Rattle.top_frame.proofs.Asking.{not_opened, not_answered, answered, finds_more}
use Rattle.perkeep_top.proofs.commands.stat.stat.Goals as goal

pub returns-in-Err : goal.returns-in-Err
returns-in-Err g c =
    let Line : Option Packs → List ℕ → Type 0 = λ told bytes. OfOpened g.D.Disk c.args.disk (λ s. IsSizeLine s c.args.r.now told bytes) in
    let Refuses : Option Packs → Status → Type 0 = λ told answer. OfOpened g.D.Disk c.args.disk (λ s. RefusesSize s c.args.r.now told answer) in
    not_opened (outside g.D.Disk g.P.Peer g.S.Source g.K.Sink g.C.Clock g.R.Dice) g.met.D.Disk.counts_now g.met.D.Disk.only_now Line Refuses (world_before c.args.disk c.args.environment)
    c.in-Err.end.0 c.in-Err.ensures.stays_err c.in-Err.ensures.later_err c.in-Err.end.1 c.in-Err.ensures.refused

pub returns-in-Ok-line_of : goal.returns-in-Ok-line_of
returns-in-Ok-line_of g c =
    let store = c.in-Ok.store in
    let Line : Option Packs → List ℕ → Type 0 = λ told bytes. OfOpened g.D.Disk c.args.disk (λ s. IsSizeLine s c.args.r.now told bytes) in
    let Refuses : Option Packs → Status → Type 0 = λ told answer. OfOpened g.D.Disk c.args.disk (λ s. RefusesSize s c.args.r.now told answer) in
    rw c.give_back.ensures (
    answered (outside g.D.Disk g.P.Peer g.S.Source g.K.Sink g.C.Clock g.R.Dice) g.met.D.Disk.counts_now g.met.D.Disk.only_now Line Refuses (world_before c.args.disk c.args.environment)
    store.disk c.in-Ok.ensures.stays c.in-Ok.ensures.later store.disk (stays_itself g.D.Disk g.met.D.Disk.counts_now g.met.D.Disk.only_now store.disk) (omega arith) c.as_slice.result.now
    (record { store = store; read = c.in-Ok.ensures.read; is = subst (IsSizeLine store c.args.r.now (g.D.Disk.packs store.disk)) (sym c.as_slice.ensures) c.in-Ok-line_of.ensures.line })
    c.written.new.sink c.written.result c.written.ensures.wrote c.written.ensures.later)

pub returns-in-Err-line_of : goal.returns-in-Err-line_of
returns-in-Err-line_of g c =
    let store = c.in-Ok.store in
    let Line : Option Packs → List ℕ → Type 0 = λ told bytes. OfOpened g.D.Disk c.args.disk (λ s. IsSizeLine s c.args.r.now told bytes) in
    let Refuses : Option Packs → Status → Type 0 = λ told answer. OfOpened g.D.Disk c.args.disk (λ s. RefusesSize s c.args.r.now told answer) in
    rw c.give_back-in-Err-line_of.ensures (
    not_answered (outside g.D.Disk g.P.Peer g.S.Source g.K.Sink g.C.Clock g.R.Dice) g.met.D.Disk.counts_now g.met.D.Disk.only_now Line Refuses (world_before c.args.disk c.args.environment)
    store.disk c.in-Ok.ensures.stays c.in-Ok.ensures.later store.disk (stays_itself g.D.Disk g.met.D.Disk.counts_now g.met.D.Disk.only_now store.disk) (omega arith) c.in-Err-line_of.status
    (finds_more g.D.Disk store.disk store.disk (RefusesSize store c.args.r.now (g.D.Disk.packs store.disk)) (Refuses (g.D.Disk.packs store.disk)) (λ end w. record { store = store; read = c.in-Ok.ensures.read; is = w })
    c.in-Err-line_of.status c.in-Err-line_of.ensures.refused))
