use Rattle.std.proofs.Common.{ℕ, List, Option, option_copied, sym, subst, arith}
use Rattle.pack_disk.specs.Packs.{Packs}
use Rattle.pack_store.proofs.Moments.{stays_itself}
use Rattle.top_frame.specs.declared.status.Status.TheVariants.{NoMemory}
use Rattle.top_frame.specs.Steps.{NeverRefuses, OfOpened}
use Rattle.top_frame.specs.Outside.{outside, world_before}
use Rattle.perkeep_top.specs.ListRefs.{IsListing}
use Rattle.top_frame.proofs.Asking.{not_opened, not_answered, answered}
use Rattle.perkeep_top.proofs.commands.list.list.Goals as goal

pub returns-in-Err : goal.returns-in-Err
returns-in-Err g c =
    let Lines : Option Packs → List ℕ → Type 0 = λ told bytes. OfOpened g.D.Disk c.args.disk (λ s. IsListing s (option_copied c.args.after) c.args.limit told bytes) in
    not_opened (outside g.D.Disk g.P.Peer g.S.Source g.K.Sink g.C.Clock g.R.Dice) g.met.D.Disk.counts_now g.met.D.Disk.only_now Lines (λ told. NeverRefuses) (world_before c.args.disk c.args.environment)
    c.in-Err.end.0 c.in-Err.ensures.stays_err c.in-Err.ensures.later_err c.in-Err.end.1 c.in-Err.ensures.refused

pub returns-in-Ok-lines_of : goal.returns-in-Ok-lines_of
returns-in-Ok-lines_of g c =
    let store = c.in-Ok.store in
    let Lines : Option Packs → List ℕ → Type 0 = λ told bytes. OfOpened g.D.Disk c.args.disk (λ s. IsListing s (option_copied c.args.after) c.args.limit told bytes) in
    rw c.give_back.ensures (
    answered (outside g.D.Disk g.P.Peer g.S.Source g.K.Sink g.C.Clock g.R.Dice) g.met.D.Disk.counts_now g.met.D.Disk.only_now Lines (λ told. NeverRefuses) (world_before c.args.disk c.args.environment)
    store.disk c.in-Ok.ensures.stays c.in-Ok.ensures.later store.disk (stays_itself g.D.Disk g.met.D.Disk.counts_now g.met.D.Disk.only_now store.disk) (omega arith) c.as_slice.result.now
    (record { store = store; read = c.in-Ok.ensures.read; is = subst (IsListing store (option_copied c.args.after) c.args.limit (g.D.Disk.packs store.disk)) (sym c.as_slice.ensures) c.in-Ok-lines_of.ensures })
    c.written.new.sink c.written.result c.written.ensures.wrote c.written.ensures.later)

pub returns-in-Err-lines_of : goal.returns-in-Err-lines_of
returns-in-Err-lines_of g c =
    let store = c.in-Ok.store in
    let Lines : Option Packs → List ℕ → Type 0 = λ told bytes. OfOpened g.D.Disk c.args.disk (λ s. IsListing s (option_copied c.args.after) c.args.limit told bytes) in
    rw c.give_back-in-Err-lines_of.ensures (
    not_answered (outside g.D.Disk g.P.Peer g.S.Source g.K.Sink g.C.Clock g.R.Dice) g.met.D.Disk.counts_now g.met.D.Disk.only_now Lines (λ told. NeverRefuses) (world_before c.args.disk c.args.environment)
    store.disk c.in-Ok.ensures.stays c.in-Ok.ensures.later store.disk (stays_itself g.D.Disk g.met.D.Disk.counts_now g.met.D.Disk.only_now store.disk) (omega arith)
    NoMemory tt)
