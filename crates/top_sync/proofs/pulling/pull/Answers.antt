use Rattle.std.proofs.Common.{List, ℕ, subst, ◌∙◌}
use Rattle.top_frame.specs.Outside.{outside, world_before}
use Rattle.top_frame.specs.Steps.{Writes}
use Rattle.top_sync.proofs.Pulled.{pull_unopened, pull_refused, pull_unwritten, pull_written}
use Rattle.top_sync.proofs.pulling.pull.Goals as goal

pub returns-in-Err : goal.returns-in-Err
returns-in-Err g c =
    pull_unopened (outside g.D.Disk g.P.Peer g.S.Source g.K.Sink g.C.Clock g.R.Dice) g.met.D.Disk.counts_now
    g.met.D.Disk.only_now (world_before c.args.disk c.args.environment)
    (g.met.P.Peer.puts_nothing c.args.environment.peer.now)
    c.in-Err.end.0 c.in-Err.ensures.stays_err c.in-Err.ensures.later_err c.in-Err.end.1 c.in-Err.ensures.refused

pub returns-in-Ok-copied_line : goal.returns-in-Ok-copied_line
returns-in-Ok-copied_line g c =
    rw (c.give_back.ensures, c.back.ensures) (
    pull_written (outside g.D.Disk g.P.Peer g.S.Source g.K.Sink g.C.Clock g.R.Dice) g.met.D.Disk.counts_now
    g.met.D.Disk.only_now (world_before c.args.disk c.args.environment)
    c.in-Ok.store c.over-here.result c.over-here.ensures c.sync.new.target c.sync.new.source c.in-Ok.ensures.stays
    c.in-Ok.ensures.later c.in-Ok.ensures.stands c.in-Ok.ensures.read c.content_stands.ensures
    c.in-Ok-sync.ensures.run c.in-Ok-sync.ensures.target_later c.in-Ok-sync.ensures.told
    c.in-Ok-sync.ensures.nothing c.in-Ok-sync.ensures.source_later c.in-Ok-sync.synced c.in-Ok-sync.ensures.ok
    c.written-status.new.sink c.written-status.result
    (subst (λ (x : List ℕ). Writes g.K.Sink c.args.environment.sink.now c.written-status.new.sink x
    c.written-status.result) (c.as_slice.ensures ∙ c.in-Ok-copied_line.ensures) c.written-status.ensures.wrote)
    c.written-status.ensures.later)

pub returns-in-Err-copied_line : goal.returns-in-Err-copied_line
returns-in-Err-copied_line g c =
    rw (c.give_back-in-Err-copied_line.ensures, c.back-in-Err-copied_line.ensures) (
    pull_unwritten (outside g.D.Disk g.P.Peer g.S.Source g.K.Sink g.C.Clock g.R.Dice) g.met.D.Disk.counts_now
    g.met.D.Disk.only_now (world_before c.args.disk c.args.environment)
    c.in-Ok.store c.over-here.result c.over-here.ensures c.sync.new.target c.sync.new.source c.in-Ok.ensures.stays
    c.in-Ok.ensures.later c.in-Ok.ensures.stands c.in-Ok.ensures.read c.content_stands.ensures
    c.in-Ok-sync.ensures.run c.in-Ok-sync.ensures.target_later c.in-Ok-sync.ensures.told
    c.in-Ok-sync.ensures.nothing c.in-Ok-sync.ensures.source_later c.in-Ok-sync.synced c.in-Ok-sync.ensures.ok)

pub returns-in-Err-sync : goal.returns-in-Err-sync
returns-in-Err-sync g c =
    rw (c.give_back-in-Err-sync.ensures, c.back-in-Err-sync.ensures, c.pull_status.ensures) (
    pull_refused (outside g.D.Disk g.P.Peer g.S.Source g.K.Sink g.C.Clock g.R.Dice) g.met.D.Disk.counts_now
    g.met.D.Disk.only_now (world_before c.args.disk c.args.environment)
    c.in-Ok.store c.over-here.result c.over-here.ensures c.sync.new.target c.sync.new.source c.in-Ok.ensures.stays
    c.in-Ok.ensures.later c.in-Ok.ensures.stands c.in-Ok.ensures.read c.content_stands.ensures
    c.in-Err-sync.ensures.run c.in-Err-sync.ensures.target_later c.in-Err-sync.ensures.told
    c.in-Err-sync.ensures.nothing c.in-Err-sync.ensures.source_later c.in-Err-sync.fault c.in-Err-sync.ensures.err)
