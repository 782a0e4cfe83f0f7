use Rattle.std.proofs.Common.{List, ℕ, subst, ◌∙◌}
use Rattle.top_frame.specs.Outside.{outside, world_before}
use Rattle.top_frame.specs.Steps.{Writes}
use Rattle.perkeep_top.proofs.Filing.{fits, not_opened, not_filed, unlined, filed}
use Rattle.perkeep_top.proofs.commands.put_file.put_file.Goals as goal

pub returns-in-Err : goal.returns-in-Err
returns-in-Err g c =
    not_opened (outside g.D.Disk g.P.Peer g.S.Source g.K.Sink g.C.Clock g.R.Dice) g.met.D.Disk.counts_now
    g.met.D.Disk.only_now c.args.name.now (world_before c.args.disk c.args.environment)
    (fits c.args.name.now c.if-name-gt-MAX_NAME.false)
    c.in-Err.end.0 c.in-Err.ensures.stays_err c.in-Err.ensures.later_err c.in-Err.end.1 c.in-Err.ensures.refused

pub returns-in-Err-write_file : goal.returns-in-Err-write_file
returns-in-Err-write_file g c =
    rw (c.give_back.ensures, c.from.ensures) (
    not_filed (outside g.D.Disk g.P.Peer g.S.Source g.K.Sink g.C.Clock g.R.Dice) g.met.D.Disk.counts_now
    g.met.D.Disk.only_now c.args.name.now (world_before c.args.disk c.args.environment)
    (fits c.args.name.now c.if-name-gt-MAX_NAME.false)
    c.in-Ok.store c.write_file.new.shelf c.write_file.new.source c.in-Ok.ensures.stays c.in-Ok.ensures.later
    c.in-Ok.ensures.stands c.in-Err-write_file.ensures.later c.in-Err-write_file.fault
    c.in-Err-write_file.ensures.err)

pub returns-in-Ok-ref_line : goal.returns-in-Ok-ref_line
returns-in-Ok-ref_line g c =
    rw c.give_back-in-Ok-ref_line.ensures (
    filed (outside g.D.Disk g.P.Peer g.S.Source g.K.Sink g.C.Clock g.R.Dice) g.met.D.Disk.counts_now
    g.met.D.Disk.only_now c.args.name.now (world_before c.args.disk c.args.environment)
    (fits c.args.name.now c.if-name-gt-MAX_NAME.false)
    c.in-Ok.store c.write_file.new.shelf c.write_file.new.source c.in-Ok.ensures.stays c.in-Ok.ensures.later
    c.in-Ok.ensures.stands c.in-Ok-write_file.ensures.later c.in-Ok-write_file.r c.in-Ok-write_file.ensures.ok
    c.written.new.sink c.written.result (subst (λ (x : List ℕ). Writes g.K.Sink c.args.environment.sink.now
    c.written.new.sink x c.written.result) (c.as_slice.ensures ∙ c.in-Ok-ref_line.ensures) c.written.ensures.wrote)
    c.written.ensures.later)

pub returns-in-Err-ref_line : goal.returns-in-Err-ref_line
returns-in-Err-ref_line g c =
    rw c.give_back-in-Err-ref_line.ensures (
    unlined (outside g.D.Disk g.P.Peer g.S.Source g.K.Sink g.C.Clock g.R.Dice) g.met.D.Disk.counts_now
    g.met.D.Disk.only_now c.args.name.now (world_before c.args.disk c.args.environment)
    (fits c.args.name.now c.if-name-gt-MAX_NAME.false)
    c.in-Ok.store c.write_file.new.shelf c.write_file.new.source c.in-Ok.ensures.stays c.in-Ok.ensures.later
    c.in-Ok.ensures.stands c.in-Ok-write_file.ensures.later c.in-Ok-write_file.r c.in-Ok-write_file.ensures.ok)
