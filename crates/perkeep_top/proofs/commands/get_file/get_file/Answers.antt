use Rattle.std.proofs.Common.{refl}
use Rattle.perkeep_top.specs.GetFile.{get_file_meaning}
use Rattle.top_frame.specs.Outside.{outside, world_before}
use Rattle.top_frame.specs.Steps.{NeverRefuses}
use Rattle.top_frame.proofs.Ending.{begun, nothing_given, far_start, refused}
use Rattle.perkeep_top.proofs.Walked.{walked, not_walked}
use Rattle.perkeep_top.proofs.commands.get_file.get_file.Goals as goal

pub returns-in-Err : goal.returns-in-Err
returns-in-Err g c =
    let run = begun (outside g.D.Disk g.P.Peer g.S.Source g.K.Sink g.C.Clock g.R.Dice) g.met.D.Disk.counts_now g.met.D.Disk.only_now (get_file_meaning g.D.Disk c.args.disk c.args.r.now) refl refl (world_before c.args.disk c.args.environment) in
    refused run refl c.args.disk c.in-Err.end.0 c.args.environment.source.now (far_start run) c.in-Err.ensures.stays_err c.in-Err.ensures.later_err nothing_given (record { read = (refl, refl); right = refl; drawn = (λ e. absurd (cc e), λ e. absurd (cc e)) }) (λ held e. (_, refl))
    NeverRefuses (λ end w. absurd w) c.in-Err.end.1 c.in-Err.ensures.refused

pub returns-in-Ok-read_file : goal.returns-in-Ok-read_file
returns-in-Ok-read_file g c =
    rw (c.give_back.ensures, c.back.ensures) (
    walked (outside g.D.Disk g.P.Peer g.S.Source g.K.Sink g.C.Clock g.R.Dice) g.met.D.Disk.counts_now g.met.D.Disk.only_now c.args.r.now (world_before c.args.disk c.args.environment)
    c.in-Ok.store c.over-shelf.result c.read_file.new.shelf c.read_file.new.sink c.over-shelf.ensures c.in-Ok.ensures.stays c.in-Ok.ensures.later c.in-Ok.ensures.stands c.in-Ok.ensures.read c.content_stands.ensures
    c.in-Ok-read_file.ensures.rests.nothing c.in-Ok-read_file.ensures.rests.later c.in-Ok-read_file.ensures.later c.in-Ok-read_file.field-0 c.in-Ok-read_file.ensures.reads.has)

pub returns-in-Err-read_file : goal.returns-in-Err-read_file
returns-in-Err-read_file g c =
    rw (c.give_back-in-Err-read_file.ensures, c.back-in-Err-read_file.ensures, c.from.ensures) (
    not_walked (outside g.D.Disk g.P.Peer g.S.Source g.K.Sink g.C.Clock g.R.Dice) g.met.D.Disk.counts_now g.met.D.Disk.only_now c.args.r.now (world_before c.args.disk c.args.environment)
    c.in-Ok.store c.over-shelf.result c.read_file.new.shelf c.read_file.new.sink c.over-shelf.ensures c.in-Ok.ensures.stays c.in-Ok.ensures.later c.in-Ok.ensures.stands c.in-Ok.ensures.read c.content_stands.ensures
    c.in-Err-read_file.ensures.rests.nothing c.in-Err-read_file.ensures.rests.later c.in-Err-read_file.ensures.later c.in-Err-read_file.fault c.in-Err-read_file.ensures.reads.has c.in-Err-read_file.ensures.cause)
