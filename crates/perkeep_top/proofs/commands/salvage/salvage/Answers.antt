use Rattle.top_frame.specs.Outside.{outside, world_before}
use Rattle.perkeep_top.proofs.Telling.{told_all, stopped}
use Rattle.perkeep_top.proofs.commands.salvage.salvage.Goals as goal

pub returns-in-Ok : goal.returns-in-Ok
returns-in-Ok g c =
    told_all (outside g.D.Disk g.P.Peer g.S.Source g.K.Sink g.C.Clock g.R.Dice) g.met.D.Disk.counts_now g.met.D.Disk.only_now (world_before c.args.disk c.args.environment)
    c.tell_packs.new.disk c.tell_packs.new.sink c.tell_packs.ensures.stays c.tell_packs.ensures.still c.tell_packs.ensures.disk_later c.tell_packs.ensures.sink_later c.in-Ok.ensures.done

pub returns-in-Err : goal.returns-in-Err
returns-in-Err g c =
    stopped (outside g.D.Disk g.P.Peer g.S.Source g.K.Sink g.C.Clock g.R.Dice) g.met.D.Disk.counts_now g.met.D.Disk.only_now (world_before c.args.disk c.args.environment)
    c.tell_packs.new.disk c.tell_packs.new.sink c.tell_packs.ensures.stays c.tell_packs.ensures.still c.tell_packs.ensures.disk_later c.tell_packs.ensures.sink_later c.in-Err.ensures.part c.in-Err.status c.in-Err.ensures.comes
