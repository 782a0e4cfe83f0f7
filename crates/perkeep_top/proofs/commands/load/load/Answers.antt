use Rattle.std.proofs.Common.{◌∙◌, [], refl}
use Rattle.perkeep_top.specs.Load.{load_meaning}
use Rattle.top_frame.specs.Outside.{outside, world_before}
use Rattle.top_frame.proofs.Ending.{begun, nothing_given, far_start, finished}
use Rattle.perkeep_top.proofs.commands.load.load.Goals as goal

pub returns-in-Ok : goal.returns-in-Ok
returns-in-Ok g c =
    let run = begun (outside g.D.Disk g.P.Peer g.S.Source g.K.Sink g.C.Clock g.R.Dice) g.met.D.Disk.counts_now g.met.D.Disk.only_now (load_meaning (g.V.Verifier.accepts c.args.environment.keys.now) c.args.count c.args.start) refl refl (world_before c.args.disk c.args.environment) in
    finished run c.args.disk c.args.environment.source.now [] (far_start run) c.written.new.sink nothing_given c.as_slice.result.now
    (λ e. absurd (cc e), λ e. absurd (cc e)) (refl, refl) refl (c.as_slice.ensures ∙ c.in-Ok.ensures)
    refl c.written.result c.written.ensures.wrote c.written.ensures.later
