use Rattle.std.proofs.Common.{◌∙◌, arith, ap, sym}
use Rattle.pack_store.proofs.Moments.{stays_itself}
use Rattle.fact_lines.specs.Search.{search_line}
use Rattle.top_frame.specs.declared.status.Status.TheVariants.{NoMemory}
use Rattle.top_frame.specs.Outside.{outside, world_before}
use Rattle.perkeep_top.specs.Search.{IsAnswer}
use Rattle.top_frame.specs.Steps.{NeverRefuses}
use Rattle.top_frame.proofs.Asking.{not_opened, not_answered, answered}
use Rattle.perkeep_top.proofs.commands.search.search.Goals as goal

pub returns-in-Err : goal.returns-in-Err
returns-in-Err g c =
    not_opened (outside g.D.Disk g.P.Peer g.S.Source g.K.Sink g.C.Clock g.R.Dice) g.met.D.Disk.counts_now
    g.met.D.Disk.only_now (IsAnswer (g.V.Verifier.accepts c.args.environment.keys.now) c.args.attr.now c.args.value.now
    c.args.at) (λ told. NeverRefuses)
    (world_before c.args.disk c.args.environment) c.in-Err.end.0 c.in-Err.ensures.stays_err c.in-Err.ensures.later_err
    c.in-Err.end.1 c.in-Err.ensures.refused

pub returns-in-Ok-search_line : goal.returns-in-Ok-search_line
returns-in-Ok-search_line g c =
    answered (outside g.D.Disk g.P.Peer g.S.Source g.K.Sink g.C.Clock g.R.Dice) g.met.D.Disk.counts_now
    g.met.D.Disk.only_now (IsAnswer (g.V.Verifier.accepts c.args.environment.keys.now) c.args.attr.now c.args.value.now
    c.args.at) (λ told. NeverRefuses)
    (world_before c.args.disk c.args.environment)
    c.in-Ok.opened.0 c.in-Ok.ensures.stays c.in-Ok.ensures.later c.in-Ok.opened.0
    (stays_itself g.D.Disk g.met.D.Disk.counts_now g.met.D.Disk.only_now c.in-Ok.opened.0) (omega arith)
    c.as_slice.result.now
    (λ held told. c.as_slice.ensures ∙ c.in-Ok-search_line.ensures
    ∙ ap (λ m. search_line m (g.V.Verifier.accepts c.args.environment.keys.now) c.args.attr.now c.args.value.now
    c.args.at) (c.in-Ok.ensures.facts held (sym c.in-Ok.ensures.stays.told ∙ told)))
    c.written.new.sink c.written.result c.written.ensures.wrote c.written.ensures.later

pub returns-in-Err-search_line : goal.returns-in-Err-search_line
returns-in-Err-search_line g c =
    not_answered (outside g.D.Disk g.P.Peer g.S.Source g.K.Sink g.C.Clock g.R.Dice) g.met.D.Disk.counts_now
    g.met.D.Disk.only_now (IsAnswer (g.V.Verifier.accepts c.args.environment.keys.now) c.args.attr.now c.args.value.now
    c.args.at) (λ told. NeverRefuses)
    (world_before c.args.disk c.args.environment)
    c.in-Ok.opened.0 c.in-Ok.ensures.stays c.in-Ok.ensures.later c.in-Ok.opened.0
    (stays_itself g.D.Disk g.met.D.Disk.counts_now g.met.D.Disk.only_now c.in-Ok.opened.0) (omega arith)
    NoMemory tt
