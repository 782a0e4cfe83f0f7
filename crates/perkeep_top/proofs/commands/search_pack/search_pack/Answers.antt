use Rattle.std.proofs.Common.{◌∙◌, [], ap, refl}
use Rattle.fact_lines.specs.Search.{pack_answer, search_line}
use Rattle.schema_date.specs.declared.date.When.TheVariants.{Always}
use Rattle.top_frame.specs.Outside.{outside, world_before}
use Rattle.perkeep_top.specs.Search.{search_pack_meaning, longest_pack}
use Rattle.top_frame.proofs.Ending.{begun, given_input, far_read, early_memory, unread_first, finished}
use Rattle.perkeep_top.proofs.commands.search_pack.search_pack.Goals as goal

pub returns-in-Err : goal.returns-in-Err
returns-in-Err g c =
    let run = begun (outside g.D.Disk g.P.Peer g.S.Source g.K.Sink g.C.Clock g.R.Dice) g.met.D.Disk.counts_now
    g.met.D.Disk.only_now (search_pack_meaning (g.V.Verifier.accepts c.args.environment.keys.now) c.args.attr.now
    c.args.value.now) refl refl (world_before c.args.disk c.args.environment) in
    unread_first run longest_pack refl (λ size. refl) c.read_facts.new.source
    (far_read run c.read_facts.new.source (λ e. absurd (cc e)) c.in-Err.ensures.later) c.in-Err.status
    c.in-Err.ensures.refused

pub returns-in-Ok-search_line : goal.returns-in-Ok-search_line
unfolding pack_answer
returns-in-Ok-search_line g c =
    let run = begun (outside g.D.Disk g.P.Peer g.S.Source g.K.Sink g.C.Clock g.R.Dice) g.met.D.Disk.counts_now
    g.met.D.Disk.only_now (search_pack_meaning (g.V.Verifier.accepts c.args.environment.keys.now) c.args.attr.now
    c.args.value.now) refl refl (world_before c.args.disk c.args.environment) in
    let read = far_read run c.read_facts.new.source (λ e. absurd (cc e)) c.in-Ok.ensures.later in
    let gave = c.in-Ok.ensures.read in
    finished run c.args.disk c.read_facts.new.source [] read c.written.new.sink (given_input gave.input)
    c.as_slice.result.now
    (λ e. absurd (cc e), λ e. absurd (cc e)) (gave.short, gave.gave) refl
    (c.as_slice.ensures ∙ c.in-Ok-search_line.ensures
    ∙ ap (λ m. search_line m (g.V.Verifier.accepts c.args.environment.keys.now) c.args.attr.now c.args.value.now Always)
    gave.says)
    refl c.written.result c.written.ensures.wrote c.written.ensures.later

pub returns-in-Err-search_line : goal.returns-in-Err-search_line
returns-in-Err-search_line g c =
    let run = begun (outside g.D.Disk g.P.Peer g.S.Source g.K.Sink g.C.Clock g.R.Dice) g.met.D.Disk.counts_now
    g.met.D.Disk.only_now (search_pack_meaning (g.V.Verifier.accepts c.args.environment.keys.now) c.args.attr.now
    c.args.value.now) refl refl (world_before c.args.disk c.args.environment) in
    early_memory run c.read_facts.new.source
    (far_read run c.read_facts.new.source (λ e. absurd (cc e)) c.in-Ok.ensures.later)
