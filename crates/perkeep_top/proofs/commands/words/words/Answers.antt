use Rattle.std.proofs.Common.{[], refl, ap, ◌∙◌, arith}
use Rattle.std.specs.Prelude.{option_map}
use Rattle.pack_store.proofs.Moments.{stays_itself}
use Rattle.fact_lines.specs.Search.{query_line}
use Rattle.top_frame.specs.Outside.{outside, world_before}
use Rattle.top_frame.specs.Steps.{NeverRefuses}
use Rattle.top_frame.specs.declared.status.InputFault.TheVariants.{Words}
use Rattle.top_frame.specs.declared.status.Status.TheVariants.{NoMemory}
use Rattle.top_frame.proofs.Ending.{begun, nothing_given, far_start, far_asked, refused, finished}
use Rattle.perkeep_top.specs.SearchWords.{words_meaning}
use Rattle.perkeep_top.proofs.Wording.{unread_words}
use Rattle.perkeep_top.proofs.commands.words.words.Goals as goal

pub returns-in-Err : goal.returns-in-Err
returns-in-Err g c =
    rw c.from.ensures (
    unread_words (outside g.D.Disk g.P.Peer g.S.Source g.K.Sink g.C.Clock g.R.Dice) g.met.D.Disk.counts_now
    g.met.D.Disk.only_now (g.V.Verifier.accepts c.args.environment.keys.now) c.args.text.now c.args.at
    (world_before c.args.disk c.args.environment) c.in-Err.fault c.in-Err.ensures.fault)

pub returns-in-Err-opened_facts : goal.returns-in-Err-opened_facts
returns-in-Err-opened_facts g c =
    let run = begun (outside g.D.Disk g.P.Peer g.S.Source g.K.Sink g.C.Clock g.R.Dice) g.met.D.Disk.counts_now
    g.met.D.Disk.only_now (words_meaning (g.V.Verifier.accepts c.args.environment.keys.now) c.args.text.now c.args.at)
    (ap (option_map Words) c.in-Ok.ensures.said) refl (world_before c.args.disk c.args.environment) in
    refused run refl c.args.disk c.in-Err-opened_facts.end.0 c.args.environment.source.now (far_start run)
    c.in-Err-opened_facts.ensures.stays_err c.in-Err-opened_facts.ensures.later_err nothing_given
    (record { read = (refl, refl); right = refl; drawn = (λ e. absurd (cc e), λ e. absurd (cc e)) }) refl NeverRefuses
    (λ end w. absurd w) c.in-Err-opened_facts.end.1 c.in-Err-opened_facts.ensures.refused

pub returns-in-Ok-query_line : goal.returns-in-Ok-query_line
returns-in-Ok-query_line g c =
    let run = begun (outside g.D.Disk g.P.Peer g.S.Source g.K.Sink g.C.Clock g.R.Dice) g.met.D.Disk.counts_now
    g.met.D.Disk.only_now (words_meaning (g.V.Verifier.accepts c.args.environment.keys.now) c.args.text.now c.args.at)
    (ap (option_map Words) c.in-Ok.ensures.said) refl (world_before c.args.disk c.args.environment) in
    let so = far_asked run refl c.args.disk c.in-Ok-opened_facts.opened.0 c.args.environment.source.now (far_start run)
    c.in-Ok-opened_facts.ensures.stays c.in-Ok-opened_facts.ensures.later in
    finished run c.in-Ok-opened_facts.opened.0 c.args.environment.source.now [] so c.written.new.sink nothing_given
    c.as_slice.result.now (λ e. absurd (cc e), λ e. absurd (cc e)) (refl, refl) refl
    (record {
      query = c.in-Ok.query;
      asked = c.in-Ok.ensures.asked;
      most = c.in-Ok.ensures.most;
      order = c.in-Ok.ensures.order;
      time = c.in-Ok.ensures.time;
      answer = λ held told. c.as_slice.ensures ∙ c.in-Ok-query_line.ensures
          ∙ ap (λ m. query_line m (g.V.Verifier.accepts c.args.environment.keys.now) c.in-Ok.query)
          (c.in-Ok-opened_facts.ensures.facts held told);
    }) refl c.written.result c.written.ensures.wrote c.written.ensures.later

pub returns : goal.returns
returns g c =
    let run = begun (outside g.D.Disk g.P.Peer g.S.Source g.K.Sink g.C.Clock g.R.Dice) g.met.D.Disk.counts_now
    g.met.D.Disk.only_now (words_meaning (g.V.Verifier.accepts c.args.environment.keys.now) c.args.text.now c.args.at)
    (ap (option_map Words) c.in-Ok.ensures.said) refl (world_before c.args.disk c.args.environment) in
    let so = far_asked run refl c.args.disk c.in-Ok-opened_facts.opened.0 c.args.environment.source.now (far_start run)
    c.in-Ok-opened_facts.ensures.stays c.in-Ok-opened_facts.ensures.later in
    refused run refl c.in-Ok-opened_facts.opened.0 c.in-Ok-opened_facts.opened.0 c.args.environment.source.now so
    (stays_itself g.D.Disk g.met.D.Disk.counts_now g.met.D.Disk.only_now c.in-Ok-opened_facts.opened.0) (omega arith)
    nothing_given (record { read = (refl, refl); right = refl; drawn = (λ e. absurd (cc e), λ e. absurd (cc e)) }) refl
    NeverRefuses (λ end w. absurd w) NoMemory tt
