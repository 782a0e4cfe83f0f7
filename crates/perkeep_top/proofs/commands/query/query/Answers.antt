use Rattle.std.proofs.Common.{[], refl, ap, ◌∙◌, arith}
use Rattle.std.specs.Prelude.{option_map}
use Rattle.pack_store.proofs.Moments.{stays_itself}
use Rattle.fact_lines.specs.Search.{query_line}
use Rattle.top_frame.specs.Outside.{outside, world_before}
use Rattle.perkeep_top.specs.Query.{query_meaning}
use Rattle.top_frame.specs.Steps.{NeverRefuses}
use Rattle.top_frame.specs.declared.status.InputFault.TheVariants.{BadQuery}
use Rattle.top_frame.specs.declared.status.Status.TheVariants.{NoMemory}
use Rattle.top_frame.proofs.Ending.{begun, given_input, far_read, far_asked, refused, finished}
use Rattle.perkeep_top.proofs.Querying.{unread_query}
use Rattle.perkeep_top.proofs.commands.query.query.Goals as goal

pub returns-in-Err : goal.returns-in-Err
returns-in-Err g c =
    unread_query (outside g.D.Disk g.P.Peer g.S.Source g.K.Sink g.C.Clock g.R.Dice) g.met.D.Disk.counts_now
    g.met.D.Disk.only_now (g.V.Verifier.accepts c.args.environment.keys.now)
    (world_before c.args.disk c.args.environment) c.read_query.new.source c.in-Err.ensures.later c.in-Err.status
    c.in-Err.ensures.refused

pub returns-in-Err-opened_facts : goal.returns-in-Err-opened_facts
returns-in-Err-opened_facts g c =
    let run = begun (outside g.D.Disk g.P.Peer g.S.Source g.K.Sink g.C.Clock g.R.Dice) g.met.D.Disk.counts_now
    g.met.D.Disk.only_now (query_meaning (g.V.Verifier.accepts c.args.environment.keys.now)) refl refl
    (world_before c.args.disk c.args.environment) in
    let read = far_read run c.read_query.new.source (λ e. absurd (cc e)) c.in-Ok.ensures.later in
    refused run refl c.args.disk c.in-Err-opened_facts.end.0 c.read_query.new.source read
    c.in-Err-opened_facts.ensures.stays_err c.in-Err-opened_facts.ensures.later_err
    (given_input c.in-Ok.ensures.read.text)
    (record {
      read = c.in-Ok.ensures.read.read;
      right = ap (option_map BadQuery) c.in-Ok.ensures.read.sound;
      drawn = (λ e. absurd (cc e), λ e. absurd (cc e));
    }) refl NeverRefuses (λ end w. absurd w)
    c.in-Err-opened_facts.end.1 c.in-Err-opened_facts.ensures.refused

pub returns-in-Ok-query_line : goal.returns-in-Ok-query_line
returns-in-Ok-query_line g c =
    let run = begun (outside g.D.Disk g.P.Peer g.S.Source g.K.Sink g.C.Clock g.R.Dice) g.met.D.Disk.counts_now
    g.met.D.Disk.only_now (query_meaning (g.V.Verifier.accepts c.args.environment.keys.now)) refl refl
    (world_before c.args.disk c.args.environment) in
    let read = far_read run c.read_query.new.source (λ e. absurd (cc e)) c.in-Ok.ensures.later in
    let so = far_asked run refl c.args.disk c.in-Ok-opened_facts.opened.0 c.read_query.new.source read
    c.in-Ok-opened_facts.ensures.stays c.in-Ok-opened_facts.ensures.later in
    finished run c.in-Ok-opened_facts.opened.0 c.read_query.new.source [] so
    c.written.new.sink (given_input c.in-Ok.ensures.read.text) c.as_slice.result.now
    (λ e. absurd (cc e), λ e. absurd (cc e)) c.in-Ok.ensures.read.read
    (ap (option_map BadQuery) c.in-Ok.ensures.read.sound)
    (record {
      query = c.in-Ok.query;
      asked = c.in-Ok.ensures.read.asked;
      answer = λ held told. c.as_slice.ensures ∙ c.in-Ok-query_line.ensures
          ∙ ap (λ m. query_line m (g.V.Verifier.accepts c.args.environment.keys.now) c.in-Ok.query)
          (c.in-Ok-opened_facts.ensures.facts held told);
    }) refl c.written.result c.written.ensures.wrote c.written.ensures.later

pub returns : goal.returns
returns g c =
    let run = begun (outside g.D.Disk g.P.Peer g.S.Source g.K.Sink g.C.Clock g.R.Dice) g.met.D.Disk.counts_now
    g.met.D.Disk.only_now (query_meaning (g.V.Verifier.accepts c.args.environment.keys.now)) refl refl
    (world_before c.args.disk c.args.environment) in
    let read = far_read run c.read_query.new.source (λ e. absurd (cc e)) c.in-Ok.ensures.later in
    let so = far_asked run refl c.args.disk c.in-Ok-opened_facts.opened.0 c.read_query.new.source read
    c.in-Ok-opened_facts.ensures.stays c.in-Ok-opened_facts.ensures.later in
    refused run refl c.in-Ok-opened_facts.opened.0 c.in-Ok-opened_facts.opened.0 c.read_query.new.source so
    (stays_itself g.D.Disk g.met.D.Disk.counts_now g.met.D.Disk.only_now c.in-Ok-opened_facts.opened.0) (omega arith)
    (given_input c.in-Ok.ensures.read.text)
    (record {
      read = c.in-Ok.ensures.read.read;
      right = ap (option_map BadQuery) c.in-Ok.ensures.read.sound;
      drawn = (λ e. absurd (cc e), λ e. absurd (cc e));
    }) refl NeverRefuses
    (λ end w. absurd w) NoMemory tt
