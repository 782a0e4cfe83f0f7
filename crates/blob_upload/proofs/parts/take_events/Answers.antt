use Rattle.std.proofs.Common.{◌+◌, ◌++◌, List, take, drop, subst, Ok, Err}
use Rattle.multipart_read.specs.Tokens.{Token, tokens_in, tokens_of}
use Rattle.blob_upload.specs.Taking.{Takes}
use Rattle.blob_upload.proofs.Telling.{takes_none, takes_more, takes_stop, tokens_to, tokens_from, tokens_all}
use Rattle.blob_upload.proofs.parts.take_events.Goals as goal

pub events-init : goal.events-init
events-init g c = (c.requires, takes_none c.args.opened.now c.args.kept.now (g.H.Home.sight c.args.pass.now))

pub events-preserved : goal.events-preserved
events-preserved g c =
    let v = g.H.Home.sight c.args.pass.now in
    let x = g.H.Home.sight c.take_event.new.pass in
    let i = c.events.event-index in
    let event = c.event-item.result in
    let P : List Token → Type 0 = λ ts.
    Takes ts c.args.opened.now c.take_event.new.opened c.args.kept.now c.take_event.new.kept v x (Ok tt) in (
      c.in-Ok.ensures.own,
      subst P (tokens_to c.args.events.now i event c.events-test.true c.event-item.is)
          (takes_more (tokens_of (take i c.args.events.now)) (tokens_in event) _ _ _ _ _ _ _ _ _ (Ok tt)
          c.events.invariant.1 c.in-Ok.ensures.takes),
    )

pub returns-in-Err-clause-takes : goal.returns-in-Err-clause-takes
returns-in-Err-clause-takes g c =
    let v = g.H.Home.sight c.args.pass.now in
    let x = g.H.Home.sight c.take_event.new.pass in
    let i = c.events.event-index in
    let event = c.event-item.result in
    let front = tokens_of (take i c.args.events.now) in
    let end = c.in-Err.end in
    let opened = c.take_event.new.opened in
    let P : List Token → Type 0 = λ ts.
    Takes ts c.args.opened.now opened c.args.kept.now c.take_event.new.kept v x (Err end) in
    subst P (tokens_from c.args.events.now i event c.events-test.true c.event-item.is)
    (takes_stop (front ++ tokens_in event) (tokens_of (drop (i + 1) c.args.events.now)) _ opened _ _ _ _ end
    (takes_more front (tokens_in event) _ _ opened _ _ _ _ _ _ (Err end) c.events.invariant.1
    c.in-Err.ensures.takes))

pub returns-clause-takes : goal.returns-clause-takes
returns-clause-takes g c =
    let v = g.H.Home.sight c.args.pass.now in
    let w = g.H.Home.sight c.events.pass in
    let P : List Token → Type 0 = λ ts.
    Takes ts c.args.opened.now c.events.opened c.args.kept.now c.events.kept v w (Ok tt) in
    subst P (tokens_all c.args.events.now c.events.event-index c.events-test.false) c.events.invariant.1
