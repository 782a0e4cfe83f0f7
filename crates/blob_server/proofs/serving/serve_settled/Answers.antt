use Rattle.std.proofs.Common.{◌≡◌, ◌∙◌, true, false, sym, rules}
use Rattle.blob_server.proofs.Ending.{attended_own, attended_seen, failed_seen, serves_from}
use Rattle.blob_server.proofs.serving.serve_settled.Goals as goal

pub returns-then-has_failed-clause-own : goal.returns-then-has_failed-clause-own
returns-then-has_failed-clause-own g c =
    let d = c.attend_all.ensures.does in
    attended_own g.H.Home.sight g.L.Listener.accepted g.L.Listener.faults (g.H.Home.belongs c.args.home.now) c.args.desks.now c.attend_all.new.desks d.0 d.1 d.2

pub returns-clause-own : goal.returns-clause-own
returns-clause-own g c =
    let d = c.attend_all.ensures.does in
    attended_own g.H.Home.sight g.L.Listener.accepted g.L.Listener.faults (g.H.Home.belongs c.args.home.now) c.args.desks.now c.attend_all.new.desks d.0 d.1 d.2

pub returns-then-has_failed-clause-serves : goal.returns-then-has_failed-clause-serves
returns-then-has_failed-clause-serves g c =
    let d = c.attend_all.ensures.does in
    let none = c.open-left.ensures.none in
    let hand = c.attend_all.new.hand in
    let failed : c.has_failed.result ≡ true = search rules in
    serves_from c.args.connections g.J.Connections.all hand.taken.amount hand.dry.amount d.0 d.1 _ _ _ _ true c.requires.all none.0 none.1 d.3 d.4 c.audit.ensures.most c.audit.ensures.all
    (sym (failed_seen g.H.Home.sight g.L.Listener.accepted g.L.Listener.faults (g.H.Home.belongs c.args.home.now) c.attend_all.new.desks) ∙ (sym c.has_failed.ensures ∙ failed))
    (attended_seen g.H.Home.sight g.L.Listener.accepted g.L.Listener.faults (g.H.Home.belongs c.args.home.now) c.args.desks.now c.attend_all.new.desks d.0 d.1 d.2)

pub returns-clause-serves : goal.returns-clause-serves
returns-clause-serves g c =
    let d = c.attend_all.ensures.does in
    let none = c.open-left.ensures.none in
    let hand = c.attend_all.new.hand in
    let failed : c.has_failed.result ≡ false = search rules in
    serves_from c.args.connections g.J.Connections.all hand.taken.amount hand.dry.amount d.0 d.1 _ _ _ _ false c.requires.all none.0 none.1 d.3 d.4 c.audit.ensures.most c.audit.ensures.all
    (sym (failed_seen g.H.Home.sight g.L.Listener.accepted g.L.Listener.faults (g.H.Home.belongs c.args.home.now) c.attend_all.new.desks) ∙ (sym c.has_failed.ensures ∙ failed))
    (attended_seen g.H.Home.sight g.L.Listener.accepted g.L.Listener.faults (g.H.Home.belongs c.args.home.now) c.args.desks.now c.attend_all.new.desks d.0 d.1 d.2)
