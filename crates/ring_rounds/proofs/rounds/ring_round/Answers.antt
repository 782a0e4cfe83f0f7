use Rattle.listed_pages.proofs.Runs.{laws}
use Rattle.ring_rounds.proofs.Ending.{round_done, gather_breaks, round_stops, all_run, all_read, hub_run}
use Rattle.ring_rounds.proofs.Joins.{round_joins, round_between, stops_between}
use Rattle.ring_rounds.proofs.rounds.ring_round.Goals as goal

pub returns-in-Err-clause-err : goal.returns-in-Err-clause-err
returns-in-Err-clause-err g c =
    let la = (laws g.A.Peer g.met.A.Peer.puts_nothing g.met.A.Peer.puts_then g.met.A.Peer.puts_follows g.met.A.Peer.follows_then) in
    let lp = (laws g.P.Peer g.met.P.Peer.puts_nothing g.met.P.Peer.puts_then g.met.P.Peer.puts_follows g.met.P.Peer.follows_then) in
    gather_breaks g.A.Peer g.P.Peer la lp c.args.hub.now c.gather.new.hub c.args.peers.now c.gather.new.peers c.in-Err.fault c.in-Err.ensures.told c.in-Err.ensures.each c.in-Err.ensures.err

pub returns-in-Err-clause-between : goal.returns-in-Err-clause-between
returns-in-Err-clause-between g c =
    let la = (laws g.A.Peer g.met.A.Peer.puts_nothing g.met.A.Peer.puts_then g.met.A.Peer.puts_follows g.met.A.Peer.follows_then) in
    let lp = (laws g.P.Peer g.met.P.Peer.puts_nothing g.met.P.Peer.puts_then g.met.P.Peer.puts_follows g.met.P.Peer.follows_then) in
    stops_between g.A.Peer g.P.Peer c.args.hub.now c.gather.new.hub c.args.peers.now c.gather.new.peers c.in-Err.fault (
    gather_breaks g.A.Peer g.P.Peer la lp c.args.hub.now c.gather.new.hub c.args.peers.now c.gather.new.peers c.in-Err.fault c.in-Err.ensures.told c.in-Err.ensures.each c.in-Err.ensures.err)

pub returns-in-Err-clause-each : goal.returns-in-Err-clause-each
returns-in-Err-clause-each g c =
    let la = (laws g.A.Peer g.met.A.Peer.puts_nothing g.met.A.Peer.puts_then g.met.A.Peer.puts_follows g.met.A.Peer.follows_then) in
    let lp = (laws g.P.Peer g.met.P.Peer.puts_nothing g.met.P.Peer.puts_then g.met.P.Peer.puts_follows g.met.P.Peer.follows_then) in
    all_read g.A.Peer g.P.Peer la lp c.args.peers.now c.gather.new.peers c.in-Err.ensures.each

pub returns-in-Ok-scatter-clause-ok : goal.returns-in-Ok-scatter-clause-ok
returns-in-Ok-scatter-clause-ok g c =
    let la = (laws g.A.Peer g.met.A.Peer.puts_nothing g.met.A.Peer.puts_then g.met.A.Peer.puts_follows g.met.A.Peer.follows_then) in
    let lp = (laws g.P.Peer g.met.P.Peer.puts_nothing g.met.P.Peer.puts_then g.met.P.Peer.puts_follows g.met.P.Peer.follows_then) in
    round_done g.A.Peer g.P.Peer la lp c.args.hub.now c.gather.new.hub c.scatter.new.hub c.args.peers.now c.gather.new.peers c.scatter.new.peers
    c.in-Ok.n c.in-Ok-scatter.n c.saturating_add.result c.in-Ok.ensures.ok c.in-Ok.ensures.told c.in-Ok.ensures.each c.in-Ok-scatter.ensures.told c.in-Ok-scatter.ensures.nothing
    c.in-Ok-scatter.ensures.ok c.saturating_add.ensures

pub returns-in-Ok-scatter-clause-joined : goal.returns-in-Ok-scatter-clause-joined
returns-in-Ok-scatter-clause-joined g c =
    let la = (laws g.A.Peer g.met.A.Peer.puts_nothing g.met.A.Peer.puts_then g.met.A.Peer.puts_follows g.met.A.Peer.follows_then) in
    let lp = (laws g.P.Peer g.met.P.Peer.puts_nothing g.met.P.Peer.puts_then g.met.P.Peer.puts_follows g.met.P.Peer.follows_then) in
    round_joins g.A.Peer g.P.Peer c.args.hub.now c.scatter.new.hub c.args.peers.now c.scatter.new.peers c.saturating_add.result (
    round_done g.A.Peer g.P.Peer la lp c.args.hub.now c.gather.new.hub c.scatter.new.hub c.args.peers.now c.gather.new.peers c.scatter.new.peers
    c.in-Ok.n c.in-Ok-scatter.n c.saturating_add.result c.in-Ok.ensures.ok c.in-Ok.ensures.told c.in-Ok.ensures.each c.in-Ok-scatter.ensures.told c.in-Ok-scatter.ensures.nothing
    c.in-Ok-scatter.ensures.ok c.saturating_add.ensures)

pub returns-in-Ok-scatter-clause-between : goal.returns-in-Ok-scatter-clause-between
returns-in-Ok-scatter-clause-between g c =
    let la = (laws g.A.Peer g.met.A.Peer.puts_nothing g.met.A.Peer.puts_then g.met.A.Peer.puts_follows g.met.A.Peer.follows_then) in
    let lp = (laws g.P.Peer g.met.P.Peer.puts_nothing g.met.P.Peer.puts_then g.met.P.Peer.puts_follows g.met.P.Peer.follows_then) in
    round_between g.A.Peer g.P.Peer c.args.hub.now c.scatter.new.hub c.args.peers.now c.scatter.new.peers c.saturating_add.result (
    round_done g.A.Peer g.P.Peer la lp c.args.hub.now c.gather.new.hub c.scatter.new.hub c.args.peers.now c.gather.new.peers c.scatter.new.peers
    c.in-Ok.n c.in-Ok-scatter.n c.saturating_add.result c.in-Ok.ensures.ok c.in-Ok.ensures.told c.in-Ok.ensures.each c.in-Ok-scatter.ensures.told c.in-Ok-scatter.ensures.nothing
    c.in-Ok-scatter.ensures.ok c.saturating_add.ensures)

pub returns-in-Ok-scatter-clause-run : goal.returns-in-Ok-scatter-clause-run
returns-in-Ok-scatter-clause-run g c =
    let la = (laws g.A.Peer g.met.A.Peer.puts_nothing g.met.A.Peer.puts_then g.met.A.Peer.puts_follows g.met.A.Peer.follows_then) in
    let lp = (laws g.P.Peer g.met.P.Peer.puts_nothing g.met.P.Peer.puts_then g.met.P.Peer.puts_follows g.met.P.Peer.follows_then) in
    hub_run g.A.Peer g.P.Peer la lp c.args.hub.now c.gather.new.hub c.scatter.new.hub c.in-Ok.ensures.run c.in-Ok-scatter.ensures.nothing

pub returns-in-Ok-scatter-clause-each : goal.returns-in-Ok-scatter-clause-each
returns-in-Ok-scatter-clause-each g c =
    let la = (laws g.A.Peer g.met.A.Peer.puts_nothing g.met.A.Peer.puts_then g.met.A.Peer.puts_follows g.met.A.Peer.follows_then) in
    let lp = (laws g.P.Peer g.met.P.Peer.puts_nothing g.met.P.Peer.puts_then g.met.P.Peer.puts_follows g.met.P.Peer.follows_then) in
    all_run g.A.Peer g.P.Peer la lp c.args.peers.now c.gather.new.peers c.scatter.new.peers c.in-Ok.ensures.each c.in-Ok-scatter.ensures.each

pub returns-in-Err-scatter-clause-err : goal.returns-in-Err-scatter-clause-err
returns-in-Err-scatter-clause-err g c =
    let la = (laws g.A.Peer g.met.A.Peer.puts_nothing g.met.A.Peer.puts_then g.met.A.Peer.puts_follows g.met.A.Peer.follows_then) in
    let lp = (laws g.P.Peer g.met.P.Peer.puts_nothing g.met.P.Peer.puts_then g.met.P.Peer.puts_follows g.met.P.Peer.follows_then) in
    round_stops g.A.Peer g.P.Peer la lp c.args.hub.now c.gather.new.hub c.scatter.new.hub c.args.peers.now c.gather.new.peers c.scatter.new.peers c.in-Ok.n
    c.in-Err-scatter.fault c.in-Ok.ensures.ok c.in-Ok.ensures.told c.in-Ok.ensures.each c.in-Ok.ensures.later c.in-Err-scatter.ensures.told c.in-Err-scatter.ensures.nothing c.in-Err-scatter.ensures.err

pub returns-in-Err-scatter-clause-between : goal.returns-in-Err-scatter-clause-between
returns-in-Err-scatter-clause-between g c =
    let la = (laws g.A.Peer g.met.A.Peer.puts_nothing g.met.A.Peer.puts_then g.met.A.Peer.puts_follows g.met.A.Peer.follows_then) in
    let lp = (laws g.P.Peer g.met.P.Peer.puts_nothing g.met.P.Peer.puts_then g.met.P.Peer.puts_follows g.met.P.Peer.follows_then) in
    stops_between g.A.Peer g.P.Peer c.args.hub.now c.scatter.new.hub c.args.peers.now c.scatter.new.peers c.in-Err-scatter.fault (
    round_stops g.A.Peer g.P.Peer la lp c.args.hub.now c.gather.new.hub c.scatter.new.hub c.args.peers.now c.gather.new.peers c.scatter.new.peers c.in-Ok.n
    c.in-Err-scatter.fault c.in-Ok.ensures.ok c.in-Ok.ensures.told c.in-Ok.ensures.each c.in-Ok.ensures.later c.in-Err-scatter.ensures.told c.in-Err-scatter.ensures.nothing c.in-Err-scatter.ensures.err)

pub returns-in-Err-scatter-clause-run : goal.returns-in-Err-scatter-clause-run
returns-in-Err-scatter-clause-run g c =
    let la = (laws g.A.Peer g.met.A.Peer.puts_nothing g.met.A.Peer.puts_then g.met.A.Peer.puts_follows g.met.A.Peer.follows_then) in
    let lp = (laws g.P.Peer g.met.P.Peer.puts_nothing g.met.P.Peer.puts_then g.met.P.Peer.puts_follows g.met.P.Peer.follows_then) in
    hub_run g.A.Peer g.P.Peer la lp c.args.hub.now c.gather.new.hub c.scatter.new.hub c.in-Ok.ensures.run c.in-Err-scatter.ensures.nothing

pub returns-in-Err-scatter-clause-each : goal.returns-in-Err-scatter-clause-each
returns-in-Err-scatter-clause-each g c =
    let la = (laws g.A.Peer g.met.A.Peer.puts_nothing g.met.A.Peer.puts_then g.met.A.Peer.puts_follows g.met.A.Peer.follows_then) in
    let lp = (laws g.P.Peer g.met.P.Peer.puts_nothing g.met.P.Peer.puts_then g.met.P.Peer.puts_follows g.met.P.Peer.follows_then) in
    all_run g.A.Peer g.P.Peer la lp c.args.peers.now c.gather.new.peers c.scatter.new.peers c.in-Ok.ensures.each c.in-Err-scatter.ensures.each
