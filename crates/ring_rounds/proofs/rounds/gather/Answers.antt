use Rattle.std.proofs.Common.{◌<◌, length, take, get_or, refl, sym, subst, ◌∙◌, arith, take_all, length-set}
use Rattle.std.proofs.lemmas.List.Elements.{length_all_zip}
use Rattle.listed_pages.proofs.Runs.{laws}
use Rattle.ring_rounds.specs.Peers.{IsOnlyRead}
use Rattle.ring_rounds.specs.Rounds.{Gathers}
use Rattle.ring_rounds.proofs.Places.{mapped_same, rest_at, rest_next}
use Rattle.ring_rounds.proofs.Zips.{zip_same, zip_set}
use Rattle.ring_rounds.proofs.Gathering.{gathers_none, gathers_step, gather_stops, only_read, read_same}
use Rattle.ring_rounds.proofs.rounds.gather.Goals as goal

pub peers-init : goal.peers-init
peers-init g c =
    let la = (laws g.A.Peer g.met.A.Peer.puts_nothing g.met.A.Peer.puts_then g.met.A.Peer.puts_follows g.met.A.Peer.follows_then) in
    let lp = (laws g.P.Peer g.met.P.Peer.puts_nothing g.met.P.Peer.puts_then g.met.P.Peer.puts_follows g.met.P.Peer.follows_then) in
    record {
      told = refl;
      left = refl;
      each = zip_same (IsOnlyRead g.P.Peer) (read_same g.A.Peer g.P.Peer la lp) c.args.peers.now;
      done = gathers_none g.A.Peer g.P.Peer la lp c.args.hub.now;
      later = omega arith;
      within = omega arith;
    }

pub returns-in-Err-clause-told : goal.returns-in-Err-clause-told
returns-in-Err-clause-told g c =
    mapped_same g.P.Peer.content c.peers.peers c.peers.i c.sync.new.source c.index-peers-i.result c.in-Err.ensures.told ∙ c.peers.invariant.told

pub returns-in-Err-clause-each : goal.returns-in-Err-clause-each
returns-in-Err-clause-each g c =
    let la = (laws g.A.Peer g.met.A.Peer.puts_nothing g.met.A.Peer.puts_then g.met.A.Peer.puts_follows g.met.A.Peer.follows_then) in
    let lp = (laws g.P.Peer g.met.P.Peer.puts_nothing g.met.P.Peer.puts_then g.met.P.Peer.puts_follows g.met.P.Peer.follows_then) in
    let i = c.peers.i in
    let now = c.peers.peers in
    let old = c.args.peers.now in
    let d = c.index-peers-i.result in
    let x = c.sync.new.source in
    let lt : i < length now = c.peers-test.true in
    let size = length_all_zip (IsOnlyRead g.P.Peer) old now c.peers.invariant.each in
    zip_set (IsOnlyRead g.P.Peer) old now i x d c.peers.invariant.each (subst (λ n. i < n) (sym size) lt)
    (only_read g.A.Peer g.P.Peer la lp (get_or old i d) (get_or now i d) x (rest_at now old i d c.peers.invariant.left) c.in-Err.ensures.told c.in-Err.ensures.nothing c.in-Err.ensures.source_later)

pub returns-in-Err-clause-err : goal.returns-in-Err-clause-err
returns-in-Err-clause-err g c =
    let la = (laws g.A.Peer g.met.A.Peer.puts_nothing g.met.A.Peer.puts_then g.met.A.Peer.puts_follows g.met.A.Peer.follows_then) in
    let lp = (laws g.P.Peer g.met.P.Peer.puts_nothing g.met.P.Peer.puts_then g.met.P.Peer.puts_follows g.met.P.Peer.follows_then) in
    let i = c.peers.i in
    let now = c.peers.peers in
    let old = c.args.peers.now in
    let d = c.index-peers-i.result in
    let lt : i < length now = c.peers-test.true in
    let size = length_all_zip (IsOnlyRead g.P.Peer) old now c.peers.invariant.each in
    gather_stops g.A.Peer g.P.Peer la lp c.args.hub.now c.peers.hub c.sync.new.target old now i d c.sync.new.source c.peers.copied c.in-Err.fault
    (subst (λ n. i < n) (sym size) lt) lt c.peers.invariant.left c.peers.invariant.done c.in-Err.ensures.err c.peers.invariant.later

pub returns-in-Err-clause-run : goal.returns-in-Err-clause-run
returns-in-Err-clause-run g c =
    g.met.A.Peer.follows_then c.args.hub.now c.peers.hub c.sync.new.target
    (g.met.A.Peer.puts_follows c.args.hub.now c.peers.hub c.peers.invariant.done.gone c.peers.invariant.done.given.put) c.in-Err.ensures.run

pub peers-preserved : goal.peers-preserved
peers-preserved g c =
    let la = (laws g.A.Peer g.met.A.Peer.puts_nothing g.met.A.Peer.puts_then g.met.A.Peer.puts_follows g.met.A.Peer.follows_then) in
    let lp = (laws g.P.Peer g.met.P.Peer.puts_nothing g.met.P.Peer.puts_then g.met.P.Peer.puts_follows g.met.P.Peer.follows_then) in
    let content = g.P.Peer.content in
    let i = c.peers.i in
    let now = c.peers.peers in
    let old = c.args.peers.now in
    let d = c.index-peers-i.result in
    let x = c.sync.new.source in
    let lt : i < length now = c.peers-test.true in
    let size = length_all_zip (IsOnlyRead g.P.Peer) old now c.peers.invariant.each in
    let here = rest_at now old i d c.peers.invariant.left in
    let first : i < length old = subst (λ n. i < n) (sym size) lt in
    record {
      told = mapped_same content now i x d c.in-Ok.ensures.told ∙ c.peers.invariant.told;
      left = rest_next now old i x c.peers.invariant.left;
      each = zip_set (IsOnlyRead g.P.Peer) old now i x d c.peers.invariant.each first
          (only_read g.A.Peer g.P.Peer la lp (get_or old i d) (get_or now i d) x here c.in-Ok.ensures.told c.in-Ok.ensures.nothing c.in-Ok.ensures.source_later);
      done = gathers_step g.A.Peer g.P.Peer la lp c.args.hub.now c.peers.hub c.sync.new.target old now i d x c.peers.copied c.saturating_add-copied.result
          c.in-Ok.synced first lt here c.peers.invariant.done c.in-Ok.ensures.ok c.saturating_add-copied.ensures;
      later = omega (arith, c.peers.invariant.later, c.in-Ok.ensures.target_later);
      within = omega (arith, lt, length-set now i x);
    }

pub returns-clause-ok : goal.returns-clause-ok
returns-clause-ok g c =
    let old = c.args.peers.now in
    let now = c.peers.peers in
    let size = length_all_zip (IsOnlyRead g.P.Peer) old now c.peers.invariant.each in
    subst (λ os. Gathers g.A.Peer g.P.Peer c.args.hub.now c.peers.hub os now c.peers.copied) (take_all c.peers.i old (omega (arith, size, c.peers-test.false)))
    (subst (λ ns. Gathers g.A.Peer g.P.Peer c.args.hub.now c.peers.hub (take c.peers.i old) ns c.peers.copied) (take_all c.peers.i now (omega (arith, c.peers-test.false)))
    c.peers.invariant.done)

pub returns-clause-run : goal.returns-clause-run
returns-clause-run g c = g.met.A.Peer.puts_follows c.args.hub.now c.peers.hub c.peers.invariant.done.gone c.peers.invariant.done.given.put
