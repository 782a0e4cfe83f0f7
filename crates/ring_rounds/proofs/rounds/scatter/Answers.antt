use Rattle.std.proofs.Common.{◌≡◌, ◌<◌, ◌+◌, [], length, map, take, get_or, None, refl, sym, ap, subst, ◌∙◌, arith, take_all, length-set}
use Rattle.std.proofs.lemmas.List.{map-set}
use Rattle.std.proofs.lemmas.List.Elements.{length_all_zip}
use Rattle.listed_pages.proofs.Runs.{laws}
use Rattle.ring_rounds.specs.Maps.{AreGiven, IsCount, scattered}
use Rattle.sync_core.specs.Syncing.{IsSynced}
use Rattle.ring_rounds.specs.Peers.{IsRunOf}
use Rattle.ring_rounds.specs.Turns.{CountsTurns, Takes}
use Rattle.ring_rounds.proofs.Places.{mapped_at, mapped_length, rest_at, rest_next}
use Rattle.ring_rounds.proofs.Turns.{turns_none, turns_next}
use Rattle.ring_rounds.proofs.Zips.{zip_same, zip_set}
use Rattle.ring_rounds.proofs.Scattering.{given_first, given_step, count_first, count_step, copied_to, scatter_stops, run_of, run_same}
use Rattle.ring_rounds.proofs.rounds.scatter.Goals as goal

pub peers-init : goal.peers-init
peers-init g c =
    let la = (laws g.A.Peer g.met.A.Peer.puts_nothing g.met.A.Peer.puts_then g.met.A.Peer.puts_follows g.met.A.Peer.follows_then) in
    let lp = (laws g.P.Peer g.met.P.Peer.puts_nothing g.met.P.Peer.puts_then g.met.P.Peer.puts_follows g.met.P.Peer.follows_then) in
    record {
      told = refl;
      nothing = g.met.A.Peer.puts_nothing c.args.hub.now;
      left = refl;
      each = zip_same (IsRunOf g.P.Peer) (run_same g.A.Peer g.P.Peer la lp) c.args.peers.now;
      given = given_first (g.A.Peer.content c.args.hub.now) (map g.P.Peer.content c.args.peers.now);
      count = count_first (g.A.Peer.content c.args.hub.now) (map g.P.Peer.content c.args.peers.now);
      did = turns_none (Takes g.A.Peer g.P.Peer) c.args.hub.now;
      later = omega arith;
      within = omega arith;
    }

pub returns-in-Err-clause-nothing : goal.returns-in-Err-clause-nothing
returns-in-Err-clause-nothing g c = g.met.A.Peer.puts_then c.args.hub.now c.peers.hub c.sync.new.source [] [] c.peers.invariant.nothing c.in-Err.ensures.nothing

pub returns-in-Err-clause-err : goal.returns-in-Err-clause-err
returns-in-Err-clause-err g c =
    let la = (laws g.A.Peer g.met.A.Peer.puts_nothing g.met.A.Peer.puts_then g.met.A.Peer.puts_follows g.met.A.Peer.follows_then) in
    let lp = (laws g.P.Peer g.met.P.Peer.puts_nothing g.met.P.Peer.puts_then g.met.P.Peer.puts_follows g.met.P.Peer.follows_then) in
    let i = c.peers.i in
    let now = c.peers.peers in
    let old = c.args.peers.now in
    let lt : i < length now = c.peers-test.true in
    let size = length_all_zip (IsRunOf g.P.Peer) old now c.peers.invariant.each in
    scatter_stops g.A.Peer g.P.Peer la lp c.args.hub.now c.peers.hub c.sync.new.source old now i c.index-peers-i.result c.sync.new.target c.peers.copied c.in-Err.fault
    (subst (λ n. i < n) (sym size) lt) lt c.peers.invariant.left c.peers.invariant.told c.peers.invariant.nothing c.peers.invariant.later c.peers.invariant.given c.peers.invariant.did c.in-Err.ensures.err

pub returns-in-Err-clause-each : goal.returns-in-Err-clause-each
returns-in-Err-clause-each g c =
    let la = (laws g.A.Peer g.met.A.Peer.puts_nothing g.met.A.Peer.puts_then g.met.A.Peer.puts_follows g.met.A.Peer.follows_then) in
    let lp = (laws g.P.Peer g.met.P.Peer.puts_nothing g.met.P.Peer.puts_then g.met.P.Peer.puts_follows g.met.P.Peer.follows_then) in
    let i = c.peers.i in
    let now = c.peers.peers in
    let old = c.args.peers.now in
    let d = c.index-peers-i.result in
    let x = c.sync.new.target in
    let lt : i < length now = c.peers-test.true in
    let size = length_all_zip (IsRunOf g.P.Peer) old now c.peers.invariant.each in
    zip_set (IsRunOf g.P.Peer) old now i x d c.peers.invariant.each (subst (λ n. i < n) (sym size) lt)
    (run_of g.A.Peer g.P.Peer la lp (get_or old i d) (get_or now i d) x (rest_at now old i d c.peers.invariant.left) c.in-Err.ensures.run c.in-Err.ensures.target_later)

pub peers-preserved : goal.peers-preserved
peers-preserved g c =
    let la = (laws g.A.Peer g.met.A.Peer.puts_nothing g.met.A.Peer.puts_then g.met.A.Peer.puts_follows g.met.A.Peer.follows_then) in
    let lp = (laws g.P.Peer g.met.P.Peer.puts_nothing g.met.P.Peer.puts_then g.met.P.Peer.puts_follows g.met.P.Peer.follows_then) in
    let content = g.P.Peer.content in
    let hub = g.A.Peer.content c.args.hub.now in
    let i = c.peers.i in
    let now = c.peers.peers in
    let old = c.args.peers.now in
    let d = c.index-peers-i.result in
    let x = c.sync.new.target in
    let lt : i < length now = c.peers-test.true in
    let size = length_all_zip (IsRunOf g.P.Peer) old now c.peers.invariant.each in
    let same = rest_at now old i d c.peers.invariant.left in
    let first : i < length old = subst (λ n. i < n) (sym size) lt in
    let here : content (get_or now i d) ≡ get_or (map content old) i None = ap content same ∙ sym (mapped_at content old i d None first) in
    let copied = copied_to g.A.Peer g.P.Peer la lp c.args.hub.now c.peers.hub c.sync.new.source (map content old) i (get_or now i d) x c.in-Ok.synced c.peers.invariant.told here c.in-Ok.ensures.ok in
    record {
      told = c.in-Ok.ensures.told ∙ c.peers.invariant.told;
      nothing = g.met.A.Peer.puts_then c.args.hub.now c.peers.hub c.sync.new.source [] [] c.peers.invariant.nothing c.in-Ok.ensures.nothing;
      left = rest_next now old i x c.peers.invariant.left;
      each = zip_set (IsRunOf g.P.Peer) old now i x d c.peers.invariant.each first
          (run_of g.A.Peer g.P.Peer la lp (get_or old i d) (get_or now i d) x same c.in-Ok.ensures.run c.in-Ok.ensures.target_later);
      given = subst (AreGiven hub (i + 1) (map content old)) (sym (map-set content now i x))
          (given_step hub i (map content old) (map content now) (content x) (subst (λ n. i < n) (sym (mapped_length content now)) lt) c.peers.invariant.given
          (λ from is to at. (copied from is to at).0));
      count = count_step hub (map content old) i (content x) c.peers.copied c.in-Ok.synced.copied c.saturating_add-copied.result
          (subst (λ n. i < n) (sym (mapped_length content old)) first) c.peers.invariant.count copied c.saturating_add-copied.ensures;
      did = turns_next (Takes g.A.Peer g.P.Peer) c.args.hub.now c.peers.hub c.sync.new.source old now i d x c.peers.copied c.in-Ok.synced.copied c.saturating_add-copied.result
          first lt c.peers.invariant.did (c.in-Ok.synced, subst (λ p. IsSynced g.A.Peer g.P.Peer c.peers.hub c.sync.new.source p x c.in-Ok.synced) same c.in-Ok.ensures.ok, refl) c.saturating_add-copied.ensures;
      later = omega (arith, c.peers.invariant.later, c.in-Ok.ensures.source_later);
      within = omega (arith, lt, length-set now i x);
    }

pub returns-clause-ok : goal.returns-clause-ok
returns-clause-ok g c =
    let content = g.P.Peer.content in
    let hub = g.A.Peer.content c.args.hub.now in
    let old = map content c.args.peers.now in
    let size = length_all_zip (IsRunOf g.P.Peer) c.args.peers.now c.peers.peers c.peers.invariant.each in
    let all = mapped_length content c.args.peers.now in
    let end : c.peers.i ≡ length old = omega (arith, size, all, c.peers-test.false, c.peers.invariant.within) in
    record {
      maps = subst (λ n. AreGiven hub n old (map content c.peers.peers)) end c.peers.invariant.given;
      count = subst (λ os. IsCount (scattered hub os) c.peers.copied) (take_all c.peers.i old (omega (arith, end))) c.peers.invariant.count;
      did = subst (λ os. CountsTurns (Takes g.A.Peer g.P.Peer) c.args.hub.now c.peers.hub os c.peers.peers c.peers.copied) (take_all c.peers.i c.args.peers.now (omega (arith, size, c.peers-test.false)))
          (subst (λ ns. CountsTurns (Takes g.A.Peer g.P.Peer) c.args.hub.now c.peers.hub (take c.peers.i c.args.peers.now) ns c.peers.copied)
          (take_all c.peers.i c.peers.peers (omega (arith, c.peers-test.false))) c.peers.invariant.did);
    }
