use Rattle.std.proofs.Common.{◌≡◌, inr, [], Option, Some, None, Ok, Err, subst, sym, List, ℕ}
use Rattle.std.specs.Option.{ForSome}
use Rattle.std.specs.FinMap.{get}
use Rattle.listed_pages.proofs.Runs.{laws, fetched_once, put_once}
use Rattle.sync_core.proofs.Gone.{gone_away, not_fetched, fetch_fault, one_copied, not_put}
use Rattle.sync_core.proofs.copying.copy_one.Goals as goal

pub returns-in-Ok-None-clause-err : goal.returns-in-Ok-None-clause-err
returns-in-Ok-None-clause-err g c =
    let la = (laws g.A.Peer g.met.A.Peer.puts_nothing g.met.A.Peer.puts_then g.met.A.Peer.puts_follows
    g.met.A.Peer.follows_then) in
    let lb = (laws g.B.Peer g.met.B.Peer.puts_nothing g.met.B.Peer.puts_then g.met.B.Peer.puts_follows
    g.met.B.Peer.follows_then) in
    let call = subst (λ (found : Option (List ℕ)). g.A.Peer.fetches c.args.source.now c.args.r.now
    (Ok found) c.fetch.new.self) c.in-Ok-None.field-0-is c.in-Ok-None.ensures.is in
    gone_away g.A.Peer g.B.Peer la lb c.args.source.now c.fetch.new.self c.args.target.now c.args.r.now
    (fetched_once g.A.Peer la c.args.source.now c.fetch.new.self c.args.r.now (Ok None) call) call c.requires
    (subst (λ found. ForSome (g.A.Peer.content c.args.source.now) (λ held. found ≡ get held c.args.r.now))
    c.in-Ok-None.field-0-is c.in-Ok-None.ensures.found)

pub returns-in-Ok-None-clause-run : goal.returns-in-Ok-None-clause-run
returns-in-Ok-None-clause-run g c = g.met.B.Peer.puts_follows c.args.target.now c.args.target.now []
    (g.met.B.Peer.puts_nothing c.args.target.now)

pub returns-in-Err-clause-err : goal.returns-in-Err-clause-err
returns-in-Err-clause-err g c =
    let la = (laws g.A.Peer g.met.A.Peer.puts_nothing g.met.A.Peer.puts_then g.met.A.Peer.puts_follows
    g.met.A.Peer.follows_then) in
    let lb = (laws g.B.Peer g.met.B.Peer.puts_nothing g.met.B.Peer.puts_then g.met.B.Peer.puts_follows
    g.met.B.Peer.follows_then) in
    not_fetched g.A.Peer g.B.Peer la lb c.args.source.now c.fetch.new.self c.args.target.now c.args.r.now c.in-Err.fault
    (fetch_fault (g.A.Peer.content c.args.source.now) (g.A.Peer.faults c.args.source.now)
    (g.A.Peer.faults c.fetch.new.self) c.args.r.now (Option (List ℕ)) c.in-Err.fault c.in-Err.ensures.cause)
    (inr (
      c.args.r.now,
      fetched_once g.A.Peer la c.args.source.now c.fetch.new.self c.args.r.now (Err c.in-Err.fault)
          c.in-Err.ensures.is,
    )) c.in-Err.ensures.is

pub returns-in-Err-clause-run : goal.returns-in-Err-clause-run
returns-in-Err-clause-run g c = g.met.B.Peer.puts_follows c.args.target.now c.args.target.now []
    (g.met.B.Peer.puts_nothing c.args.target.now)

pub returns-in-Ok-clause-ok : goal.returns-in-Ok-clause-ok
returns-in-Ok-clause-ok g c =
    let la = (laws g.A.Peer g.met.A.Peer.puts_nothing g.met.A.Peer.puts_then g.met.A.Peer.puts_follows
    g.met.A.Peer.follows_then) in
    let lb = (laws g.B.Peer g.met.B.Peer.puts_nothing g.met.B.Peer.puts_then g.met.B.Peer.puts_follows
    g.met.B.Peer.follows_then) in
    let found = subst (λ found. ForSome (g.A.Peer.content c.args.source.now) (λ held. found ≡ get held c.args.r.now))
    c.in-Ok-Some.field-0-is c.in-Ok-Some.ensures.found in
    one_copied g.A.Peer g.B.Peer la lb c.args.source.now c.fetch.new.self c.args.target.now c.put.new.self c.args.r.now
    c.as_slice.result.now
    (subst (λ bytes. ForSome (g.A.Peer.content c.args.source.now) (λ held. Some bytes ≡ get held c.args.r.now))
    (sym c.as_slice.ensures) found) c.in-Ok.ensures.kept c.in-Ok.ensures.leaves
    (subst (λ bytes. g.A.Peer.fetches c.args.source.now c.args.r.now (Ok (Some bytes)) c.fetch.new.self)
    (sym c.as_slice.ensures) (subst (λ (found : Option (List ℕ)). g.A.Peer.fetches c.args.source.now c.args.r.now
    (Ok found) c.fetch.new.self) c.in-Ok-Some.field-0-is c.in-Ok-Some.ensures.is))
    c.in-Ok.ensures.is

pub returns-clause-err : goal.returns-clause-err
returns-clause-err g c =
    let la = (laws g.A.Peer g.met.A.Peer.puts_nothing g.met.A.Peer.puts_then g.met.A.Peer.puts_follows
    g.met.A.Peer.follows_then) in
    let lb = (laws g.B.Peer g.met.B.Peer.puts_nothing g.met.B.Peer.puts_then g.met.B.Peer.puts_follows
    g.met.B.Peer.follows_then) in
    let found = subst (λ found. ForSome (g.A.Peer.content c.args.source.now) (λ held. found ≡ get held c.args.r.now))
    c.in-Ok-Some.field-0-is c.in-Ok-Some.ensures.found in
    not_put g.A.Peer g.B.Peer la lb c.args.source.now c.fetch.new.self c.args.target.now c.put.new.self c.args.r.now
    c.as_slice.result.now
    (subst (λ bytes. ForSome (g.A.Peer.content c.args.source.now) (λ held. Some bytes ≡ get held c.args.r.now))
    (sym c.as_slice.ensures) found)
    (subst (λ bytes. g.A.Peer.fetches c.args.source.now c.args.r.now (Ok (Some bytes)) c.fetch.new.self)
    (sym c.as_slice.ensures) (subst (λ (found : Option (List ℕ)). g.A.Peer.fetches c.args.source.now c.args.r.now
    (Ok found) c.fetch.new.self) c.in-Ok-Some.field-0-is c.in-Ok-Some.ensures.is))
    c.in-Err-put.fault c.in-Err-put.ensures.refused c.in-Err-put.ensures.leaves
    (inr (inr (
      (c.args.r.now, c.as_slice.result.now),
      put_once g.B.Peer lb c.args.target.now c.put.new.self
          (c.args.r.now, c.as_slice.result.now) (Err c.in-Err-put.fault) c.in-Err-put.ensures.is,
    )))
    c.in-Err-put.ensures.is
