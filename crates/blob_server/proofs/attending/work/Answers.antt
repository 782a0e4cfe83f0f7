use Rattle.std.proofs.Common.{◌≡◌, ℕ, ◌+◌, ◌∙◌, true, false, arith, rules}
use Rattle.blob_http.proofs.Staying.{longer_chain}
use Rattle.blob_server.specs.Stands.{counts_of}
use Rattle.blob_server.proofs.Giving.{goes_more, goes_fails}
use Rattle.blob_server.proofs.attending.work.Goals as goal

pub returns-then-not-serve_next-clause-gives : goal.returns-then-not-serve_next-clause-gives
returns-then-not-serve_next-clause-gives g c =
    let i = c.connections.invariant in
    let took : c.take.result ≡ true = search rules in
    let e = c.take.ensures.taken took in
    let none : c.serve_next.result ≡ false = search rules in
    let s = c.serve_next.ensures in
    let counts = counts_of g.L.Listener.accepted g.L.Listener.faults in
    let before = i.7.1 in
    let dry = i.6 in (
      i.7.0 + 1,
      0,
      goes_fails (counts c.args.listener.now) (counts c.connections.listener) (counts c.serve_next.new.listener) i.7.0 s.later (s.none none) (s.failed none) i.7.2,
      omega (arith, before, e.0),
      omega (arith, dry, e.1),
    )

pub connections-preserved : goal.connections-preserved
connections-preserved g c =
    let i = c.connections.invariant in
    let took : c.take.result ≡ true = search rules in
    let e = c.take.ensures.taken took in
    let some : c.serve_next.result ≡ true = search rules in
    let s = c.serve_next.ensures in
    let p = c.take.ensures.parts in
    let counts = counts_of g.L.Listener.accepted g.L.Listener.faults in
    let before = i.7.1 in (
      tt,
      tt,
      s.own,
      longer_chain (g.H.Home.sight c.args.pass.now) (g.H.Home.sight c.connections.pass) (g.H.Home.sight c.serve_next.new.pass) i.3 s.longer,
      ◌∙◌ {A = ℕ} p.0 i.4,
      ◌∙◌ {A = ℕ} p.1 i.5,
      ◌∙◌ {A = ℕ} e.1 i.6,
      (i.7.0 + 1, omega (arith, before, e.0), goes_more (counts c.args.listener.now) (counts c.connections.listener) (counts c.serve_next.new.listener) i.7.0 s.later (s.some some) i.7.2),
    )

pub returns-then-not-serve_next-clause-longer : goal.returns-then-not-serve_next-clause-longer
returns-then-not-serve_next-clause-longer g c =
    longer_chain (g.H.Home.sight c.args.pass.now) (g.H.Home.sight c.connections.pass)
    (g.H.Home.sight c.serve_next.new.pass) c.connections.invariant.3 c.serve_next.ensures.longer
