use Rattle.std.proofs.Common.{◌≡◌, true, false, subst, ◌≤◌, arith, rules, ℕ}
use Rattle.edge_base.specs.Edge.{one_more}
use Rattle.share_gate.proofs.Reading.{read_then}
use Rattle.share_server.specs.Serving.{IsAccepted}
use Rattle.share_server.proofs.Ending.{goes_none, goes_more}
use Rattle.share_server.proofs.accepting.accept_all.Goals as goal

pub connections-init : goal.connections-init
connections-init g c = (
  omega arith,
  goes_none g.B.Shelf g.met.B.Shelf.puts_nothing (g.L.Listener.accepted c.args.listener.now)
      (g.L.Listener.faults c.args.listener.now) c.args.shelf.now,
)

pub connections-preserved : goal.connections-preserved
connections-preserved g c =
    let i = c.connections.invariant in
    let some : c.serve_next.result ≡ true = search rules in
    let s = c.serve_next.ensures in (
      (let more = c.connections-test.true in omega (arith, more)),
      goes_more g.B.Shelf g.met.B.Shelf.puts_then (g.L.Listener.accepted c.args.listener.now)
          (g.L.Listener.accepted c.connections.listener) (g.L.Listener.accepted c.serve_next.new.listener)
          (g.L.Listener.faults c.args.listener.now) (g.L.Listener.faults c.connections.listener)
          (g.L.Listener.faults c.serve_next.new.listener) c.connections.served c.args.shelf.now c.connections.shelf
          c.serve_next.new.shelf (s.some some) s.later s.read i.1,
    )

pub returns-then-not-serve_next-clause-most : goal.returns-then-not-serve_next-clause-most
returns-then-not-serve_next-clause-most g c =
    let none : c.serve_next.result ≡ false = search rules in
    let same = c.serve_next.ensures.none none in
    let m = c.connections.invariant.1.most in
    let within = c.connections.invariant.0 in
    omega (arith, same, m, within)

pub returns-then-not-serve_next-clause-failed : goal.returns-then-not-serve_next-clause-failed
returns-then-not-serve_next-clause-failed g c is =
    let none : c.serve_next.result ≡ false = search rules in
    let rose : one_more (g.L.Listener.faults c.connections.listener) ≤ g.L.Listener.faults c.serve_next.new.listener =
    c.serve_next.ensures.failed none in
    let l = c.connections.invariant.1.later in
    omega (arith, rose, l)

pub returns-then-not-serve_next-clause-read : goal.returns-then-not-serve_next-clause-read
returns-then-not-serve_next-clause-read g c =
    read_then g.B.Shelf g.met.B.Shelf.puts_then c.args.shelf.now c.connections.shelf c.serve_next.new.shelf
    c.connections.invariant.1.read c.serve_next.ensures.read

pub returns-clause-all : goal.returns-clause-all
returns-clause-all g c is =
    let i = c.connections.invariant in
    let within = i.0 in
    let done = c.connections-test.false in
    let all : c.connections.served ≡ c.args.connections = omega (arith, within, done) in
    subst (λ (n : ℕ). IsAccepted n (g.L.Listener.accepted c.args.listener.now)
    (g.L.Listener.accepted c.connections.listener)) all i.1.given

pub returns-clause-read : goal.returns-clause-read
returns-clause-read g c = c.connections.invariant.1.read
