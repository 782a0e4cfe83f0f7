use Rattle.std.proofs.Common.{◌≡◌, ℕ, subst, arith, rules}
use Rattle.index_worker.specs.Works.{Works}
use Rattle.index_worker.specs.Asks.{Asks, Notes}
use Rattle.index_worker.proofs.Steps.{works_none, works_chain}
use Rattle.index_worker.proofs.Asking.{asks_none, asks_more}
use Rattle.index_worker.proofs.working.index_worker.Goals as goal

pub steps-init : goal.steps-init
steps-init g c = (
  c.requires,
  omega arith,
  works_none (g.H.Home.sight c.args.pass.now),
  asks_none g.G.Gate.tells (g.H.Home.tells c.args.home.now) c.args.gate.now (g.H.Home.sight c.args.pass.now),
)

pub steps-preserved : goal.steps-preserved
steps-preserved g c =
    let u = g.H.Home.sight c.args.pass.now in
    let v = g.H.Home.sight c.steps.pass in
    let w = g.H.Home.sight c.step-inserted.new.pass in
    let so_far = c.steps.invariant in
    let made = c.step-inserted.ensures in (
      made.own,
      (let one = made.one in let few = so_far.1 in omega (arith, one, few)),
      works_chain c.steps.counter 1 c.steps.inserted c.step-inserted.result u v w so_far.2 made.works,
      asks_more g.G.Gate.tells (g.H.Home.tells c.args.home.now) c.args.gate.now c.steps.gate c.step-inserted.new.gate c.steps.counter u v w so_far.3 made.asks,
    )

pub returns-clause-works : goal.returns-clause-works
returns-clause-works g c =
    let all : c.steps.counter ≡ c.args.turns = search rules in
    subst (λ (n : ℕ). Works n c.steps.inserted (g.H.Home.sight c.args.pass.now) (g.H.Home.sight c.steps.pass)) all c.steps.invariant.2

pub returns-clause-asks : goal.returns-clause-asks
returns-clause-asks g c =
    let all : c.steps.counter ≡ c.args.turns = search rules in
    subst (λ (n : ℕ). Asks (g.H.Home.tells c.args.home.now) (Notes g.G.Gate.tells c.args.gate.now c.steps.gate) n (g.H.Home.sight c.args.pass.now) (g.H.Home.sight c.steps.pass)) all
    c.steps.invariant.3
