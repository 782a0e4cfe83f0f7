use Rattle.std.proofs.Common.{◌≤◌, ℕ, ap, sym, subst}
use Rattle.index_worker.specs.Works.{Works}
use Rattle.index_worker.proofs.Steps.{step_works, at_most_one}
use Rattle.index_worker.proofs.working.step.Goals as goal

pub returns-clause-works : goal.returns-clause-works
returns-clause-works g c =
    let v = g.H.Home.sight c.args.pass.now in
    let w = g.H.Home.sight c.index_next.new.pass in
    subst (λ (n : ℕ). Works 1 n v w) (sym (ap (λ r. r.1) c.outcome-place.ensures)) (step_works (g.H.Home.tells c.args.home.now) c.index_next.result v w c.index_next.ensures.indexes)

pub returns-clause-one : goal.returns-clause-one
returns-clause-one g c = subst (λ (n : ℕ). n ≤ 1) (sym (ap (λ r. r.1) c.outcome-place.ensures)) (at_most_one c.index_next.result)
