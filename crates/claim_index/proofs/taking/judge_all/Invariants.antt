use Rattle.std.proofs.Common.{◌≡◌, ◌≤◌, ◌+◌, ℕ, List, drop, take}
use Rattle.std.specs.FinMap.{contains_key}
use Rattle.claim_index.specs.Halfway.{IsHalfway, CanBeJudged}
use Rattle.std.specs.List.{sum_by}
use Rattle.claim_index.specs.Costs.{look_steps, AddsFor}
use Rattle.claim_index.proofs.taking.judge_all.Given as goal

-- what is behind the place is left to be judged
abbrev pub invariant-loop-x : goal.invariant-loop-x
invariant-loop-x g l =
    (l.rows.facts ≡ l.fn.rows.facts) × ((y : List ℕ) → contains_key l.rows.state y ≡ contains_key l.fn.rows.state y)
    × IsHalfway (g.V.Verifier.accepts l.keys) (drop l.x-index l.order) l.work.deletes l.work.concerned l.rows
    × CanBeJudged (drop l.x-index l.order) l.rows
    × AddsFor l.fn.rows.facts.ordered (g.V.Verifier.accepts l.keys) (take l.x-index l.order) l.fn.work.deletes l.work.deletes l.fn.work.concerned l.work.concerned
    × (l.steps ≤ l.fn.steps + sum_by (look_steps l.fn.rows.facts.ordered (g.V.Verifier.accepts l.keys)) (take l.x-index l.order))
