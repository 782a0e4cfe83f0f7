use Rattle.std.proofs.Common.{List, ℕ, ◌++◌, length, ap, subst, arith}
use Rattle.std.proofs.lemmas.Result.{IfOk-weaker}
use Rattle.delete_claims.specs.Flipping.{IsFront}
use Rattle.delete_claims.specs.Entered.{entered_targets}
use Rattle.delete_claims.proofs.Ticks.{entered_is}
use Rattle.delete_claims.proofs.OneRow.{entered_at_once, flips_on, entered_after}
use Rattle.delete_claims.proofs.entering.enter.Goals as goal

pub returns-then-has_deleters-clause-entered : goal.returns-then-has_deleters-clause-entered
returns-then-has_deleters-clause-entered g c =
    entered_at_once c.args.rows.now.facts.ordered c.args.rows.now.deletes c.args.rows.now.state c.requires.counted
    c.args.d.now c.requires.fresh _ _ c.in-Some.ensures.value c.put.new.self c.in_ok-put.ensures.ok
    c.empty.result c.empty.ensures c.if-has_deleters.ensures.some

pub flip_from-requires : goal.flip_from-requires
flip_from-requires g c =
    flips_on c.args.rows.now.facts.ordered c.args.rows.now.deletes c.args.rows.now.state c.requires.counted c.args.d.now
    c.requires.fresh _ _ c.in-Some.ensures.value c.put.new.self c.in_ok-put.ensures.ok
    c.if-has_deleters.ensures.some

pub returns-clause-entered : goal.returns-clause-entered
returns-clause-entered g c =
    IfOk-weaker c.flip_from.result _ _ (λ changed flipped. entered_after c.args.rows.now.facts.ordered
    c.args.rows.now.deletes c.args.rows.now.state c.requires.counted c.args.d.now c.requires.fresh _ _ c.in-Some.ensures.value
    c.put.new.self c.in_ok-put.ensures.ok _ changed flipped) c.flip_from.ensures.flipped

pub returns-clause-front : goal.returns-clause-front
returns-clause-front g c =
    IfOk-weaker c.flip_from.result _ _ (λ changed front. subst (IsFront changed) (entered_is c.args.d.now _ _ c.args.rows.now.facts.ordered c.args.rows.now.deletes c.put.new.self c.in-Some.ensures.value c.in_ok-put.ensures.ok) front)
    c.flip_from.ensures.front

pub returns-clause-ticks : goal.returns-clause-ticks
returns-clause-ticks g c =
    let same = entered_is c.args.d.now _ _ c.args.rows.now.facts.ordered c.args.rows.now.deletes c.put.new.self c.in-Some.ensures.value c.in_ok-put.ensures.ok in
    let long = ap (λ (ts : List (List ℕ)). length ts) same in
    omega (arith, c.delete_in.ensures.ticks, c.put.ensures.ticks, c.has_deleters.ensures.ticks, c.flip_from.ensures.ticks, long)

pub returns-then-has_deleters-clause-front : goal.returns-then-has_deleters-clause-front
returns-then-has_deleters-clause-front g c =
    let all = entered_targets c.args.rows.now.facts.ordered c.args.rows.now.deletes c.args.d.now in
    (all, ap (λ (xs : List (List ℕ)). xs ++ all) c.empty.ensures)
