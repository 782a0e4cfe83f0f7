use Rattle.std.proofs.Common.{List, ℕ, true, sym, subst, arith}
use Rattle.delete_claims.specs.Flipping.{Flipping}
use Rattle.delete_claims.proofs.Chain.{can, no_flip, not_deletable, last, on, on_falls, stands, is_target}
use Rattle.delete_claims.proofs.Ticks.{first_ticks, next_ticks, last_ticks, front_here, front_more}
use Rattle.delete_claims.proofs.flipping.flip_from.Goals as goal

pub recount-requires : goal.recount-requires
recount-requires g c = can c.args.facts.now c.args.deletes.now c.args.state.now c.chain.state c.chain.changed
    c.chain.at c.chain.up c.chain.invariant.flipping c.is_countable.ensures

pub returns-then-not-branch-clause-flipped : goal.returns-then-not-branch-clause-flipped
returns-then-not-branch-clause-flipped g c =
    no_flip c.args.facts.now c.args.deletes.now c.args.state.now c.chain.state c.chain.changed c.chain.at
    c.chain.up c.chain.invariant.flipping
    c.recount.new.state _ c.in_ok-recount.ensures.recounted c.if-not-branch.true

pub returns-in_default-clause-flipped : goal.returns-in_default-clause-flipped
returns-in_default-clause-flipped g c =
    not_deletable c.args.facts.now c.args.deletes.now c.args.state.now c.chain.state c.chain.changed c.chain.at
    c.chain.up c.chain.invariant.flipping
    c.recount.new.state _ c.in_ok-recount.ensures.recounted c.in_default.ensures.kind

pub returns-in_default-row_target-clause-flipped : goal.returns-in_default-row_target-clause-flipped
returns-in_default-row_target-clause-flipped g c =
    last c.args.facts.now c.args.deletes.now c.args.state.now c.chain.state c.chain.changed c.chain.at c.chain.up
    c.chain.invariant.flipping
    c.recount.new.state _ c.in_ok-recount.ensures.recounted c.if-not-branch.false _ c.in-Some.ensures.kind c.push.new.self
    c.in_ok-push.ensures.ok c.in_default-row_target.ensures.target

pub chain-smaller : goal.chain-smaller
chain-smaller g c =
    on_falls c.args.facts.now c.args.deletes.now c.args.state.now c.chain.state c.chain.changed c.chain.at
    c.chain.up c.chain.invariant.flipping
    c.recount.new.state _ c.in_ok-recount.ensures.recounted c.if-not-branch.false _ c.in-Some.ensures.kind c.push.new.self
    c.in_ok-push.ensures.ok _ c.in-Some-row_target.ensures.target

pub chain-preserved : goal.chain-preserved
chain-preserved g c = record {
  flipping = on c.args.facts.now c.args.deletes.now c.args.state.now c.chain.state c.chain.changed c.chain.at c.chain.up
      c.chain.invariant.flipping
      c.recount.new.state _ c.in_ok-recount.ensures.recounted c.if-not-branch.false _ c.in-Some.ensures.kind c.push.new.self
      c.in_ok-push.ensures.ok _ c.in-Some-row_target.ensures.target;
  ticks = next_ticks c.args.facts.now _ c.args.start.now c.args.steps.now c.chain.changed c.chain.at c.chain.steps c.chain.invariant.ticks
      (stands c.args.facts.now c.args.deletes.now c.args.state.now c.chain.state c.chain.changed c.chain.at c.chain.up
      c.chain.invariant.flipping
      c.recount.new.state _ c.in_ok-recount.ensures.recounted c.if-not-branch.false _ c.in-Some.ensures.kind c.push.new.self
      c.in_ok-push.ensures.ok _ c.in-Some-row_target.ensures.target)
      _
      (is_target c.args.facts.now c.args.deletes.now c.args.state.now c.chain.state c.chain.changed c.chain.at c.chain.up
      c.chain.invariant.flipping
      c.recount.new.state _ c.in_ok-recount.ensures.recounted c.if-not-branch.false _ c.in-Some.ensures.kind c.push.new.self
      c.in_ok-push.ensures.ok _ c.in-Some-row_target.ensures.target)
      (on_falls c.args.facts.now c.args.deletes.now c.args.state.now c.chain.state c.chain.changed c.chain.at c.chain.up
      c.chain.invariant.flipping
      c.recount.new.state _ c.in_ok-recount.ensures.recounted c.if-not-branch.false _ c.in-Some.ensures.kind c.push.new.self
      c.in_ok-push.ensures.ok _ c.in-Some-row_target.ensures.target)
      _ (omega (arith, c.recount.ensures.ticks, c.deletable.ensures.ticks, c.row_target.ensures.ticks)) c.push.new.self c.in_ok-push.ensures.ok;
}

pub returns-in_err-recount-clause-ticks : goal.returns-in_err-recount-clause-ticks
returns-in_err-recount-clause-ticks g c =
    last_ticks c.args.facts.now _ c.args.start.now c.args.steps.now c.chain.changed c.chain.at c.chain.steps c.chain.invariant.ticks
    c.chain.invariant.flipping.ready _ (omega (arith, c.recount.ensures.ticks))

pub returns-then-not-branch-clause-ticks : goal.returns-then-not-branch-clause-ticks
returns-then-not-branch-clause-ticks g c =
    last_ticks c.args.facts.now _ c.args.start.now c.args.steps.now c.chain.changed c.chain.at c.chain.steps c.chain.invariant.ticks
    c.chain.invariant.flipping.ready _ (omega (arith, c.recount.ensures.ticks))

pub returns-in_default-clause-ticks : goal.returns-in_default-clause-ticks
returns-in_default-clause-ticks g c =
    last_ticks c.args.facts.now _ c.args.start.now c.args.steps.now c.chain.changed c.chain.at c.chain.steps c.chain.invariant.ticks
    c.chain.invariant.flipping.ready _ (omega (arith, c.recount.ensures.ticks, c.deletable.ensures.ticks))

pub returns-in_err-push-clause-ticks : goal.returns-in_err-push-clause-ticks
returns-in_err-push-clause-ticks g c =
    last_ticks c.args.facts.now _ c.args.start.now c.args.steps.now c.chain.changed c.chain.at c.chain.steps c.chain.invariant.ticks
    c.chain.invariant.flipping.ready _ (omega (arith, c.recount.ensures.ticks, c.deletable.ensures.ticks))

pub returns-in_default-row_target-clause-ticks : goal.returns-in_default-row_target-clause-ticks
returns-in_default-row_target-clause-ticks g c =
    last_ticks c.args.facts.now _ c.args.start.now c.args.steps.now c.chain.changed c.chain.at c.chain.steps c.chain.invariant.ticks
    c.chain.invariant.flipping.ready _ (omega (arith, c.recount.ensures.ticks, c.deletable.ensures.ticks, c.row_target.ensures.ticks))

pub returns-then-not-branch-clause-front : goal.returns-then-not-branch-clause-front
returns-then-not-branch-clause-front g c = front_here c.args.facts.now _ c.args.start.now c.args.steps.now c.chain.changed c.chain.at c.chain.steps c.chain.invariant.ticks

pub returns-in_default-clause-front : goal.returns-in_default-clause-front
returns-in_default-clause-front g c = front_here c.args.facts.now _ c.args.start.now c.args.steps.now c.chain.changed c.chain.at c.chain.steps c.chain.invariant.ticks

pub returns-in_default-row_target-clause-front : goal.returns-in_default-row_target-clause-front
returns-in_default-row_target-clause-front g c =
    front_more c.args.facts.now _ c.args.start.now c.args.steps.now c.chain.changed c.chain.at c.chain.steps c.chain.invariant.ticks
    c.chain.invariant.flipping.ready c.push.new.self c.in_ok-push.ensures.ok

pub chain-init : goal.chain-init
chain-init g c = record {
  flipping = subst (λ (changed : List (List ℕ)). Flipping c.args.facts.now c.args.deletes.now c.args.state.now c.args.state.now changed c.args.start.now true)
      (sym c.empty-changed.ensures) c.requires;
  ticks = first_ticks c.args.facts.now _ c.args.start.now c.args.steps.now c.empty-changed.result c.empty-changed.ensures;
}
