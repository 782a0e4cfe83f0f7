use Rattle.std.proofs.Common.{◌≡◌, ℕ, List, [], Option, subst, ◌∙◌}
use Rattle.index_look.specs.Walk.{entries_after}
use Rattle.claim_index.specs.Halfway.{IsNext}
use Rattle.claim_index.proofs.Whole.{next_is_new, taken_to_next, all_taken}
use Rattle.claim_index.proofs.rebuilding.take_all.Goals as goal

pub take_in-requires-clause-fresh : goal.take_in-requires-clause-fresh
take_in-requires-clause-fresh g c = next_is_new c.walk.rows c.walk.last c.in-Some.r (subst (λ (o : Option (List ℕ)). IsNext c.walk.rows.facts.ordered o c.in-Some.r) c.as_ref.ensures.value c.in-Some.ensures.next) c.walk.invariant.1

pub walk-preserved : goal.walk-preserved
walk-preserved g c = (
  c.in_ok-take_in.ensures.facts ∙ c.walk.invariant.0,
  taken_to_next c.walk.rows c.walk.last c.in-Some.r (subst (λ (o : Option (List ℕ)). IsNext c.walk.rows.facts.ordered o c.in-Some.r) c.as_ref.ensures.value c.in-Some.ensures.next) c.walk.invariant.1 c.take_in.new.rows c.in_ok-take_in.ensures.facts c.in_ok-take_in.ensures.taken,
  c.in_ok-take_in.ensures.halfway,
)

pub returns-clause-all : goal.returns-clause-all
returns-clause-all g c = all_taken c.walk.rows c.walk.last (subst (λ (o : Option (List ℕ)). entries_after c.walk.rows.facts.ordered o ≡ []) c.as_ref.ensures.value c.in_default.ensures.last) c.walk.invariant.1
