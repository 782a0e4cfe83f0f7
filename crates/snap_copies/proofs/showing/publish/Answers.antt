use Rattle.std.proofs.Common.{sym, subst, ◌∙◌}
use Rattle.snap_copies.specs.Shows.{Fits}
use Rattle.snap_copies.proofs.showing.publish.Goals as goal

pub publish_once-requires : goal.publish_once-requires
publish_once-requires g c =
    let inv = c.tries.invariant in
    let p = c.requires in (p.0, inv.3 ∙ p.1, subst (λ x. Fits x p.0) (sym inv.2) p.2)

pub returns-in-Ok-clause-published : goal.returns-in-Ok-clause-published
returns-in-Ok-clause-published g c = λ op is. c.in-Ok.ensures.published op (c.tries.invariant.3 ∙ is)
