use Rattle.std.proofs.Common.{subst}
use mathlib.Core.List.{IsPrefix}
use Rattle.home_core.specs.State.{CoreOf}
use Rattle.home_core.specs.Steps.{core_step}
use Rattle.home_core.proofs.Soundness.{sound_step, ends_sound}
use Rattle.home_core.proofs.Promised.{grows_step, ends_longer}
use Rattle.home_core.proofs.stepping.Core.step.Goals as goal

pub invariant_of-self : goal.invariant_of-self
invariant_of-self g c =
    let old = c.self.inside.lists in
    ends_sound c.happens.result old c.happens.new.lists (core_step old c.args.event.now)
    c.happens.ensures.state c.happens.ensures.refused c.self.invariant (sound_step old c.args.event.now c.self.invariant)

pub returns-clause-sound : goal.returns-clause-sound
returns-clause-sound g c =
    let old = c.self.inside.lists in
    ends_sound c.happens.result old c.happens.new.lists (core_step old c.args.event.now)
    c.happens.ensures.state c.happens.ensures.refused c.self.invariant (sound_step old c.args.event.now c.self.invariant)

pub returns-clause-grows : goal.returns-clause-grows
returns-clause-grows g c = λ on.
    let old = c.self.inside.lists in
    subst (λ (v : CoreOf g.row.V.Denot). IsPrefix v.state.indexed c.happens.new.lists.indexed) c.self.view_is
    (ends_longer c.happens.result old c.happens.new.lists (core_step old c.args.event.now)
    c.happens.ensures.state c.happens.ensures.refused (grows_step old c.args.event.now on))
