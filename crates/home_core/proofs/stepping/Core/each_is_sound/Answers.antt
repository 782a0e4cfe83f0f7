use Rattle.std.proofs.Common.{subst}
use Rattle.home_core.specs.State.{CoreOf, IsSound}
use Rattle.home_core.proofs.stepping.Core.each_is_sound.Goals as goal

pub returns : goal.returns
returns g c = subst (λ (v : CoreOf g.row.V.Denot). IsSound v.state) c.self.view_is c.self.invariant
