use Rattle.std.proofs.Common.{ap, ◌∙◌}
use Rattle.std.specs.FinMap as finite
use Rattle.pack_store.proofs.Numbers.{one_given}
use Rattle.pack_store.proofs.places.Places.insert.Goals as goal

pub returns-clause-ok : goal.returns-clause-ok
returns-clause-ok c = one_given c.self.inside.numbers.entries c.insert.new.self.entries c.args.r.now c.args.number c.in_ok-insert.ensures.updates.0 ∙ ap (λ m. finite.insert m c.args.r.now c.args.number) c.self.view_is
