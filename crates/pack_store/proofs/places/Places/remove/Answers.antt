use Rattle.std.proofs.Common.{ap, ◌∙◌}
use Rattle.std.specs.FinMap as finite
use Rattle.pack_store.proofs.Numbers.{one_taken}
use Rattle.pack_store.proofs.places.Places.remove.Goals as goal

pub returns : goal.returns
returns c = one_taken c.self.inside.numbers.entries c.remove.new.self.entries c.args.r.now c.remove.ensures.updates.0 ∙ ap (λ m. finite.remove m c.args.r.now) c.self.view_is
