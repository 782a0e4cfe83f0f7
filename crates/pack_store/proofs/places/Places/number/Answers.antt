use Rattle.std.proofs.Common.{ap, sym, ◌∙◌}
use Rattle.std.specs.FinMap as finite
use Rattle.pack_store.proofs.Numbers.{get_ref}
use Rattle.pack_store.proofs.places.Places.number.Goals as goal

pub returns : goal.returns
returns c = c.copied.ensures ∙ c.get.ensures.value ∙ sym (get_ref c.self.inside.numbers.entries c.args.r.now) ∙ ap (λ m. finite.get m c.args.r.now) c.self.view_is
