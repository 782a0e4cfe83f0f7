use Rattle.std.proofs.Common.{◌∙◌, sym, ap, unwrap_or}
use Rattle.std.specs.FinMap as finite
use Rattle.attr_fold.proofs.Seen.{seen_at}
use Rattle.attr_fold.proofs.attribute_turns.AttributeTurns.turn.Goals as goal

pub returns : goal.returns
returns c =
    c.unwrap_or.ensures
    ∙ ap (λ o. unwrap_or o 0) (c.copied.ensures ∙ c.get.ensures.value ∙ sym (seen_at c.self.inside.turns.entries c.args.attr.now)
    ∙ ap (λ m. finite.get m c.args.attr.now) c.self.view_is)
