use Rattle.std.proofs.Common.{◌∙◌, string_bytes}
use Rattle.std.specs.FinMap as finite
use Rattle.attr_fold.proofs.Seen.{seen_put}
use Rattle.attr_fold.proofs.attribute_turns.AttributeTurns.put.Goals as goal

pub returns : goal.returns
returns c =
    seen_put c.self.inside.turns c.insert.new.self (string_bytes c.in_ok-key.key) c.args.turn c.in_ok-insert.ensures.updates
    ∙ (λ i. finite.insert (c.self.view_is i) (c.in_ok-key.ensures.ok i) c.args.turn)
