use Rattle.std.proofs.Common.{ap, sym, ◌∙◌, unwrap_or}
use Rattle.std.specs.FinMap as finite
use Rattle.index_rows.specs.Holders.{holder_total}
use Rattle.index_rows.proofs.RefMaps.{get_at}
use Rattle.index_rows.proofs.Orders.{holder_same}
use Rattle.attr_fold.proofs.value_turns.ValueTurns.at.Goals as goal

pub returns : goal.returns
returns c =
    c.unwrap_or.ensures
    ∙ ap (λ o. unwrap_or o (0, 0)) (c.copied.ensures ∙ c.get.ensures.value
    ∙ sym (get_at holder_total holder_same c.self.inside.turns.entries c.args.key.now)
    ∙ ap (λ m. finite.get m c.args.key.now) c.self.view_is)
