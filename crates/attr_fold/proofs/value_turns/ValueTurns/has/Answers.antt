use Rattle.std.proofs.Common.{ap, sym, ◌∙◌, is_some}
use Rattle.std.specs.FinMap as finite
use Rattle.index_rows.specs.Holders.{holder_total}
use Rattle.index_rows.proofs.RefMaps.{get_at}
use Rattle.index_rows.proofs.Orders.{holder_same}
use Rattle.attr_fold.proofs.value_turns.ValueTurns.has.Goals as goal

pub returns : goal.returns
returns c =
    c.contains_key.ensures
    ∙ ap is_some (sym (get_at holder_total holder_same c.self.inside.turns.entries c.args.key.now))
    ∙ ap (λ m. finite.contains_key m c.args.key.now) c.self.view_is
