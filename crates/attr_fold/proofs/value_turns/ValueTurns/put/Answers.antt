use Rattle.std.proofs.Common.{ap, ◌∙◌}
use Rattle.std.specs.FinMap as finite
use Rattle.index_rows.specs.Holders.{holder_total}
use Rattle.index_rows.proofs.RefMaps.{one_given}
use Rattle.index_rows.proofs.Orders.{holder_same}
use Rattle.attr_fold.proofs.value_turns.ValueTurns.put.Goals as goal

pub returns : goal.returns
returns c =
    one_given holder_total holder_same c.self.inside.turns.entries c.insert.new.self.entries c.args.key
    (c.args.turn, c.args.times)
    c.in_ok-insert.ensures.updates.0
    ∙ ap (λ m. finite.insert m c.args.key (c.args.turn, c.args.times)) c.self.view_is
