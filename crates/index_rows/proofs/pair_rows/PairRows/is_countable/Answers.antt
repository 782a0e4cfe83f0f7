use Rattle.std.proofs.Common.{ap, sym, ◌∙◌, true, arith}
use Rattle.std.specs.FinMap as finite
use Rattle.index_rows.specs.Pairs.{number}
use Rattle.index_rows.proofs.Counting.{number_whole}
use Rattle.index_look.proofs.Order.{entries_in_order}
use Rattle.index_rows.proofs.Orders.{pair_total, pair_same}
use Rattle.index_rows.proofs.pair_rows.PairRows.is_countable.Goals as goal

pub returns : goal.returns
returns g c =
    let same = c.len-len.ensures.len ∙ sym (number_whole c.self.inside.rows.entries)
    ∙ ap (number (λ e. true)) (sym (entries_in_order pair_total pair_same c.self.inside.rows.entries c.len-len.ensures.ordered))
    ∙ ap (λ m. number (λ e. true) (finite.entries m)) c.self.view_is in
    omega (arith, same)
