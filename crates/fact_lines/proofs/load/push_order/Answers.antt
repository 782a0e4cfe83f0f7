use Rattle.std.proofs.Common.{◌≡◌, ◌++◌, ℕ, List, OnOk, subst}
use Rattle.fact_lines.specs.Load.{order_line}
use Rattle.fact_lines.proofs.load.push_order.Goals as goal

pub returns : goal.returns
returns g c =
    subst (λ (t : List ℕ). OnOk c.push_order_line.result (c.push_order_line.new.text.items ≡ t))
    (λ i. c.args.text.now.items ++ order_line (c.order_name.ensures i) c.args.count (c.in_ok-index.ensures.facts i)
    (g.V.Verifier.accepts (c.in_ok-index.ensures.keys i).now))
    c.push_order_line.ensures
