use Rattle.std.proofs.Common.{◌≡◌, ◌++◌, IfOk, codes, subst}
use Rattle.claim_model.specs.Facts.{Facts}
use Rattle.fact_lines.specs.Load.{load_text, order_line}
use Rattle.fact_lines.proofs.load.load_text.Goals as goal

pub returns : goal.returns
unfolding load_text
returns g c =
    let accepts = g.V.Verifier.accepts c.args.keys.now in
    subst (λ (facts : Facts). IfOk c.order_lines.result (λ text. text
    ≡ order_line (codes "forward") c.args.count facts accepts ++ order_line (codes "backward") c.args.count facts
    accepts))
    c.in_ok-facts.ensures.facts c.order_lines.ensures
