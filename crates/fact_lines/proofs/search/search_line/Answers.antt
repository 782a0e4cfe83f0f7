use Rattle.std.proofs.Common.{◌≡◌, IfOk, subst}
use Rattle.std.specs.FinMap.{from_entries}
use Rattle.fact_lines.specs.Search.{query_line}
use Rattle.fact_lines.proofs.search.search_line.Goals as goal

pub returns : goal.returns
returns g c =
    subst (λ q. IfOk c.query_line.result
    (λ line. line ≡ query_line (from_entries c.args.facts) (g.V.Verifier.accepts c.args.keys.now) q))
    c.in_ok-query.ensures.asked c.query_line.ensures
