use Rattle.std.proofs.Common.{◌≡◌, ◌++◌, IfOk, subst, codes}
use Rattle.answer_text.specs.Search.{search_text}
use Rattle.fact_lines.proofs.search.query_line.Goals as goal

pub returns : goal.returns
returns g c =
    subst (λ refs. IfOk c.line.result (λ line. line ≡ search_text refs ++ codes "\n")) c.in_ok-refs.ensures
    c.line.ensures
