use Rattle.std.proofs.Common.{◌≡◌, IfOk, subst, List, ℕ}
use Rattle.search_eval.specs.Answer.{answer}
use Rattle.fact_search.proofs.answering.last_answer_over.Goals as goal

pub returns : goal.returns
returns g c =
    subst (λ (refs : List (List ℕ)). IfOk c.answer_of-refs.result (λ found. found ≡ refs))
    (λ i. answer (c.in_ok-index.ensures.facts i) (g.V.Verifier.accepts (c.in_ok-index.ensures.keys i).now) c.args.query.now)
    c.answer_of-refs.ensures
