use Rattle.search_eval.proofs.Beginning.{value_query_asks}
use Rattle.search_eval.proofs.laws.value_queries_ask.Goals as goal

pub returns : goal.returns
returns c = λ name value. value_query_asks name value
