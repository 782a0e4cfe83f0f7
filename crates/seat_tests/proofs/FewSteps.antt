-- A search that finds nothing and goes by the rows.
use Rattle.std.proofs.Common.{◌≡◌, ◌+◌, ◌<◌, ◌≤◌, ℕ, zero, suc, List, [], ◌∷◌, length, take, codes, Some, refl, sym, ap, subst, ◌∙◌, arith}
use Rattle.claim_verify.specs.Verifier.{Accepts}
use Rattle.schema_date.specs.declared.date.When.TheVariants.{Always}
use Rattle.claim_model.specs.Facts.{Facts}
use Rattle.claim_model.specs.Claims.{holders, last_change}
use Rattle.search_query.specs.declared.query.Query.{Query}
use Rattle.search_query.specs.Queries.{value_query}
use Rattle.search_eval.specs.Answer.{answer, found, in_order}
use Rattle.search_eval.specs.Held.{AsksForValue}
use Rattle.search_eval.proofs.Beginning.{found_plain, value_held, value_plain, value_query_asks}
use Rattle.histories.specs.declared.events.Insertion.{Insertion}
use Rattle.histories.specs.Indexes.{indexed}
use Rattle.snap_copies.specs.Steps.{TakesFewSteps}

none_taken : (n : ℕ) (xs : List (List ℕ)) → 0 < n → length (take n xs) ≡ 0 → length xs ≡ 0
none_taken zero xs lt e = absurd (omega (arith, lt))
none_taken (suc n) [] lt e = refl
none_taken (suc n) (x ∷ xs) lt e = absurd (omega (arith, e))

module _ (facts : Facts) (accepts : Accepts) (query : Query) (name value : List ℕ) (asks : AsksForValue query name value) where
  -- an answer is those that hold the value, up to the limit
  are_holders : take query.limit (holders facts accepts name value) ≡ answer facts accepts query
  are_holders =
      let all = holders facts accepts name value in
      let held = value_held facts accepts query name value asks in
      found_plain facts accepts query (Some query.limit) all (take query.limit all) (sym held) (value_plain facts accepts query name value asks) refl
      ∙ sym (ap (λ sort. take query.limit (in_order sort (last_change facts accepts query.at) (found facts accepts query))) asks.sort)

  none_hold : 0 < query.limit → length (answer facts accepts query) ≡ 0 → length (holders facts accepts name value) ≡ 0
  none_hold limit none = none_taken query.limit (holders facts accepts name value) limit (ap length are_holders ∙ none)

pub few_steps : (query : Query) (shown : List Insertion) (accepts : Accepts) (old new : ℕ) (refs : List (List ℕ))
    → query ≡ value_query (codes "tag") (codes "zz") Always → refs ≡ answer (indexed shown) accepts query → length refs ≡ 0
    → TakesFewSteps query shown accepts old new → new ≤ old + 8
few_steps query shown accepts old new refs is answered empty few =
    let asks = subst (λ (q : Query). AsksForValue q (codes "tag") (codes "zz")) (sym is) (value_query_asks (codes "tag") (codes "zz")) in
    let limit : query.limit ≡ 1000000 = ap (λ (q : Query). q.limit) is in
    let n = none_hold (indexed shown) accepts query (codes "tag") (codes "zz") asks (omega (arith, limit)) (ap length (sym answered) ∙ empty) in
    let most = few (codes "tag") (codes "zz") asks in
    omega (arith, n, most)
