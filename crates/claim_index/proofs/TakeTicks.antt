-- What became ready as a ref arrived, in terms of the facts.
use Rattle.std.proofs.Common.{◌≡◌, ◌≤◌, ◌+◌, ℕ, true, ◌||◌, cond, List, [], ◌∷◌, length, get_or, None, false, refl, sym, ap, subst, ◌∙◌, arith}
use Rattle.std.proofs.lemmas.Slice.Eq.{bytes_eq-Decides}
use Rattle.std.proofs.lemmas.List.Sums.{sum_by-cons}
use Rattle.std.specs.List.{list_any, sum_by}
use Rattle.std.specs.Str.{bytes_eq}
use Rattle.std.specs.FinMap.{get, contains_key, same_map, get-retain_keys}
use Rattle.claim_verify.specs.Verifier.{Accepts}
use Rattle.claim_model.specs.Facts.{Facts}
use Rattle.claim_model.specs.Ready.{is_ready}
use Rattle.claim_model.specs.Least.{IsWithin}
use Rattle.index_rows.specs.States.{States}
use Rattle.index_rows.specs.Touched.{became}
use Rattle.index_rows.specs.Waiting.{Waiters, arrived}
use Rattle.index_rows.proofs.Arrived.{get-arrived}
use Rattle.index_rows.proofs.Orders.{ref_total, ref_same}
use Rattle.index_rows.proofs.Sums.{once_of, sum_within}
use Rattle.pending_deps.specs.Arriving.{HasArrived, arrived_with, arrival_steps}
use Rattle.pending_deps.proofs.Freed.{are_among}
use Rattle.index_meaning.proofs.Arriving.{arrived_grows}
use Rattle.claim_index.specs.Costs.{look_steps, freed, taking_steps, AddsFor}
use Rattle.claim_index.proofs.AddTicks.{fits_in}
use Rattle.claim_index.proofs.LoopTicks.{right}

module _ (facts : Facts) (before after : States) (waiters : Waiters) (r : List ℕ) (order : List (List ℕ)) (is : HasArrived facts before after waiters r order) where
  with : arrived facts after ≡ arrived_with facts before r
  with = same_map ref_total ref_same _ _
      (λ y. get-arrived facts after y ∙ ap (λ b. cond b (get facts y) None) (is.same y)
      ∙ sym (get-retain_keys facts (λ x. bytes_eq x r || contains_key before x) y (λ x t. ap (λ z. bytes_eq z r || contains_key before z) (sym (ref_same y x t)))))

  within : IsWithin (arrived facts before) (arrived facts after)
  within = arrived_grows facts before after (λ y t. is.same y ∙ right (bytes_eq y r) t)

  pub among : (y : List ℕ) → list_any (bytes_eq y) order ≡ true → list_any (bytes_eq y) (freed facts before r) ≡ true
  among y t = subst (λ (f : Facts). list_any (bytes_eq y) (became (is_ready (arrived facts before)) f) ≡ true) with
      (are_among (arrived facts before) (arrived facts after) within order is.became.reached is.once y t)

  pub freed_sum : (f : List ℕ → ℕ) → sum_by f order ≤ sum_by f (freed facts before r)
  freed_sum f = sum_within f order (freed facts before r) (once_of (is_ready (arrived facts before)) [] order is.once) among

  pub freed_adds : (accepts : Accepts) (given now : Facts) (slice ds ds' cs cs' : List (List ℕ)) → slice ≡ order → now ≡ given → AddsFor now accepts slice ds ds' cs cs'
      → AddsFor given accepts (freed facts before r) ds ds' cs cs'
  freed_adds accepts given now slice ds ds' cs cs' same facts_same adds =
      fits_in given accepts order (freed facts before r) ds ds' cs cs' among
      (subst (λ (f : Facts). AddsFor f accepts order ds ds' cs cs') facts_same (subst (λ (xs : List (List ℕ)). AddsFor now accepts xs ds ds' cs cs') same adds))

  pub taking_sum : (accepts : Accepts) (now : Facts) (slice : List (List ℕ)) → slice ≡ order → now ≡ facts → (first mid last : ℕ)
      → mid ≤ first + arrival_steps facts before r → last ≤ mid + sum_by (look_steps now accepts) slice → last ≤ first + taking_steps facts accepts before r
  taking_sum accepts now slice same facts_same first mid last a b =
      let s = freed_sum (look_steps facts accepts) in
      let e : sum_by (look_steps now accepts) slice ≡ sum_by (look_steps facts accepts) order = λ i. sum_by (look_steps (facts_same i) accepts) (same i) in
      omega (arith, a, b, s, e)

  -- where one ref alone becomes ready
  pub alone_among : (x : List ℕ) → x ∷ [] ≡ order → list_any (bytes_eq x) (freed facts before r) ≡ true
  alone_among x same = among x (ap (list_any (bytes_eq x)) (sym same) ∙ ap (λ b. b || false) ((bytes_eq-Decides x x).1 refl))

  pub alone_sum : (accepts : Accepts) (now : Facts) (x : List ℕ) → x ∷ [] ≡ order → now ≡ facts → (first mid last more : ℕ)
      → mid ≤ first + arrival_steps facts before r → last ≤ mid + look_steps now accepts x + more → last ≤ first + taking_steps facts accepts before r + more
  alone_sum accepts now x same facts_same first mid last more a b =
      let s = freed_sum (look_steps facts accepts) in
      let e : sum_by (look_steps now accepts) (x ∷ []) ≡ sum_by (look_steps facts accepts) order = λ i. sum_by (look_steps (facts_same i) accepts) (same i) in
      let one = sum_by-cons (look_steps now accepts) x [] in
      omega (arith, a, b, s, e, one)

-- a list of one ref
pub one_of : (xs : List (List ℕ)) (x : List ℕ) → length xs ≡ 1 → x ≡ get_or xs 0 x → xs ≡ x ∷ []
one_of [] x n is = absurd (omega (arith, n))
one_of (y ∷ []) x n is = ap (λ z. z ∷ []) (sym is)
one_of (y ∷ z ∷ zs) x n is = absurd (omega (arith, n))
