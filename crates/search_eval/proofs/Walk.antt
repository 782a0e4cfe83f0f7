-- A walk from each genuine permanode to the next finds all that a query asks for.
use Rattle.std.proofs.Common.{◌≡◌, ◌≢◌, ℕ, zero, suc, take, ◌≤◌, Bool, true, false, ◌&&◌, not, cond, List, [], ◌∷◌, ◌++◌, length, filter, Option, Some, None, refl, sym, ap, ◌∙◌, subst, arith, append_assoc, append-nil, Ordering}
use Rattle.std.proofs.Math.Bool.{and_comm}
use Rattle.std.proofs.lemmas.Bool.{eq-eqb, eqb-true, false≢true}
use Rattle.std.proofs.lemmas.List.{length-append, length-take, take_all, take_at}
use Rattle.std.specs.declared.cmp.Ordering.TheVariants.{Less}
use Rattle.std.specs.declared.result.Result.{Result}
use Rattle.std.specs.declared.result.Result.TheVariants.{Ok, Err}
use Rattle.std.specs.Result.{OnOk}
use Rattle.std.specs.List.{find, AllByRecursion}
use Rattle.std.specs.List.Sorted.{IsStrictlySortedBy}
use Rattle.blobref.specs.Blobref.{ref_cmp, is_after}
use Rattle.claim_verify.specs.Verifier.{Accepts}
use Rattle.claim_model.specs.Facts.{Facts}
use Rattle.claim_model.specs.Genuine.{permanodes}
use Rattle.claim_model.specs.Deleted.{is_deleted, live_permanodes}
use Rattle.index_look.specs.Look.{permanode_after}
use Rattle.search_query.specs.declared.query.Query.{Query}
use Rattle.search_meets.specs.Meaning.{meets}
use Rattle.search_meets.proofs.Walk.{Ascends, all_after, filter_ascends, filter_joined, last, permanodes_ascend, step}
use Rattle.search_query.specs.View.{view}
use Rattle.search_eval.specs.Walk.{has_enough, up_to}
use Rattle.search_eval.specs.Walk.{is_found}
use Rattle.search_eval.specs.Answer.{found}

-- ---- what the walk keeps is what the query asks for

pub filter_twice : (p q : List ℕ → Bool) (xs : List (List ℕ)) → filter q (filter p xs) ≡ filter (λ x. p x && q x) xs
filter_twice p q [] = refl
filter_twice p q (x ∷ xs) = by (p x) (q x) (filter_twice p q xs)
  where
    by : (a b : Bool) → filter q (filter p xs) ≡ filter (λ y. p y && q y) xs
        → filter q (cond a (x ∷ filter p xs) (filter p xs)) ≡ cond (a && q x) (x ∷ filter (λ y. p y && q y) xs) (filter (λ y. p y && q y) xs)
    by true b h = ap (λ zs. cond (q x) (x ∷ zs) zs) h
    by false b h = h

pub found_kept : (facts : Facts) (accepts : Accepts) (query : Query) → filter (is_found facts accepts query) (permanodes facts accepts) ≡ found facts accepts query
found_kept facts accepts query =
    (λ i. filter (λ r. and_comm (meets facts accepts (view query.constraint) query.at r) (not (is_deleted facts accepts query.at r)) i) (permanodes facts accepts))
    ∙ sym (filter_twice (λ r. not (is_deleted facts accepts query.at r)) (meets facts accepts (view query.constraint) query.at) (permanodes facts accepts))

-- ---- the first of some refs

take_more_of : (n : ℕ) (xs ys : List (List ℕ)) → take n (take n xs ++ ys) ≡ take n (xs ++ ys)
take_more_of zero xs ys = refl
take_more_of (suc n) [] ys = refl
take_more_of (suc n) (x ∷ xs) ys = ap (λ zs. x ∷ zs) (take_more_of n xs ys)

take_within : (n : ℕ) (xs ys : List (List ℕ)) → length xs ≡ n → take n (xs ++ ys) ≡ xs
take_within n xs ys e = take_at xs ys n e

pub up_to_none : (stop : Option ℕ) → up_to stop [] ≡ []
up_to_none None = refl
up_to_none (Some zero) = refl
up_to_none (Some (suc n)) = refl

-- what is cut and then grows, and is cut again
pub up_to_more : (stop : Option ℕ) (xs ys : List (List ℕ)) → up_to stop (up_to stop xs ++ ys) ≡ up_to stop (xs ++ ys)
up_to_more None xs ys = refl
up_to_more (Some n) xs ys = take_more_of n xs ys

pub up_to_twice : (stop : Option ℕ) (xs : List (List ℕ)) → up_to stop (up_to stop xs) ≡ up_to stop xs
up_to_twice stop xs = ap (up_to stop) (sym (append-nil (up_to stop xs))) ∙ up_to_more stop xs [] ∙ ap (up_to stop) (append-nil xs)

-- where there are enough, nothing more is kept
pub up_to_enough : (stop : Option ℕ) (xs ys : List (List ℕ)) → has_enough stop xs ≡ true → up_to stop (xs ++ ys) ≡ xs
up_to_enough None xs ys h = absurd (false≢true h)
up_to_enough (Some n) xs ys h = take_within n xs ys (eqb-true (length xs) n h)

-- where there aren't yet, one more is kept
pub up_to_one : (stop : Option ℕ) (xs : List (List ℕ)) (x : List ℕ) → has_enough stop xs ≡ false → up_to stop xs ≡ xs → up_to stop (xs ++ x ∷ []) ≡ xs ++ x ∷ []
up_to_one None xs x h e = refl
up_to_one (Some n) xs x h e =
    let fits : length xs ≤ n = omega (arith, ap length e, length-take n xs) in
    let apart : length xs ≢ n = λ same. absurd (false≢true (sym h ∙ eq-eqb (length xs) n same)) in
    take_all n (xs ++ x ∷ []) (omega (arith, length-append xs (x ∷ [])))

module _ {X : Type 0} (R : X → X → Ordering) where
  above_taken : (x : X) (n : ℕ) (xs : List X) → AllByRecursion (λ y. R x y ≡ Less) xs → AllByRecursion (λ y. R x y ≡ Less) (take n xs)
  above_taken x zero xs h = tt
  above_taken x (suc n) [] h = tt
  above_taken x (suc n) (y ∷ ys) h = (h.0, above_taken x n ys h.1)

  -- the first of an ascending list ascend
  pub ascends_taken : (n : ℕ) (xs : List X) → IsStrictlySortedBy R xs → IsStrictlySortedBy R (take n xs)
  unfolding IsStrictlySortedBy
  ascends_taken zero xs h = tt
  ascends_taken (suc n) [] h = tt
  ascends_taken (suc n) (x ∷ xs) h = (above_taken x n xs h.0, ascends_taken n xs h.1)

pub up_to_ascends : (stop : Option ℕ) (xs : List (List ℕ)) → Ascends xs → Ascends (up_to stop xs)
up_to_ascends None xs h = h
up_to_ascends (Some n) xs h = ascends_taken ref_cmp n xs h

pub found_ascends : (facts : Facts) (accepts : Accepts) (query : Query) → Ascends (found facts accepts query)
found_ascends facts accepts query =
    filter_ascends (meets facts accepts (view query.constraint) query.at) (live_permanodes facts accepts query.at)
    (filter_ascends (λ r. not (is_deleted facts accepts query.at r)) (permanodes facts accepts) (permanodes_ascend facts accepts))

-- those that meet the constraint and aren't deleted are found
pub live_kept : (facts : Facts) (accepts : Accepts) (query : Query) (stop : Option ℕ) (found asked met now : List (List ℕ))
    → met ≡ filter (meets facts accepts (view query.constraint) query.at) asked
    → now ≡ up_to stop (found ++ filter (λ r. not (is_deleted facts accepts query.at r)) met)
    → now ≡ up_to stop (found ++ filter (is_found facts accepts query) asked)
live_kept facts accepts query stop found asked met now e is =
    is ∙ ap (λ zs. up_to stop (found ++ zs)) (ap (filter (λ r. not (is_deleted facts accepts query.at r))) e
    ∙ filter_twice (meets facts accepts (view query.constraint) query.at) (λ r. not (is_deleted facts accepts query.at r)) asked)

pub both_ok : {T E P Q R : Type 0} (r : Result T E) → OnOk r P → OnOk r Q → (P → Q → R) → OnOk r R
both_ok (Ok x) p q f = f p q
both_ok (Err e) p q f = tt

-- ---- the loop

module _ (t : List ℕ → Bool) (stop : Option ℕ) where
  -- what was found, and what is found among those to be asked and those still to come
  abbrev pub whole : List (List ℕ) → List (List ℕ) → List (List ℕ) → List (List ℕ)
  whole found asked rest = up_to stop (found ++ filter t (asked ++ rest))

  -- one more is to be asked
  pub taken_in : (found asked : List (List ℕ)) (p : List ℕ) (rest : List (List ℕ)) → whole found (asked ++ p ∷ []) rest ≡ whole found asked (p ∷ rest)
  taken_in found asked p rest = ap (λ zs. up_to stop (found ++ filter t zs)) (append_assoc asked (p ∷ []) rest)

  -- all of them were asked
  pub were_asked : (found asked now none rest : List (List ℕ)) → now ≡ up_to stop (found ++ filter t asked) → none ≡ [] → whole now none rest ≡ whole found asked rest
  were_asked found asked now none rest is nothing =
      (λ i. up_to stop (is i ++ filter t (nothing i ++ rest))) ∙ up_to_more stop (found ++ filter t asked) (filter t rest)
      ∙ ap (up_to stop) (append_assoc found (filter t asked) (filter t rest) ∙ ap (λ zs. found ++ zs) (sym (filter_joined t asked rest)))

  module _ (xs : List (List ℕ)) where
    pub begins : (found asked : List (List ℕ)) → found ≡ [] → asked ≡ [] → whole found asked (filter (is_after None) xs) ≡ up_to stop (filter t xs)
    begins found asked e d = (λ i. up_to stop (e i ++ filter t (d i ++ all_after xs i)))

    pub goes_on : (o : Option (List ℕ)) (p : List ℕ) (found asked found' asked' all : List (List ℕ)) → Ascends xs → Some p ≡ find (is_after o) xs
        → ((rest : List (List ℕ)) → whole found' asked' rest ≡ whole found asked (p ∷ rest))
        → whole found asked (filter (is_after o) xs) ≡ all → whole found' asked' (filter (is_after (Some p)) xs) ≡ all
    goes_on o p found asked found' asked' all up e is so_far =
        is (filter (is_after (Some p)) xs) ∙ ap (whole found asked) (sym (step o p xs up (sym e))) ∙ so_far

    pub ends : (o : Option (List ℕ)) (found asked all : List (List ℕ)) → None ≡ find (is_after o) xs → whole found asked (filter (is_after o) xs) ≡ all → up_to stop (found ++ filter t asked) ≡ all
    ends o found asked all e so_far =
        ap (λ zs. up_to stop (found ++ filter t zs)) (sym (append-nil asked)) ∙ ap (whole found asked) (sym (last o xs (sym e))) ∙ so_far

-- ---- what the walk answers

module _ (facts : Facts) (accepts : Accepts) (query : Query) (stop : Option ℕ) where
  abbrev so_far : Option (List ℕ) → List (List ℕ) → List (List ℕ) → Type 0
  so_far o kept asked =
      whole (is_found facts accepts query) stop kept asked (filter (is_after o) (permanodes facts accepts)) ≡ up_to stop (filter (is_found facts accepts query) (permanodes facts accepts))

  pub when_full : (o : Option (List ℕ)) (p : List ℕ) (kept asked kept' asked' : List (List ℕ)) → Some p ≡ permanode_after facts accepts o
      → ((rest : List (List ℕ)) → whole (is_found facts accepts query) stop kept' asked' rest ≡ whole (is_found facts accepts query) stop kept asked (p ∷ rest))
      → so_far o kept asked → has_enough stop kept' ≡ true → kept' ≡ up_to stop (found facts accepts query)
  when_full o p kept asked kept' asked' e is before enough =
      let t = is_found facts accepts query in
      let rest = filter t (asked' ++ filter (is_after (Some p)) (permanodes facts accepts)) in
      sym (up_to_enough stop kept' rest enough)
      ∙ goes_on t stop (permanodes facts accepts) o p kept asked kept' asked' (up_to stop (filter t (permanodes facts accepts))) (permanodes_ascend facts accepts) e is before
      ∙ ap (up_to stop) (found_kept facts accepts query)

  pub at_end : (o : Option (List ℕ)) (kept asked now : List (List ℕ)) → None ≡ permanode_after facts accepts o
      → now ≡ up_to stop (kept ++ filter (is_found facts accepts query) asked) → so_far o kept asked → now ≡ up_to stop (found facts accepts query)
  at_end o kept asked now e is before =
      let t = is_found facts accepts query in
      is ∙ ends t stop (permanodes facts accepts) o kept asked (up_to stop (filter t (permanodes facts accepts))) e before ∙ ap (up_to stop) (found_kept facts accepts query)

pub ascends_as : (stop : Option ℕ) (xs : List (List ℕ)) (facts : Facts) (accepts : Accepts) (query : Query) → xs ≡ up_to stop (found facts accepts query) → Ascends xs
ascends_as stop xs facts accepts query is = subst Ascends (sym is) (up_to_ascends stop (found facts accepts query) (found_ascends facts accepts query))
