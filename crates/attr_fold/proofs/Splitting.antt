-- One entry more in a map, and the entries that pass a test before it and behind it.
use Rattle.std.proofs.Common.{◌≡◌, Bool, true, false, cond, List, [], ◌∷◌, ◌++◌, filter, None, refl, sym, ap, ◌∙◌, Ordering}
use Rattle.std.proofs.lemmas.Bool.{and_parts, and_from, cond-true, cond-false}
use Rattle.std.specs.declared.cmp.Ordering.TheVariants.{Less, Equal, Greater}
use Rattle.std.specs.Ordering.{is_lt}
use Rattle.std.specs.Cmp.{IsTotalOrder}
use Rattle.std.specs.FinMap.Entries.{by_order, below_all, is_sorted, find, put}
use Rattle.attr_fold.proofs.LastChange.{below_less, is_less, new_here, new_there}

-- what passes `f` passes `b` before k, and `a` behind it
module _ {K X : Type 0} {R : K → K → Ordering} (o : IsTotalOrder R) (f b a : K → Bool) (k : K) (v : X)
    (before : (x : K) → R k x ≡ Greater → b x ≡ f x) (not_before : (x : K) → R k x ≡ Less → b x ≡ false)
    (behind : (x : K) → R k x ≡ Less → a x ≡ f x) (not_behind : (x : K) → R k x ≡ Greater → a x ≡ false)
    (own : f k ≡ true) (own_b : b k ≡ false) (own_a : a k ≡ false) where
  abbrev of : (K → Bool) → List (K × X) → List (K × X)
  of q es = filter (λ e. q e.0) es

  keep : (q : K → Bool) (e : K × X) (xs : List (K × X)) → q e.0 ≡ true → cond (q e.0) (e ∷ xs) xs ≡ e ∷ xs
  keep q e xs h = cond-true (q e.0) (e ∷ xs) xs h

  leave : (q : K → Bool) (e : K × X) (xs : List (K × X)) → q e.0 ≡ false → cond (q e.0) (e ∷ xs) xs ≡ xs
  leave q e xs h = cond-false (q e.0) (e ∷ xs) xs h

  -- all behind k
  none_before : (es : List (K × X)) → below_all R k es ≡ true → of b es ≡ []
  none_before [] low = refl
  none_before (e ∷ es) low =
      let parts = and_parts (is_lt (R k e.0)) (below_all R k es) low in
      leave b e (of b es) (not_before e.0 (is_less (R k e.0) parts.0)) ∙ none_before es parts.1

  all_behind : (es : List (K × X)) → below_all R k es ≡ true → of a es ≡ of f es
  all_behind [] low = refl
  all_behind (e ∷ es) low =
      let parts = and_parts (is_lt (R k e.0)) (below_all R k es) low in
      ap (λ c. cond c (e ∷ of a es) (of a es)) (behind e.0 (is_less (R k e.0) parts.0))
      ∙ ap (λ xs. cond (f e.0) (e ∷ xs) xs) (all_behind es parts.1)

  joined : (c : Bool) (e : K × X) (xs ys zs : List (K × X)) → xs ≡ ys ++ zs → cond c (e ∷ xs) xs ≡ cond c (e ∷ ys) ys ++ zs
  joined true e xs ys zs h = ap (λ ws. e ∷ ws) h
  joined false e xs ys zs h = h

  -- with the new entry, and without it
  pub parts_with : (es : List (K × X)) → is_sorted R es ≡ true → find R k es ≡ None
      → of f (put R k v es) ≡ of b (put R k v es) ++ (k, v) ∷ of a (put R k v es)
  parts_with [] sorted new =
      keep f (k, v) [] own ∙ sym (λ i. leave b (k, v) [] own_b i ++ (k, v) ∷ leave a (k, v) [] own_a i)
  parts_with (e ∷ es) sorted new = by (R k e.0) refl (parts_with es parts.1)
    where
      parts : (below_all R e.0 es ≡ true) × (is_sorted R es ≡ true)
      parts = and_parts (below_all R e.0 es) (is_sorted R es) sorted

      by : (r : Ordering) → R k e.0 ≡ r
          → (find R k es ≡ None → of f (put R k v es) ≡ of b (put R k v es) ++ (k, v) ∷ of a (put R k v es))
          → of f (by_order r ((k, v) ∷ e ∷ es) ((e.0, v) ∷ es) (e ∷ put R k v es))
          ≡ of b (by_order r ((k, v) ∷ e ∷ es) ((e.0, v) ∷ es) (e ∷ put R k v es))
          ++ (k, v) ∷ of a (by_order r ((k, v) ∷ e ∷ es) ((e.0, v) ∷ es) (e ∷ put R k v es))
      by Less is more =
          let low : below_all R k (e ∷ es) ≡ true = and_from (is_lt (R k e.0)) (below_all R k es) (ap is_lt is)
          (below_less o f k v (λ x. true) (λ x t u. refl) e.0 es is parts.0) in
          keep f (k, v) (of f (e ∷ es)) own
          ∙ sym (λ i. (leave b (k, v) (of b (e ∷ es)) own_b ∙ none_before (e ∷ es) low) i
          ++ (k, v) ∷ (leave a (k, v) (of a (e ∷ es)) own_a ∙ all_behind (e ∷ es) low) i)
      by Equal is more = absurd (new_here o f k v e es new is)
      by Greater is more =
          joined (f e.0) e (of f (put R k v es)) (of b (put R k v es)) ((k, v) ∷ of a (put R k v es)) (more (new_there o f k v e es new is))
          ∙ (λ i. cond (sym (before e.0 is) i) (e ∷ of b (put R k v es)) (of b (put R k v es))
          ++ (k, v) ∷ sym (leave a e (of a (put R k v es)) (not_behind e.0 is)) i)

  pub parts_without : (es : List (K × X)) → is_sorted R es ≡ true → find R k es ≡ None
      → of f es ≡ of b (put R k v es) ++ of a (put R k v es)
  parts_without [] sorted new = sym (λ i. leave b (k, v) [] own_b i ++ leave a (k, v) [] own_a i)
  parts_without (e ∷ es) sorted new = by (R k e.0) refl (parts_without es parts.1)
    where
      parts : (below_all R e.0 es ≡ true) × (is_sorted R es ≡ true)
      parts = and_parts (below_all R e.0 es) (is_sorted R es) sorted

      by : (r : Ordering) → R k e.0 ≡ r
          → (find R k es ≡ None → of f es ≡ of b (put R k v es) ++ of a (put R k v es))
          → of f (e ∷ es) ≡ of b (by_order r ((k, v) ∷ e ∷ es) ((e.0, v) ∷ es) (e ∷ put R k v es))
          ++ of a (by_order r ((k, v) ∷ e ∷ es) ((e.0, v) ∷ es) (e ∷ put R k v es))
      by Less is more =
          let low : below_all R k (e ∷ es) ≡ true = and_from (is_lt (R k e.0)) (below_all R k es) (ap is_lt is)
          (below_less o f k v (λ x. true) (λ x t u. refl) e.0 es is parts.0) in
          sym (λ i. (leave b (k, v) (of b (e ∷ es)) own_b ∙ none_before (e ∷ es) low) i
          ++ (leave a (k, v) (of a (e ∷ es)) own_a ∙ all_behind (e ∷ es) low) i)
      by Equal is more = absurd (new_here o f k v e es new is)
      by Greater is more =
          joined (f e.0) e (of f es) (of b (put R k v es)) (of a (put R k v es)) (more (new_there o f k v e es new is))
          ∙ (λ i. cond (sym (before e.0 is) i) (e ∷ of b (put R k v es)) (of b (put R k v es))
          ++ sym (leave a e (of a (put R k v es)) (not_behind e.0 is)) i)
