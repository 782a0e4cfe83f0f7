-- Whoever is concerned is touched: it is new, or ends a chain, or is changed by a genuine claim that is new or ends one.
use Rattle.std.proofs.Common.{◌≡◌, ◌≤◌, ℕ, Bool, true, false, ◌||◌, List, [], ◌∷◌, ◌++◌, filter, map, flat_map, nat_lt, cond, ◌&&◌, refl, sym, ap, ◌∙◌, ◌⊎◌, inl, inr, is_some, Ordering, arith}
use Rattle.std.proofs.lemmas.Bool.{cases_Bool, false≢true, and_parts, lt-ltb}
use Rattle.std.proofs.lemmas.List.Sums.{sum_by-cons}
use Rattle.std.proofs.lemmas.Slice.Eq.{bytes_eq-Decides}
use Rattle.std.specs.declared.cmp.Ordering.TheVariants.{Less, Equal, Greater}
use Rattle.std.specs.Cmp.{eq_by_cmp_equiv}
use Rattle.std.specs.List.{list_any, sum_by}
use Rattle.std.specs.Str.{bytes_eq}
use Rattle.std.specs.Ordering.{is_eq, eq_by_cmp}
use Rattle.std.specs.FinMap.{get, keys, from_entries, contains_key, contains_key-keys}
use Rattle.blobref.specs.Blobref.{ref_cmp}
use Rattle.claim_verify.specs.Verifier.{Accepts}
use Rattle.claim_model.specs.Facts.{Facts, passes, is_permanode}
use Rattle.claim_model.specs.Genuine.{is_genuine}
use Rattle.claim_model.specs.Ready.{is_ready}
use Rattle.index_rows.specs.Changes.{keys_alone}
use Rattle.index_rows.specs.Touched.{becomes, became, changed_by, each_once, is_genuine_delete, new_refs, new_deletes, chain_end, chain_ends, changed_refs}
use Rattle.index_rows.proofs.Orders.{ref_total, ref_same}
use Rattle.index_rows.proofs.Sums.{sum_within}
use Rattle.index_rows.proofs.Puts.{put_at, put_beside}
use Rattle.claim_index.specs.Costs.{all_concerned, change_count, changed_where, ends_of, may_concern, put_steps, IsCovered}
use Rattle.claim_index.specs.Following.{AreFewOn}
use Rattle.claim_index.specs.Judging.{is_signed_at}
use Rattle.claim_index.proofs.Changed.{group_some, puts_sum, signed_genuine}
use Rattle.claim_index.proofs.LoopTicks.{or_cases, left, right, in_either, in_first, in_second}
use Rattle.claim_index.proofs.Members.{among_all}
use Rattle.claim_index.proofs.TouchedSum.{in_filter, out_filter, fresh_among, heads}

pub eq_is : (q k : List ℕ) → eq_by_cmp ref_cmp q k ≡ bytes_eq q k
eq_is q k = by (cases_Bool (bytes_eq q k))
  where
    by : (bytes_eq q k ≡ true) ⊎ (bytes_eq q k ≡ false) → eq_by_cmp ref_cmp q k ≡ bytes_eq q k
    by (inl t) = ap (eq_by_cmp ref_cmp q) (sym ((bytes_eq-Decides q k).0 t)) ∙ (eq_by_cmp_equiv ref_total).refl q ∙ sym t
    by (inr f) = go (ref_cmp q k) refl ∙ sym f
      where
        go : (o : Ordering) → ref_cmp q k ≡ o → is_eq (ref_cmp q k) ≡ false
        go Less e = ap is_eq e
        go Equal e = absurd (false≢true (sym f ∙ (bytes_eq-Decides q k).1 (ref_same q k e)))
        go Greater e = ap is_eq e

pub any_same : {A : Type 0} (p q : A → Bool) → ((x : A) → p x ≡ q x) → (xs : List A) → list_any p xs ≡ list_any q xs
any_same p q h [] = refl
any_same p q h (x ∷ xs) = λ i. h x i || any_same p q h xs i

-- what is in a list is in it once
in_map : (q : List ℕ) (xs : List (List ℕ)) → list_any (bytes_eq q) xs ≡ true → contains_key (from_entries {R = ref_cmp} (keys_alone xs)) q ≡ true
in_map q [] h = absurd (false≢true h)
in_map q (x ∷ xs) h = by (cases_Bool (bytes_eq q x)) (in_map q xs)
  where
    by : (bytes_eq q x ≡ true) ⊎ (bytes_eq q x ≡ false) → (list_any (bytes_eq q) xs ≡ true → contains_key (from_entries {R = ref_cmp} (keys_alone xs)) q ≡ true)
        → contains_key (from_entries {R = ref_cmp} (keys_alone (x ∷ xs))) q ≡ true
    by (inl t) more = ap is_some (put_at (from_entries {R = ref_cmp} (keys_alone xs)) x tt q t)
    by (inr f) more = ap is_some (put_beside (from_entries {R = ref_cmp} (keys_alone xs)) x tt q f) ∙ more (sym (ap (λ b. b || list_any (bytes_eq q) xs) f) ∙ h)

in_once : (q : List ℕ) (xs : List (List ℕ)) → list_any (bytes_eq q) xs ≡ true → list_any (bytes_eq q) (each_once xs) ≡ true
in_once q xs h = sym (any_same (eq_by_cmp ref_cmp q) (bytes_eq q) (eq_is q) (each_once xs)) ∙ sym (contains_key-keys (from_entries {R = ref_cmp} (keys_alone xs)) q) ∙ in_map q xs h

in_mapped : (f : List ℕ → List ℕ) (p : List ℕ) (xs ys : List (List ℕ)) → ((y : List ℕ) → list_any (bytes_eq y) xs ≡ true → list_any (bytes_eq y) ys ≡ true)
    → list_any (bytes_eq p) (map f xs) ≡ true → list_any (bytes_eq p) (map f ys) ≡ true
in_mapped f p [] ys h t = absurd (false≢true t)
in_mapped f p (x ∷ xs) ys h t = by (in_mapped f p xs ys (λ y u. h y (right (bytes_eq y x) u))) (or_cases _ _ t)
  where
    at : (zs : List (List ℕ)) → list_any (bytes_eq x) zs ≡ true → bytes_eq p (f x) ≡ true → list_any (bytes_eq p) (map f zs) ≡ true
    at [] u e = absurd (false≢true u)
    at (z ∷ zs) u e = go (or_cases _ _ u) (at zs)
      where
        go : (bytes_eq x z ≡ true) ⊎ (list_any (bytes_eq x) zs ≡ true) → (list_any (bytes_eq x) zs ≡ true → bytes_eq p (f x) ≡ true → list_any (bytes_eq p) (map f zs) ≡ true)
            → (bytes_eq p (f z) || list_any (bytes_eq p) (map f zs)) ≡ true
        go (inl v) more = left _ (ap (λ w. bytes_eq p (f w)) (sym ((bytes_eq-Decides x z).0 v)) ∙ e)
        go (inr v) more = right (bytes_eq p (f z)) (more v e)

    by : (list_any (bytes_eq p) (map f xs) ≡ true → list_any (bytes_eq p) (map f ys) ≡ true) → (bytes_eq p (f x) ≡ true) ⊎ (list_any (bytes_eq p) (map f xs) ≡ true)
        → list_any (bytes_eq p) (map f ys) ≡ true
    by more (inl e) = at ys (h x (left (list_any (bytes_eq x) xs) ((bytes_eq-Decides x x).1 refl))) e
    by more (inr e) = more e

-- what is in a list of lists is in one of them
pub one_has : (p : List ℕ) (f : List ℕ → List (List ℕ)) (xs : List (List ℕ)) → list_any (bytes_eq p) (flat_map f xs) ≡ true
    → (x : List ℕ) × ((list_any (bytes_eq x) xs ≡ true) × (list_any (bytes_eq p) (f x) ≡ true))
one_has p f [] h = absurd (false≢true h)
one_has p f (x ∷ xs) h = by (in_either p (f x) (flat_map f xs) h) (one_has p f xs)
  where
    by : (list_any (bytes_eq p) (f x) ≡ true) ⊎ (list_any (bytes_eq p) (flat_map f xs) ≡ true)
        → (list_any (bytes_eq p) (flat_map f xs) ≡ true → (y : List ℕ) × ((list_any (bytes_eq y) xs ≡ true) × (list_any (bytes_eq p) (f y) ≡ true)))
        → (y : List ℕ) × ((list_any (bytes_eq y) (x ∷ xs) ≡ true) × (list_any (bytes_eq p) (f y) ≡ true))
    by (inl u) more = (x, (left (list_any (bytes_eq x) xs) ((bytes_eq-Decides x x).1 refl), u))
    by (inr u) more = let m = more u in (m.0, (right (bytes_eq m.0 x) m.1.0, m.1.1))

-- what passes changes it
where_passes : (facts : Facts) (test : List ℕ → Bool) (x p : List ℕ) → list_any (bytes_eq p) (changed_where facts test x) ≡ true
    → (test x ≡ true) × (list_any (bytes_eq p) (changed_by facts x) ≡ true)
where_passes facts test x p h = by (test x) h
  where
    by : (b : Bool) → list_any (bytes_eq p) (cond b (changed_by facts x) []) ≡ true → (b ≡ true) × (list_any (bytes_eq p) (changed_by facts x) ≡ true)
    by true t = (refl, t)
    by false t = absurd (false≢true t)

pub in_keys : (facts : Facts) (y : List ℕ) → contains_key facts y ≡ true → list_any (bytes_eq y) (keys facts) ≡ true
in_keys facts y t = sym (any_same (eq_by_cmp ref_cmp y) (bytes_eq y) (eq_is y) (keys facts)) ∙ sym (contains_key-keys facts y) ∙ t

module _ (facts more : Facts) (accepts : Accepts) (r : List ℕ) (known : list_any (bytes_eq r) (keys more) ≡ true) where
  abbrev news : List (List ℕ)
  news = new_refs facts more r

  abbrev ends : List (List ℕ)
  ends = chain_ends facts more accepts r

  abbrev is_one_new : List ℕ → Bool
  is_one_new p = passes (λ fact. is_permanode fact.kind) (get more p)

  abbrev by_change : List (List ℕ)
  by_change = flat_map (changed_by more) (news ++ ends)

  new_permanode : (p : List ℕ) → is_one_new p ≡ true → list_any (bytes_eq p) news ≡ true → list_any (bytes_eq p) (changed_refs facts more accepts r) ≡ true
  new_permanode p is t = in_once p (filter is_one_new news ++ ends ++ by_change)
      (in_first p (filter is_one_new news ++ ends) by_change (in_first p (filter is_one_new news) ends (in_filter is_one_new p is news t)))

  one_end : (p : List ℕ) → list_any (bytes_eq p) ends ≡ true → list_any (bytes_eq p) (changed_refs facts more accepts r) ≡ true
  one_end p t = in_once p (filter is_one_new news ++ ends ++ by_change)
      (in_first p (filter is_one_new news ++ ends) by_change (in_second p (filter is_one_new news) ends t))

  one_changed : (x p : List ℕ) → list_any (bytes_eq x) (news ++ ends) ≡ true → list_any (bytes_eq p) (changed_by more x) ≡ true
      → list_any (bytes_eq p) (changed_refs facts more accepts r) ≡ true
  one_changed x p t u = in_once p (filter is_one_new news ++ ends ++ by_change)
      (in_second p (filter is_one_new news ++ ends) by_change (among_all (changed_by more) p x (news ++ ends) t u))

  -- the rows that are put for new claims are of changes on these refs
  pub puts_covered : sum_by (put_steps more accepts) (became (is_ready facts) more) ≤ sum_by (change_count more accepts) (changed_refs facts more accepts r)
  puts_covered = puts_sum facts more accepts (changed_refs facts more accepts r) (λ x fact found new p t.
      one_changed x p (in_first x news ends (fresh_among facts more accepts r known x (in_filter (becomes (is_ready facts) more) x new (keys more) (in_keys more x (ap is_some found))))) t)

  -- whatever a new claim changes has no more changes than all of these
  pub few_changes : AreFewOn more accepts (became (is_ready facts) more) (sum_by (change_count more accepts) (changed_refs facts more accepts r))
  few_changes x new p t =
      let there = one_changed x p (in_first x news ends (fresh_among facts more accepts r known x new)) t in
      let s = sum_within (change_count more accepts) (p ∷ []) (changed_refs facts more accepts r) (refl, tt)
      (λ y u. ap (λ z. list_any (bytes_eq z) (changed_refs facts more accepts r)) ((bytes_eq-Decides y p).0 (sure (bytes_eq y p) u)) ∙ there) in
      let one = sum_by-cons (change_count more accepts) p [] in
      omega (arith, s, one)
    where
      sure : (a : Bool) → (a || false) ≡ true → a ≡ true
      sure true t = refl
      sure false t = t

  module _ (deletes concerned : List (List ℕ))
      (genuine : (d : List ℕ) → list_any (bytes_eq d) deletes ≡ true → is_genuine_delete more accepts d ≡ true)
      (among : (d : List ℕ) → list_any (bytes_eq d) deletes ≡ true → list_any (bytes_eq d) (became (is_ready facts) more) ≡ true)
      (by_fresh : (p : List ℕ) → list_any (bytes_eq p) concerned ≡ true
      → list_any (bytes_eq p) (may_concern more (is_signed_at more accepts) (became (is_ready facts) more)) ≡ true) where
    new_delete : (d : List ℕ) → list_any (bytes_eq d) deletes ≡ true → list_any (bytes_eq d) (new_deletes facts more accepts r) ≡ true
    new_delete d t = in_filter (is_genuine_delete more accepts) d (genuine d t) news (fresh_among facts more accepts r known d (among d t))

    own_end : (y : List ℕ) → list_any (bytes_eq y) (ends_of more accepts deletes) ≡ true → list_any (bytes_eq y) ends ≡ true
    own_end y t = in_mapped (chain_end more accepts) y deletes (new_deletes facts more accepts r) new_delete t

    -- among the first refs, or changed; a permanode among the second
    abbrev Told : List ℕ → Type 0
    Told p = ((list_any (bytes_eq p) (heads facts more accepts r) || (list_any (bytes_eq p) (changed_refs facts more accepts r) && nat_lt 0 (change_count more accepts p))) ≡ true)
        × (is_one_new p ≡ true → list_any (bytes_eq p) (changed_refs facts more accepts r) ≡ true)

    told_changed : (x p : List ℕ) → is_genuine more accepts x ≡ true → list_any (bytes_eq x) (news ++ ends) ≡ true → list_any (bytes_eq p) (changed_by more x) ≡ true → Told p
    told_changed x p g t u =
        let c = one_changed x p t u in
        (right (list_any (bytes_eq p) (heads facts more accepts r)) (λ i. c i && lt-ltb 0 (change_count more accepts p) (group_some more accepts x p g u) i), λ is. c)

    told_fresh : (p : List ℕ) → list_any (bytes_eq p) (may_concern more (is_signed_at more accepts) (became (is_ready facts) more)) ≡ true → Told p
    told_fresh p t = by (in_either p (became (is_ready facts) more) (flat_map (changed_where more (is_signed_at more accepts)) (became (is_ready facts) more)) t)
      where
        by : (list_any (bytes_eq p) (became (is_ready facts) more) ≡ true) ⊎ (list_any (bytes_eq p) (flat_map (changed_where more (is_signed_at more accepts)) (became (is_ready facts) more)) ≡ true) → Told p
        by (inl u) = let n = fresh_among facts more accepts r known p u in (left _ (in_first p news ends n), λ is. new_permanode p is n)
        by (inr u) =
            let x = one_has p (changed_where more (is_signed_at more accepts)) (became (is_ready facts) more) u in
            let w = where_passes more (is_signed_at more accepts) x.0 p x.1.1 in
            let ready = (and_parts (is_ready more x.0) _ (out_filter (becomes (is_ready facts) more) x.0 (keys more) x.1.0).1).0 in
            told_changed x.0 p (signed_genuine more accepts x.0 ready ∙ w.0) (in_first x.0 news ends (fresh_among facts more accepts r known x.0 x.1.0)) w.1

    told_ends : (p : List ℕ) → list_any (bytes_eq p) (may_concern more (is_genuine more accepts) (ends_of more accepts deletes)) ≡ true → Told p
    told_ends p t = by (in_either p (ends_of more accepts deletes) (flat_map (changed_where more (is_genuine more accepts)) (ends_of more accepts deletes)) t)
      where
        by : (list_any (bytes_eq p) (ends_of more accepts deletes) ≡ true) ⊎ (list_any (bytes_eq p) (flat_map (changed_where more (is_genuine more accepts)) (ends_of more accepts deletes)) ≡ true) → Told p
        by (inl u) = let e = own_end p u in (left _ (in_second p news ends e), λ is. one_end p e)
        by (inr u) =
            let x = one_has p (changed_where more (is_genuine more accepts)) (ends_of more accepts deletes) u in
            let w = where_passes more (is_genuine more accepts) x.0 p x.1.1 in
            told_changed x.0 p w.0 (in_second x.0 news ends (own_end x.0 x.1.0)) w.1

    told_all : (p : List ℕ) → list_any (bytes_eq p) (all_concerned more accepts deletes concerned) ≡ true → Told p
    told_all p t = by (in_either p concerned (may_concern more (is_genuine more accepts) (ends_of more accepts deletes)) t)
      where
        by : (list_any (bytes_eq p) concerned ≡ true) ⊎ (list_any (bytes_eq p) (may_concern more (is_genuine more accepts) (ends_of more accepts deletes)) ≡ true) → Told p
        by (inl u) = told_fresh p (by_fresh p u)
        by (inr u) = told_ends p u

    pub all_covered : IsCovered more accepts (all_concerned more accepts deletes concerned) (heads facts more accepts r) (changed_refs facts more accepts r)
    all_covered = record {
      permanodes = λ p is t. (told_all p t).1 is;
      each = λ p t. (told_all p t).0;
    }
