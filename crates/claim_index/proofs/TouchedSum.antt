-- What an index does for one fact more, added up over all that is touched.
use Rattle.std.proofs.Common.{◌≡◌, ◌≤◌, ◌+◌, ◌*◌, ℕ, Bool, true, false, ◌||◌, cond, List, [], ◌∷◌, ◌++◌, length, filter}
use Rattle.std.proofs.Common.{map, flat_map, refl, sym, ap, ◌∙◌, arith, length-append}
use Rattle.std.proofs.lemmas.Bool.{false≢true}
use Rattle.std.proofs.lemmas.List.{length-map}
use Rattle.std.proofs.lemmas.List.Concat.{length-flat_map}
use Rattle.std.proofs.lemmas.List.Sums.{sum_by-cons}
use Rattle.std.proofs.lemmas.Slice.Eq.{bytes_eq-Decides}
use Rattle.std.proofs.Math.Nat.{mul-add}
use Rattle.std.specs.List.{list_any, sum_by}
use Rattle.std.specs.Str.{bytes_eq}
use Rattle.std.specs.FinMap.{keys, entries}
use Rattle.claim_verify.specs.Verifier.{Accepts}
use Rattle.schema_fact.specs.Dependencies.{dependencies}
use Rattle.claim_model.specs.Facts.{Facts, Entry}
use Rattle.claim_model.specs.Ready.{is_ready}
use Rattle.schema_fact.specs.declared.changes.Change.{Change}
use Rattle.claim_model.specs.Claims.{Moment}
use Rattle.index_rows.specs.Once.{AreOnce}
use Rattle.index_rows.specs.Touched.{becomes, became, needs_of, namings, is_genuine_delete, chain, chain_end, group_of}
use Rattle.index_rows.specs.Touched.{is_new, new_refs, new_deletes, chain_ends, changed_refs, touched_in}
use Rattle.index_rows.proofs.Sums.{sum_within, sum_ones}
use Rattle.claim_index.proofs.LoopTicks.{right}
use Rattle.claim_index.specs.Costs.{put_steps, look_steps, targets_of, enter_steps, change_count, finish_steps}

module _ {A : Type 0} (f : A → ℕ) where
  -- a sum over what passes a narrower test is less
  sum_filters : (p q : A → Bool) → ((x : A) → p x ≡ true → q x ≡ true) → (xs : List A)
      → sum_by f (filter p xs) ≤ sum_by f (filter q xs)
  sum_filters p q h [] = omega arith
  sum_filters p q h (x ∷ xs) = by (p x) (q x) (h x) (sum_filters p q h xs)
    where
      by : (a b : Bool) → (a ≡ true → b ≡ true) → sum_by f (filter p xs) ≤ sum_by f (filter q xs)
          → sum_by f (cond a (x ∷ filter p xs) (filter p xs)) ≤ sum_by f (cond b (x ∷ filter q xs) (filter q xs))
      by true true g le =
          let l = sum_by-cons f x (filter p xs) in let r = sum_by-cons f x (filter q xs) in omega (arith, le, l, r)
      by true false g le = absurd (false≢true (g refl))
      by false true g le = let r = sum_by-cons f x (filter q xs) in omega (arith, le, r)
      by false false g le = le

  pub sum_bound : (g : A → ℕ) (a b : ℕ) → ((x : A) → f x ≤ a + b * g x) → (xs : List A)
      → sum_by f xs ≤ a * length xs + b * sum_by g xs
  sum_bound g a b h [] = omega arith
  sum_bound g a b h (x ∷ xs) =
      let l = sum_by-cons f x xs in let r = sum_by-cons g x xs in let m = sum_bound g a b h xs in let n = h x in
      let d : b * sum_by g (x ∷ xs) ≡ b * g x + b * sum_by g xs = ap (λ k. b * k) r ∙ mul-add b (g x) (sum_by g xs) in
      let one : length (x ∷ xs) ≡ length xs + 1 = omega arith in
      let e : a * length (x ∷ xs) ≡ a * length xs + a * 1 = ap (λ k. a * k) one ∙ mul-add a (length xs) 1 in
      let f : a * 1 ≡ a = omega arith in
      omega (arith, l, m, n, d, e, f)

  pub sum_same : (g : A → ℕ) → ((x : A) → f x ≡ g x) → (xs : List A) → sum_by f xs ≡ sum_by g xs
  sum_same g h [] = refl
  sum_same g h (x ∷ xs) =
      let l = sum_by-cons f x xs in let r = sum_by-cons g x xs in let m = sum_same g h xs in let n = h x in
      omega (arith, l, r, m, n)

looks : (facts : Facts) (accepts : Accepts) (x : List ℕ)
    → look_steps facts accepts x ≤ 6 + 1 * (2 * length (needs_of facts x) + 2 * put_steps facts accepts x)
looks facts accepts x = omega arith

pub sum_both : {A : Type 0} (f g : A → ℕ) (xs : List A) → sum_by (λ x. f x + g x) xs ≡ sum_by f xs + sum_by g xs
sum_both f g [] = refl
sum_both f g (x ∷ xs) =
    let l = sum_by-cons (λ y. f y + g y) x xs in let a = sum_by-cons f x xs in let b = sum_by-cons g x xs in
    let m = sum_both f g xs in
    omega (arith, l, a, b, m)

namings_less : (facts : Facts) (p q : List ℕ → Bool) → ((y : List ℕ) → p y ≡ true → q y ≡ true)
    → length (namings facts p) ≤ length (namings facts q)
namings_less facts p q h = go (entries facts)
  where
    at : (List ℕ → Bool) → Entry → List (List ℕ)
    at t e = map (λ d. e.0) (filter t (dependencies e.1))

    go : (es : List Entry) → length (flat_map (at p) es) ≤ length (flat_map (at q) es)
    go [] = omega arith
    go (e ∷ es) =
        let l = length-append (at p e) (flat_map (at p) es) in let r = length-append (at q e) (flat_map (at q) es) in
        let lm = length-map (filter p (dependencies e.1)) (λ (d : List ℕ). e.0) in let rm = length-map
        (filter q (dependencies e.1)) (λ (d : List ℕ). e.0) in
        let lo = sum_ones (filter p (dependencies e.1)) in let ro = sum_ones (filter q (dependencies e.1)) in
        let s = sum_filters (λ d. 1) p q h (dependencies e.1) in let m = go es in
        omega (arith, l, r, lm, rm, lo, ro, s, m)

pub in_filter : (p : List ℕ → Bool) (y : List ℕ) → p y ≡ true → (xs : List (List ℕ)) → list_any (bytes_eq y) xs ≡ true
    → list_any (bytes_eq y) (filter p xs) ≡ true
in_filter p y is [] h = absurd (false≢true h)
in_filter p y is (x ∷ xs) h = by (p x) refl (bytes_eq y x) refl h (in_filter p y is xs)
  where
    by : (b : Bool) → p x ≡ b → (c : Bool) → bytes_eq y x ≡ c → (c || list_any (bytes_eq y) xs) ≡ true
        → (list_any (bytes_eq y) xs ≡ true → list_any (bytes_eq y) (filter p xs) ≡ true)
        → list_any (bytes_eq y) (cond b (x ∷ filter p xs) (filter p xs)) ≡ true
    by true q true e t more = ap (λ c. c || list_any (bytes_eq y) (filter p xs)) e
    by true q false e t more = right (bytes_eq y x) (more t)
    by false q true e t more = absurd (false≢true (sym q ∙ ap p (sym ((bytes_eq-Decides y x).0 e)) ∙ is))
    by false q false e t more = more t

pub out_filter : (p : List ℕ → Bool) (y : List ℕ) (xs : List (List ℕ)) → list_any (bytes_eq y) (filter p xs) ≡ true
    → (list_any (bytes_eq y) xs ≡ true) × (p y ≡ true)
out_filter p y [] h = absurd (false≢true h)
out_filter p y (x ∷ xs) h = by (p x) refl (bytes_eq y x) refl h (out_filter p y xs)
  where
    by : (b : Bool) → p x ≡ b → (c : Bool) → bytes_eq y x ≡ c
        → list_any (bytes_eq y) (cond b (x ∷ filter p xs) (filter p xs)) ≡ true
        → (list_any (bytes_eq y) (filter p xs) ≡ true → (list_any (bytes_eq y) xs ≡ true) × (p y ≡ true))
        → ((bytes_eq y x || list_any (bytes_eq y) xs) ≡ true) × (p y ≡ true)
    by true q true e t more = (ap (λ c. c || list_any (bytes_eq y) xs) e, ap p ((bytes_eq-Decides y x).0 e) ∙ q)
    by true q false e t more = let m = more (sym (ap (λ c. c || list_any (bytes_eq y) (filter p xs)) e) ∙ t) in
        (right (bytes_eq y x) m.0, m.1)
    by false q c e t more = let m = more t in (right (bytes_eq y x) m.0, m.1)

-- the new refs, and the ends of the chains of new delete claims
abbrev pub heads : Facts → Facts → Accepts → List ℕ → List (List ℕ)
heads facts more accepts r = new_refs facts more r ++ chain_ends facts more accepts r

module _ (facts more : Facts) (accepts : Accepts) (r : List ℕ) (known : list_any (bytes_eq r) (keys more) ≡ true) where
  abbrev fresh : List (List ℕ)
  fresh = became (is_ready facts) more

  abbrev refs : List (List ℕ)
  refs = new_refs facts more r

  abbrev needs : List ℕ → ℕ
  needs x = length (needs_of more x)

  becomes_new : (y : List ℕ) → becomes (is_ready facts) more y ≡ true → is_new facts more r y ≡ true
  becomes_new y t = right (bytes_eq y r) t

  pub fresh_among : (y : List ℕ) → list_any (bytes_eq y) fresh ≡ true → list_any (bytes_eq y) refs ≡ true
  fresh_among y t = let o = out_filter (becomes (is_ready facts) more) y (keys more) t in in_filter
      (is_new facts more r) y (becomes_new y o.1) (keys more) o.0

  fresh_less : (f : List ℕ → ℕ) → sum_by f fresh ≤ sum_by f refs
  fresh_less f = sum_filters f (becomes (is_ready facts) more) (is_new facts more r) becomes_new (keys more)

  fresh_length : length fresh ≤ length refs
  fresh_length =
      let s = fresh_less (λ x. 1) in let a = sum_ones fresh in let b = sum_ones refs in omega (arith, s, a, b)

  own_needs : needs r ≤ sum_by needs refs
  own_needs = let s = sum_within needs (r ∷ []) refs (refl, tt) in let one = sum_by-cons needs r [] in
      let m = s (λ y t. in_filter (is_new facts more r) y (ap (λ b. b || becomes (is_ready facts) more y) (only y t))
      (keys more) (ap (λ z. list_any (bytes_eq z) (keys more)) ((bytes_eq-Decides y r).0 (only y t)) ∙ known)) in
      omega (arith, one, m)
    where
      only : (y : List ℕ) → (bytes_eq y r || false) ≡ true → bytes_eq y r ≡ true
      only y t = by (bytes_eq y r) t
        where
          by : (b : Bool) → (b || false) ≡ true → b ≡ true
          by true e = refl
          by false e = e

  n2 : length (flat_map (needs_of more) refs) ≡ sum_by needs refs
  n2 = length-flat_map (needs_of more) refs

  abbrev puts : List ℕ → ℕ
  puts x = put_steps more accepts x

  looked : sum_by (look_steps more accepts) fresh ≤ 6 * length refs + 2 * sum_by needs refs + 2 * sum_by puts fresh
  looked =
      let a = sum_bound (look_steps more accepts) (λ x. 2 * needs x + 2 * puts x) 6 1 (looks more accepts) fresh in
      let s = sum_both (λ x. 2 * needs x) (λ x. 2 * puts x) fresh in
      let m = sum_bound (λ x. 2 * puts x) puts 0 2 (λ x. omega arith) fresh in
      let n = sum_bound (λ x. 2 * needs x) needs 0 2 (λ x. omega arith) fresh in
      let b = fresh_length in let c = fresh_less needs in
      omega (arith, a, s, m, n, b, c)

  abbrev targets : List ℕ → ℕ
  targets d = length (targets_of more accepts d)

  chains : length (flat_map (chain more accepts) (new_deletes facts more accepts r)) ≡ sum_by (λ d. 1 + targets d)
      (new_deletes facts more accepts r)
  chains = length-flat_map (chain more accepts) (new_deletes facts more accepts r)
      ∙ sum_same (λ d. length (chain more accepts d)) (λ d. 1 + targets d) (λ d. omega arith)
      (new_deletes facts more accepts r)

  groups : length (flat_map (λ p. map (λ (c : Moment × Change). c.0.1) (group_of more accepts p))
      (changed_refs facts more accepts r))
      ≡ sum_by (change_count more accepts) (changed_refs facts more accepts r)
  groups = length-flat_map (λ p. map (λ (c : Moment × Change). c.0.1) (group_of more accepts p))
      (changed_refs facts more accepts r)
      ∙ sum_same (λ p. length (map (λ (c : Moment × Change). c.0.1) (group_of more accepts p)))
      (change_count more accepts)
      (λ p. length-map (group_of more accepts p) (λ (c : Moment × Change). c.0.1)) (changed_refs facts more accepts r)

  whole : length (touched_in facts more accepts r)
      ≡ length refs + (sum_by needs refs + (length (namings more (is_new facts more r))
      + (sum_by (λ d. 1 + targets d) (new_deletes facts more accepts r)
      + sum_by (change_count more accepts) (changed_refs facts more accepts r))))
  whole =
      let e = flat_map (λ p. map (λ (c : Moment × Change). c.0.1) (group_of more accepts p))
      (changed_refs facts more accepts r) in
      let d = flat_map (chain more accepts) (new_deletes facts more accepts r) in
      let c = namings more (is_new facts more r) in
      let b = flat_map (needs_of more) refs in
      let de : length (touched_in facts more accepts r) ≡ length (refs ++ b ++ c ++ d) + length e = length-append
      (refs ++ b ++ c ++ d) e in
      let cd = length-append (refs ++ b ++ c) d in
      let bc = length-append (refs ++ b) c in
      let ab = length-append refs b in
      omega (arith, ab, bc, cd, de, n2, chains, groups)

  abbrev ps : List (List ℕ)
  ps = changed_refs facts more accepts r

  heads_length : length (heads facts more accepts r) ≡ length refs + length (new_deletes facts more accepts r)
  heads_length =
      let a = length-append refs (chain_ends facts more accepts r) in
      let m = length-map (new_deletes facts more accepts r) (chain_end more accepts) in
      omega (arith, a, m)

  module _ (deletes : List (List ℕ)) (once : AreOnce deletes)
      (genuine : (d : List ℕ) → list_any (bytes_eq d) deletes ≡ true → is_genuine_delete more accepts d ≡ true)
      (among : (d : List ℕ) → list_any (bytes_eq d) deletes ≡ true → list_any (bytes_eq d) fresh ≡ true)
      (put : sum_by puts fresh ≤ sum_by (change_count more accepts) ps) where
    entered : (f : List ℕ → ℕ) → sum_by f deletes ≤ sum_by f (new_deletes facts more accepts r)
    entered f = sum_within f deletes (new_deletes facts more accepts r) once
        (λ d t. in_filter (is_genuine_delete more accepts) d (genuine d t) refs (fresh_among d (among d t)))

    pub touched_sum : 2 + 3 * length (needs_of more r) + length fresh
        + 4 * length (namings more (becomes (is_ready facts) more))
        + sum_by (look_steps more accepts) fresh + finish_steps more accepts deletes (heads facts more accepts r) ps
        + 8 + 4 * sum_by (change_count more accepts) ps ≤ 12 + 16 * length (touched_in facts more accepts r)
    touched_sum =
        let a = fresh_length in let b = own_needs in
        let c = namings_less more (becomes (is_ready facts) more) (is_new facts more r) becomes_new in
        let d = looked in let e = entered (enter_steps more accepts) in let f = heads_length in
        let g = sum_bound (enter_steps more accepts) (λ x. 1 + targets x) 0 6 (λ x. omega arith)
        (new_deletes facts more accepts r) in
        let h = sum_bound (λ (x : List ℕ). 1) (λ x. 1 + targets x) 0 1 (λ x. omega arith)
        (new_deletes facts more accepts r) in
        let k = sum_ones (new_deletes facts more accepts r) in
        let w = whole in
        omega (arith, a, b, c, d, e, f, g, h, k, w, put)
