-- How many entries of a map pass, as the map changes.
use Rattle.std.proofs.Common.{◌≡◌, ℕ, ◌+◌, ◌≤◌, Bool, true, false, not, ◌&&◌, ◌||◌, cond, List, [], ◌∷◌, None, Some, refl, sym, ap, ◌∙◌, Ordering, is_some, arith, length}
use Rattle.std.proofs.lemmas.Bool.{cond-true, cond-false}
use Rattle.std.specs.declared.cmp.Ordering.TheVariants.{Less, Equal, Greater}
use Rattle.std.specs.List.{list_any, AllByRecursion}
use Rattle.std.specs.Ordering.{is_eq, eq_by_cmp}
use Rattle.std.specs.Cmp.{IsTotalOrder, eq_by_cmp_equiv}
use Rattle.std.specs.FinMap.Entries.{by_order}
use Rattle.std.specs.FinMap.{FinMap, get, insert, remove, entries, contains_key, find, put, IsAntisymmetric, same_map, get-insert, get-remove, get-entries, entries-insert}
use Rattle.index_look.proofs.Keys.{entries_held}
use Rattle.index_rows.specs.Pairs.{number}

abbrev pub bit : Bool → ℕ
bit b = cond b 1 0

module _ {A : Type 0} where
  pub number_none : (p : A → Bool) (es : List A) → number p es ≡ 0 → list_any p es ≡ false
  number_none p [] h = refl
  number_none p (e ∷ es) h = by (p e) refl (number_none p es)
    where
      by : (b : Bool) → p e ≡ b → (number p es ≡ 0 → list_any p es ≡ false) → (p e || list_any p es) ≡ false
      by true t more = let n : bit true + number p es ≡ 0 = sym (ap (λ b. bit b + number p es) t) ∙ h in absurd (omega arith)
      by false t more = let n : bit false + number p es ≡ 0 = sym (ap (λ b. bit b + number p es) t) ∙ h in ap (λ b. b || list_any p es) t ∙ more (omega arith)

  pub number_same : (p q : A → Bool) → ((e : A) → p e ≡ q e) → (es : List A) → number p es ≡ number q es
  number_same p q h [] = refl
  number_same p q h (e ∷ es) = λ i. bit (h e i) + number_same p q h es i

module _ {K X : Type 0} {R : K → K → Ordering} (o : IsTotalOrder R) (same : IsAntisymmetric R) where
  number-put : (p : K × X → Bool) (k : K) (v : X) (es : List (K × X)) → find R k es ≡ None → number p (put R k v es) ≡ bit (p (k, v)) + number p es
  number-put p k v [] h = refl
  number-put p k v (e ∷ es) h = by (R k e.0) refl (number-put p k v es)
    where
      by : (r : Ordering) → R k e.0 ≡ r → (find R k es ≡ None → number p (put R k v es) ≡ bit (p (k, v)) + number p es)
          → number p (by_order r ((k, v) ∷ e ∷ es) ((e.0, v) ∷ es) (e ∷ put R k v es)) ≡ bit (p (k, v)) + (bit (p e) + number p es)
      by Less is more = refl
      by Equal is more = absurd (let f : Some e.1 ≡ None = sym (cond-true (eq_by_cmp R k e.0) (Some e.1) (find R k es) (ap is_eq is)) ∙ h in cc f)
      by Greater is more =
          let later : find R k es ≡ None = sym (cond-false (eq_by_cmp R k e.0) (Some e.1) (find R k es) (ap is_eq is)) ∙ h in
          ap (λ n. bit (p e) + n) (more later) ∙ omega arith

  pub number-insert : (p : K × X → Bool) (m : FinMap R X) (k : K) (v : X) → get m k ≡ None → number p (entries (insert m k v)) ≡ bit (p (k, v)) + number p (entries m)
  number-insert p m k v h = ap (number p) (entries-insert o m k v) ∙ number-put p k v (entries m) (sym (get-entries m k) ∙ h)

  -- a map with a key taken out and put in again
  back : (m : FinMap R X) (k : K) (v : X) → get m k ≡ Some v → m ≡ insert (remove m k) k v
  back m k v h = same_map o same _ _ (λ q. by q (R q k) refl ∙ sym (get-insert o (remove m k) k v q ∙ ap (cond (eq_by_cmp R q k) (Some v)) (get-remove o m k q)))
    where
      by : (q : K) (r : Ordering) → R q k ≡ r → get m q ≡ cond (eq_by_cmp R q k) (Some v) (cond (eq_by_cmp R q k) None (get m q))
      by q Less is = sym (ap (λ b. cond b (Some v) (cond b None (get m q))) (ap is_eq is))
      by q Equal is = ap (get m) (same q k is) ∙ h ∙ sym (ap (λ b. cond b (Some v) (cond b None (get m q))) (ap is_eq is))
      by q Greater is = sym (ap (λ b. cond b (Some v) (cond b None (get m q))) (ap is_eq is))

  removed : (m : FinMap R X) (k : K) → get (remove m k) k ≡ None
  removed m k = get-remove o m k k ∙ ap (λ b. cond b None (get m k)) ((eq_by_cmp_equiv o).refl k)

  pub number-remove : (p : K × X → Bool) (m : FinMap R X) (k : K) (v : X) → get m k ≡ Some v → number p (entries m) ≡ bit (p (k, v)) + number p (entries (remove m k))
  number-remove p m k v h = ap (λ n. number p (entries n)) (back m k v h) ∙ number-insert p (remove m k) k v (removed m k)

  pub contains-remove : (m : FinMap R X) (k q : K) → contains_key (remove m k) q ≡ (not (eq_by_cmp R q k) && contains_key m q)
  contains-remove m k q = ap is_some (get-remove o m k q) ∙ by (eq_by_cmp R q k)
    where
      by : (b : Bool) → is_some (cond b None (get m q)) ≡ (not b && contains_key m q)
      by true = refl
      by false = refl

  pub contains-insert : (m : FinMap R X) (k : K) (v : X) (q : K) → contains_key (insert m k v) q ≡ (eq_by_cmp R q k || contains_key m q)
  contains-insert m k v q = ap is_some (get-insert o m k v q) ∙ by (eq_by_cmp R q k)
    where
      by : (b : Bool) → is_some (cond b (Some v) (get m q)) ≡ (b || contains_key m q)
      by true = refl
      by false = refl

pub number_whole : {A : Type 0} (es : List A) → number (λ e. true) es ≡ length es
number_whole [] = refl
number_whole (e ∷ es) = omega (arith, number_whole es)

pub number_all : {A : Type 0} (p : A → Bool) (es : List A) → number p es ≤ number (λ e. true) es
number_all p [] = omega arith
number_all p (e ∷ es) = omega (arith, one (p e), number_all p es)
  where
    one : (b : Bool) → bit b ≤ 1
    one true = omega arith
    one false = omega arith

module _ {K X : Type 0} {R : K → K → Ordering} (o : IsTotalOrder R) (same : IsAntisymmetric R) (m : FinMap R X) where
  -- tests that agree at what the map holds
  pub number_held : (p q : K × X → Bool) → ((e : K × X) → get m e.0 ≡ Some e.1 → p e ≡ q e)
      → number p (entries m) ≡ number q (entries m)
  number_held p q h = by (entries m) (entries_held o same m)
    where
      by : (es : List (K × X)) → AllByRecursion (λ e. get m e.0 ≡ Some e.1) es → number p es ≡ number q es
      by [] all = refl
      by (e ∷ es) all = λ i. bit (h e all.0 i) + by es all.1 i

module _ {K X : Type 0} {R : K → K → Ordering} (o : IsTotalOrder R) (same : IsAntisymmetric R) (m : FinMap R X) (k : K)
    (v : X) (there : get m k ≡ Some v) where
  -- tests that agree beside one key
  pub one_apart : (p q : K × X → Bool) → ((e : K × X) → get m e.0 ≡ Some e.1 → eq_by_cmp R e.0 k ≡ false → p e ≡ q e)
      → number p (entries m) + bit (q (k, v)) ≡ number q (entries m) + bit (p (k, v))
  one_apart p q h = omega (
    arith,
    number_held o same (remove m k) p q each,
    number-remove o same p m k v there,
    number-remove o same q m k v there,
  )
    where
      each : (e : K × X) → get (remove m k) e.0 ≡ Some e.1 → p e ≡ q e
      each e found = by (eq_by_cmp R e.0 k) refl (sym (get-remove o m k e.0) ∙ found)
        where
          by : (b : Bool) → eq_by_cmp R e.0 k ≡ b → cond b None (get m e.0) ≡ Some e.1 → p e ≡ q e
          by true t none = absurd (let f : None ≡ Some e.1 = none in cc f)
          by false t had = h e had t
