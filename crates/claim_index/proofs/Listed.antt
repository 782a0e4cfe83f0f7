-- Lists of facts that are put one after another, and the numbers of their places.
use Rattle.std.proofs.Common.{◌≡◌, ℕ, ◌+◌, true, false, ◌||◌, List, [], ◌∷◌, ◌++◌, is_some, nat_lt, refl, sym, ap, ◌∙◌, ◌⊎◌, inl, inr, arith}
use Rattle.std.proofs.lemmas.Bool.{cases_Bool, false≢true}
use Rattle.std.proofs.lemmas.Bool.Decides.{nat_tests}
use Rattle.std.specs.Ordering.{nat_cmp, eq_by_cmp}
use Rattle.std.specs.Cmp.{nat_cmp_total, eq_by_cmp_equiv}
use Rattle.std.specs.FinMap.{from_entries, insert, empty, contains_key, get-empty, nat_cmp-IsAntisymmetric}
use Rattle.blobref.specs.Blobref.{ref_cmp}
use Rattle.claim_model.specs.Facts.{Entry, Facts}
use Rattle.index_look.proofs.Order.{is_Equal}
use Rattle.index_rows.proofs.Counting.{contains-insert}
use Rattle.claim_index.specs.Indexed.{with_all}
use Rattle.claim_index.specs.Numbers.{NumberSet}
use Rattle.claim_index.proofs.Marks.{alike}

-- the last one is put first
pub with_last : (facts : Facts) (es : List Entry) (e : Entry)
    → with_all facts (es ++ e ∷ []) ≡ with_all (insert facts e.0 e.1) es
with_last facts [] e = refl
with_last facts (f ∷ es) e = λ i. insert (with_last facts es e i) f.0 f.1

pub all_put : (es : List Entry) → with_all empty es ≡ from_entries {R = ref_cmp} es
all_put [] = refl
all_put (e ∷ es) = λ i. insert (all_put es i) e.0 e.1

pub none_below : (s : NumberSet) → s ≡ empty → (q : ℕ) → contains_key s q ≡ nat_lt q 0
none_below s is q = ap (λ m. contains_key m q) is ∙ ap is_some (get-empty nat_cmp q)
    ∙ alike false (nat_lt q 0) (λ h. absurd (false≢true h)) (λ h. grind (arith, nat_tests, h))

-- one number more
less_or_same : (q n : ℕ) → (eq_by_cmp nat_cmp q n || nat_lt q n) ≡ nat_lt q (n + 1)
less_or_same q n = by (cases_Bool (eq_by_cmp nat_cmp q n))
  where
    by : (eq_by_cmp nat_cmp q n ≡ true) ⊎ (eq_by_cmp nat_cmp q n ≡ false)
        → (eq_by_cmp nat_cmp q n || nat_lt q n) ≡ nat_lt q (n + 1)
    by (inl t) =
        let is : q ≡ n = nat_cmp-IsAntisymmetric q n (is_Equal (nat_cmp q n) t) in
        let lt : nat_lt q (n + 1) ≡ true = grind (arith, nat_tests, is) in
        ap (λ b. b || nat_lt q n) t ∙ sym lt
    by (inr f) =
        let other : q ≡ n → ⊥ =
        λ is. false≢true (sym f ∙ ap (eq_by_cmp nat_cmp q) (sym is) ∙ (eq_by_cmp_equiv nat_cmp_total).refl q) in
        let lt : nat_lt q n ≡ nat_lt q (n + 1) = alike (nat_lt q n) (nat_lt q (n + 1))
        (λ h. grind (arith, nat_tests, h)) (λ h. grind (arith, nat_tests, h, other)) in
        ap (λ b. b || nat_lt q n) f ∙ lt

pub below_more : (s more : NumberSet) (n : ℕ) → ((q : ℕ) → contains_key s q ≡ nat_lt q n) → more ≡ insert s n tt
    → (q : ℕ) → contains_key more q ≡ nat_lt q (n + 1)
below_more s more n h is q = ap (λ m. contains_key m q) is
    ∙ contains-insert nat_cmp_total nat_cmp-IsAntisymmetric s n tt q
    ∙ ap (λ b. eq_by_cmp nat_cmp q n || b) (h q) ∙ less_or_same q n
