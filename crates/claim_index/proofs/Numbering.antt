-- A set of numbers with those of a list.
use Rattle.std.proofs.Common.{◌≡◌, ℕ, ◌==◌, Bool, true, false, ◌||◌, List, [], ◌∷◌, refl, sym, ap, ◌∙◌, arith}
use Rattle.std.proofs.lemmas.Bool.Decides.{nat_tests}
use Rattle.std.specs.List.{list_any}
use Rattle.std.specs.Cmp.{nat_cmp_total}
use Rattle.std.specs.FinMap.{insert, contains_key, nat_cmp-IsAntisymmetric}
use Rattle.index_rows.proofs.Counting.{contains-insert}
use Rattle.claim_index.specs.Numbers.{NumberSet, with_numbers}
use Rattle.claim_index.proofs.Marks.{alike, same, same_is, same_own, same_set}

with_one_more : (s : NumberSet) (n q : ℕ) → contains_key (insert s n tt) q ≡ (same q n || contains_key s q)
with_one_more s n q = contains-insert nat_cmp_total nat_cmp-IsAntisymmetric s n tt q

swapped : (s : NumberSet) (a b : ℕ) → insert (insert s a tt) b tt ≡ insert (insert s b tt) a tt
swapped s a b = same_set _ _ (λ q.
    with_one_more (insert s a tt) b q ∙ ap (λ v. same q b || v) (with_one_more s a q)
    ∙ swap (same q b) (same q a) (contains_key s q)
    ∙ sym (with_one_more (insert s b tt) a q ∙ ap (λ v. same q a || v) (with_one_more s b q)))
  where
    swap : (x y z : Bool) → (x || (y || z)) ≡ (y || (x || z))
    swap true true z = refl
    swap true false z = refl
    swap false y z = refl

-- which of them is put last is all the same
pub with_one : (ns : List ℕ) (s : NumberSet) (n : ℕ) → with_numbers ns (insert s n tt) ≡ insert (with_numbers ns s) n tt
with_one [] s n = refl
with_one (m ∷ ns) s n = ap (with_numbers ns) (swapped s n m) ∙ with_one ns (insert s m tt) n

-- which numbers there are
pub has_numbers : (ns : List ℕ) (s : NumberSet) (n : ℕ) → contains_key (with_numbers ns s) n ≡ (contains_key s n || list_any (λ m. m == n) ns)
has_numbers [] s n = swap (contains_key s n)
  where
    swap : (a : Bool) → a ≡ (a || false)
    swap true = refl
    swap false = refl
has_numbers (m ∷ ns) s n =
    has_numbers ns (insert s m tt) n
    ∙ ap (λ v. v || list_any (λ k. k == n) ns) (with_one_more s m n)
    ∙ ap (λ v. (v || contains_key s n) || list_any (λ k. k == n) ns) equal
    ∙ swap (m == n) (contains_key s n) (list_any (λ k. k == n) ns)
  where
    equal : same n m ≡ (m == n)
    equal = alike (same n m) (m == n)
        (λ h. let is : n ≡ m = same_is n m h in grind (arith, nat_tests, is))
        (λ h. let is : m ≡ n = grind (arith, nat_tests, h) in ap (λ k. same n k) is ∙ same_own n)

    swap : (x y z : Bool) → ((x || y) || z) ≡ (y || (x || z))
    swap true true z = refl
    swap true false z = refl
    swap false y z = refl
