-- Lists in which each key is below the next one, and those in which it is below all later ones.
use Rattle.std.proofs.Common.{◌≡◌, ℕ, zero, suc, ◌+◌, ◌<◌, Bool, true, false, ◌&&◌, List, [], ◌∷◌, length, slice_index_or, refl, sym, ap, subst, ◌∙◌, true≢false, arith}
use Rattle.std.specs.FinMap.{is_sorted}
use Rattle.std.specs.FinMap.Entries.{below_all}
use Rattle.std.specs.List.{IsAllAdjacentAnswer}
use Rattle.std.specs.Ordering.{is_lt}
use Rattle.std.specs.declared.cmp.Ordering.{Ordering}
use Rattle.std.specs.declared.cmp.Ordering.TheVariants.{Less, Equal, Greater}
use Rattle.std.specs.Cmp.{first_so, second_so}
use Rattle.std.specs.Cmp.Lexicographic.{nat_list_cmp_total}
use Rattle.blobref.specs.Blobref.{ref_cmp}

abbrev Entry : Type 0
Entry = List ℕ × ℕ

-- the first one's ref is below the second one's
abbrev pub precedes : Entry → Entry → Bool
precedes one next = is_lt (ref_cmp one.0 next.0)

both_so : (s t : Bool) → s ≡ true → t ≡ true → (s && t) ≡ true
both_so true t p q = q
both_so false t p q = p

false_unless : (s : Bool) → (s ≡ true → false ≡ true) → false ≡ s
false_unless true impossible = impossible refl
false_unless false impossible = refl

is_less : (o : Ordering) → is_lt o ≡ true → o ≡ Less
is_less Less h = refl
is_less Equal h = absurd (true≢false (sym h))
is_less Greater h = absurd (true≢false (sym h))

-- what is below a ref is below all that the ref is below
below_further : (x y : List ℕ) (es : List Entry) → is_lt (ref_cmp x y) ≡ true → below_all ref_cmp y es ≡ true → below_all ref_cmp x es ≡ true
below_further x y [] less all = refl
below_further x y (e ∷ es) less all =
    both_so (is_lt (ref_cmp x e.0)) (below_all ref_cmp x es)
    (ap is_lt (nat_list_cmp_total.trans x y e.0 (is_less _ less) (is_less _ (first_so _ (below_all ref_cmp y es) all))))
    (below_further x y es less (second_so (is_lt (ref_cmp y e.0)) _ all))

-- where each one precedes the next, the list is sorted
sorted_by_steps : (es : List Entry) → ((k : ℕ) (d : Entry) → suc k < length es → true ≡ precedes (slice_index_or es k d) (slice_index_or es (suc k) d)) → is_sorted ref_cmp es ≡ true
sorted_by_steps [] steps = refl
sorted_by_steps (e ∷ []) steps = refl
sorted_by_steps (e ∷ f ∷ es) steps =
    let less : is_lt (ref_cmp e.0 f.0) ≡ true = sym (steps 0 e (omega arith)) in
    let rest : is_sorted ref_cmp (f ∷ es) ≡ true = sorted_by_steps (f ∷ es) (λ k d within. steps (suc k) d (omega (arith, within))) in
    both_so (below_all ref_cmp e.0 (f ∷ es)) (is_sorted ref_cmp (f ∷ es))
    (both_so (is_lt (ref_cmp e.0 f.0)) (below_all ref_cmp e.0 es) less (below_further e.0 f.0 es less (first_so (below_all ref_cmp f.0 es) (is_sorted ref_cmp es) rest)))
    rest

-- in a sorted list each one precedes the next
steps_by_sorted : (es : List Entry) (k : ℕ) (d : Entry) → suc k < length es → is_sorted ref_cmp es ≡ true → precedes (slice_index_or es k d) (slice_index_or es (suc k) d) ≡ true
steps_by_sorted [] k d within sorted = absurd (omega (arith, within))
steps_by_sorted (e ∷ []) k d within sorted = absurd (omega (arith, within))
steps_by_sorted (e ∷ f ∷ es) zero d within sorted =
    first_so (is_lt (ref_cmp e.0 f.0)) (below_all ref_cmp e.0 es) (first_so (below_all ref_cmp e.0 (f ∷ es)) (is_sorted ref_cmp (f ∷ es)) sorted)
steps_by_sorted (e ∷ f ∷ es) (suc k) d within sorted =
    steps_by_sorted (f ∷ es) k d (omega (arith, within)) (second_so (below_all ref_cmp e.0 (f ∷ es)) (is_sorted ref_cmp (f ∷ es)) sorted)

next_is : (k : ℕ) → k + 1 ≡ suc k
next_is k = omega arith

-- a test of each two neighbours tells whether the list is sorted
pub steps_decide : (es : List Entry) (answer : Bool) → IsAllAdjacentAnswer (λ x y b. b ≡ precedes x y) es answer → answer ≡ is_sorted ref_cmp es
steps_decide es true steps =
    sym (sorted_by_steps es (λ k d within. subst (λ n. true ≡ precedes (slice_index_or es k d) (slice_index_or es n d)) (next_is k) (steps k d (omega (arith, within)))))
steps_decide es false step =
    let d : Entry = ([], 0) in
    let differ : false ≡ precedes (slice_index_or es step.0 d) (slice_index_or es (suc step.0) d) =
    subst (λ n. false ≡ precedes (slice_index_or es step.0 d) (slice_index_or es n d)) (next_is step.0) (step.2 d)
    in
    false_unless (is_sorted ref_cmp es) (λ sorted. differ ∙ steps_by_sorted es step.0 d (omega (arith, step.1)) sorted)
