-- The steps of making the rows of holders again, in terms of the facts.
use Rattle.std.proofs.Common.{◌≡◌, ◌≤◌, ◌+◌, ◌*◌, ℕ, Bool, true, false, ◌&&◌, ◌||◌, ◌==◌, cond, List, [], ◌∷◌, ◌++◌, length, filter, nat_lt, None, refl, sym, ap, subst, ◌∙◌, ◌⊎◌, inl, inr, arith}
use Rattle.std.proofs.lemmas.Bool.{cases_Bool, false≢true, and_parts, ltb-true}
use Rattle.std.proofs.lemmas.List.Folds.{list_any-append}
use Rattle.std.proofs.lemmas.List.Sums.{sum_by-cons, sum_by-append}
use Rattle.std.proofs.lemmas.Slice.Eq.{bytes_eq-Decides}
use Rattle.std.specs.List.{list_any, sum_by}
use Rattle.std.specs.Str.{bytes_eq}
use Rattle.std.specs.List.Sorted.{IsStrictlySortedBy}
use Rattle.std.specs.FinMap.{get}
use Rattle.blobref.specs.Blobref.{ref_cmp}
use Rattle.claim_verify.specs.Verifier.{Accepts}
use Rattle.claim_model.specs.Facts.{Facts, passes, is_permanode}
use Rattle.index_rows.specs.Changes.{Changes, changes_after}
use Rattle.index_rows.specs.Holders.{says_permanode}
use Rattle.index_rows.specs.Once.{AreOnce}
use Rattle.index_rows.specs.States.{States, says_genuine}
use Rattle.index_rows.proofs.Counting.{bit}
use Rattle.index_rows.proofs.Sums.{sum_within, sum_ones}
use Rattle.attr_fold.specs.Refolded.{refold_steps}
use Rattle.index_meaning.specs.Meaning.{IsChangesOf}
use Rattle.index_meaning.proofs.Grouped.{group_count}
use Rattle.index_meaning.proofs.Arriving.{all_have_arrived}
use Rattle.index_rows.specs.declared.rows.Rows.{Rows}
use Rattle.claim_index.specs.Halfway.{taken}
use Rattle.claim_index.specs.Costs.{AreTaken, IsCovered, change_count, refolds_steps}
use Rattle.claim_index.proofs.Distinct.{once_sorted}
use Rattle.claim_index.proofs.LoopTicks.{left, right}
use Rattle.claim_index.proofs.TouchedSum.{sum_bound, sum_both}
use Rattle.index_rows.proofs.LooseFacts.{in_order}

module _ (f : List ℕ → ℕ) where
  abbrev nothing : List ℕ → Bool
  nothing y = f y == 0

  is_zero : (n : ℕ) → (n == 0) ≡ true → n ≡ 0
  is_zero n h = grind arith

  zero_is : (n : ℕ) → n ≡ 0 → (n == 0) ≡ true
  zero_is n h = grind arith

  sum_nothing : (xs : List (List ℕ)) → sum_by f (filter nothing xs) ≡ 0
  sum_nothing [] = refl
  sum_nothing (x ∷ xs) = by (nothing x) refl (sum_nothing xs)
    where
      by : (b : Bool) → nothing x ≡ b → sum_by f (filter nothing xs) ≡ 0 → sum_by f (cond b (x ∷ filter nothing xs) (filter nothing xs)) ≡ 0
      by true e h = let l = sum_by-cons f x (filter nothing xs) in let z = is_zero (f x) e in omega (arith, l, z, h)
      by false e h = h

  kept : (y : List ℕ) → nothing y ≡ true → (xs : List (List ℕ)) → list_any (bytes_eq y) xs ≡ true → list_any (bytes_eq y) (filter nothing xs) ≡ true
  kept y is [] h = absurd (false≢true h)
  kept y is (x ∷ xs) h = by (nothing x) refl (bytes_eq y x) refl h (kept y is xs)
    where
      by : (b : Bool) → nothing x ≡ b → (c : Bool) → bytes_eq y x ≡ c → (c || list_any (bytes_eq y) xs) ≡ true → (list_any (bytes_eq y) xs ≡ true → list_any (bytes_eq y) (filter nothing xs) ≡ true)
          → list_any (bytes_eq y) (cond b (x ∷ filter nothing xs) (filter nothing xs)) ≡ true
      by true q true e t more = left (list_any (bytes_eq y) (filter nothing xs)) e
      by true q false e t more = right (bytes_eq y x) (more t)
      by false q true e t more = absurd (false≢true (sym q ∙ ap nothing (sym ((bytes_eq-Decides y x).0 e)) ∙ is))
      by false q false e t more = more t

  -- refs that stand once add up to no more than a list that has each of them that counts
  sum_where : (xs ys : List (List ℕ)) → AreOnce xs → ((y : List ℕ) → list_any (bytes_eq y) xs ≡ true → (f y ≡ 0) ⊎ (list_any (bytes_eq y) ys ≡ true)) → sum_by f xs ≤ sum_by f ys
  sum_where xs ys once h =
      let s = sum_within f xs (filter nothing xs ++ ys) once (λ y t. by y t (h y t)) in
      let l = sum_by-append f (filter nothing xs) ys in
      let z = sum_nothing xs in
      omega (arith, s, l, z)
    where
      by : (y : List ℕ) → list_any (bytes_eq y) xs ≡ true → (f y ≡ 0) ⊎ (list_any (bytes_eq y) ys ≡ true) → list_any (bytes_eq y) (filter nothing xs ++ ys) ≡ true
      by y t (inl e) = list_any-append (bytes_eq y) (filter nothing xs) ys ∙ left (list_any (bytes_eq y) ys) (kept y (zero_is (f y) e) xs t)
      by y t (inr e) = list_any-append (bytes_eq y) (filter nothing xs) ys ∙ right (list_any (bytes_eq y) (filter nothing xs)) e

module _ (f g : List ℕ → ℕ) where
  sum_more : ((x : List ℕ) → f x ≤ g x) → (xs : List (List ℕ)) → sum_by f xs ≤ sum_by g xs
  sum_more h [] = omega arith
  sum_more h (x ∷ xs) = let l = sum_by-cons f x xs in let r = sum_by-cons g x xs in let m = sum_more h xs in let n = h x in omega (arith, l, r, m, n)

  -- also where it holds of the refs of the list alone
  sum_more_of : (xs : List (List ℕ)) → ((x : List ℕ) → list_any (bytes_eq x) xs ≡ true → f x ≤ g x) → sum_by f xs ≤ sum_by g xs
  sum_more_of [] h = omega arith
  sum_more_of (x ∷ xs) h =
      let l = sum_by-cons f x xs in let r = sum_by-cons g x xs in
      let m = sum_more_of xs (λ y t. h y (right (bytes_eq y x) t)) in
      let n = h x (left (list_any (bytes_eq x) xs) ((bytes_eq-Decides x x).1 refl)) in
      omega (arith, l, r, m, n)

-- refs that stand once, each of them among the first of two lists, or among the second one and counting there
module _ (k : List ℕ → ℕ) (heads ps : List (List ℕ)) where
  abbrev in_heads : List ℕ → Bool
  in_heads y = list_any (bytes_eq y) heads

  abbrev first_bit : List ℕ → ℕ
  first_bit y = bit (in_heads y)

  abbrev other : List ℕ → ℕ
  other y = cond (in_heads y) 0 (k y)

  length_covered : (once : List (List ℕ)) → AreOnce once
      → ((y : List ℕ) → list_any (bytes_eq y) once ≡ true → (in_heads y || (list_any (bytes_eq y) ps && nat_lt 0 (k y))) ≡ true)
      → length once ≤ length heads + sum_by k ps
  length_covered once distinct each =
      let a = sum_ones once in
      let b = sum_more_of (λ y. 1) (λ y. first_bit y + other y) once (λ y t. one y (each y t)) in
      let c = sum_both first_bit other once in
      let d = sum_where first_bit once heads distinct (λ y t. among y) in
      let e = sum_more first_bit (λ y. 1) (λ y. bit_small (in_heads y)) heads in
      let f = sum_ones heads in
      let g = sum_where other once ps distinct (λ y t. counts y (each y t)) in
      let h = sum_more other k small ps in
      omega (arith, a, b, c, d, e, f, g, h)
    where
      one : (y : List ℕ) → (in_heads y || (list_any (bytes_eq y) ps && nat_lt 0 (k y))) ≡ true → 1 ≤ first_bit y + other y
      one y h = by (in_heads y) h
        where
          by : (b : Bool) → (b || (list_any (bytes_eq y) ps && nat_lt 0 (k y))) ≡ true → 1 ≤ bit b + cond b 0 (k y)
          by true h = omega arith
          by false h = let some = ltb-true 0 (k y) (and_parts (list_any (bytes_eq y) ps) (nat_lt 0 (k y)) h).1 in omega (arith, some)

      bit_small : (b : Bool) → bit b ≤ 1
      bit_small true = omega arith
      bit_small false = omega arith

      among : (y : List ℕ) → (first_bit y ≡ 0) ⊎ (in_heads y ≡ true)
      among y = by (in_heads y)
        where
          by : (b : Bool) → (bit b ≡ 0) ⊎ (b ≡ true)
          by true = inr refl
          by false = inl refl

      counts : (y : List ℕ) → (in_heads y || (list_any (bytes_eq y) ps && nat_lt 0 (k y))) ≡ true → (other y ≡ 0) ⊎ (list_any (bytes_eq y) ps ≡ true)
      counts y h = by (in_heads y) h
        where
          by : (b : Bool) → (b || (list_any (bytes_eq y) ps && nat_lt 0 (k y))) ≡ true → (cond b 0 (k y) ≡ 0) ⊎ (list_any (bytes_eq y) ps ≡ true)
          by true h = inl refl
          by false h = inr (and_parts (list_any (bytes_eq y) ps) (nat_lt 0 (k y)) h).0

      small : (y : List ℕ) → other y ≤ k y
      small y = by (in_heads y)
        where
          by : (b : Bool) → cond b 0 (k y) ≤ k y
          by true = omega arith
          by false = omega arith

module _ (facts : Facts) (accepts : Accepts) (state : States) (changes : Changes) (changed : IsChangesOf facts accepts [] changes) where
  abbrev held_changes : List ℕ → ℕ
  held_changes p = cond (says_permanode facts state p) (length (changes_after changes p None)) 0

  steps_held : (p : List ℕ) → refold_steps facts state changes p ≤ 3 + 4 * held_changes p
  steps_held p = by (says_permanode facts state p)
    where
      by : (b : Bool) → cond b (3 + 4 * length (changes_after changes p None)) 2 ≤ 3 + 4 * cond b (length (changes_after changes p None)) 0
      by true = omega arith
      by false = omega arith

  held_group : (p : List ℕ) → held_changes p ≤ change_count facts accepts p
  held_group p = by (says_permanode facts state p) (group_count facts accepts changes changed p)
    where
      by : (b : Bool) → length (changes_after changes p None) ≤ change_count facts accepts p → cond b (length (changes_after changes p None)) 0 ≤ change_count facts accepts p
      by true c = c
      by false c = omega arith

  pub refolds_sum : (once concerned heads ps : List (List ℕ)) → AreOnce once
      → ((q : List ℕ) → list_any (bytes_eq q) once ≡ list_any (bytes_eq q) concerned) → IsCovered facts accepts concerned heads ps
      → sum_by (refold_steps facts state changes) once ≤ refolds_steps facts accepts heads ps
  refolds_sum once concerned heads ps distinct same is =
      let a = sum_bound (refold_steps facts state changes) held_changes 3 4 steps_held once in
      let b = sum_where held_changes once ps distinct each in
      let c = sum_more held_changes (change_count facts accepts) held_group ps in
      let d = length_covered (change_count facts accepts) heads ps once distinct (λ y t. is.each y (sym (same y) ∙ t)) in
      omega (arith, a, b, c, d)
    where
      each : (y : List ℕ) → list_any (bytes_eq y) once ≡ true → (held_changes y ≡ 0) ⊎ (list_any (bytes_eq y) ps ≡ true)
      each y t = by (cases_Bool (says_permanode facts state y))
        where
          by : (says_permanode facts state y ≡ true) ⊎ (says_permanode facts state y ≡ false) → (held_changes y ≡ 0) ⊎ (list_any (bytes_eq y) ps ≡ true)
          by (inl e) = inr (is.permanodes y (and_parts (passes (λ fact. is_permanode fact.kind) (get facts y)) (says_genuine state y) e).0 (sym (same y) ∙ t))
          by (inr e) = inl (ap (λ b. cond b (length (changes_after changes y None)) 0) e)

-- rows whose facts, states and changes stay ask for as many steps
pub same_steps : (rows after : Rows) → after.facts ≡ rows.facts → after.state ≡ rows.state → after.changes ≡ rows.changes → (p : List ℕ)
    → refold_steps after.facts.ordered after.state after.changes p ≡ refold_steps rows.facts.ordered rows.state rows.changes p
same_steps rows after facts state changes p = λ i. refold_steps (in_order facts i) (state i) (changes i) p

pub refolds_whole : (rows : Rows) (accepts : Accepts) (items concerned heads ps : List (List ℕ)) → IsStrictlySortedBy ref_cmp items
    → ((q : List ℕ) → list_any (bytes_eq q) items ≡ list_any (bytes_eq q) concerned) → IsChangesOf (taken rows) accepts [] rows.changes → AreTaken rows
    → IsCovered rows.facts.ordered accepts concerned heads ps
    → sum_by (refold_steps rows.facts.ordered rows.state rows.changes) items ≤ refolds_steps rows.facts.ordered accepts heads ps
refolds_whole rows accepts items concerned heads ps up same changed all is =
    refolds_sum rows.facts.ordered accepts rows.state rows.changes (subst (λ (f : Facts). IsChangesOf f accepts [] rows.changes) (all_have_arrived rows.facts.ordered rows.state all) changed)
    items concerned heads ps (once_sorted items up) same is
