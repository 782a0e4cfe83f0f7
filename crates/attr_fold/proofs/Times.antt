-- How many times a value is there after some changes.
use Rattle.std.proofs.Common.{◌≡◌, ◌+◌, ◌==◌, ℕ, suc, Bool, true, false, not, ◌&&◌, ◌||◌, cond, List, [], ◌∷◌, ◌++◌}
use Rattle.std.proofs.Common.{filter, fold, length, refl, sym, ap, ◌∙◌, inl, inr, nat_lt, arith}
use Rattle.std.proofs.lemmas.Bool.{and_parts, and_from, or_cases, or_left, or_right, false≢true, lt-ltb}
use Rattle.std.proofs.lemmas.List.Sums.{fold-append}
use Rattle.std.proofs.lemmas.Slice.Eq.{bytes_eq-Decides}
use Rattle.std.specs.Cmp.Lexicographic.{nat_list_eq_equiv}
use Rattle.std.specs.List.{list_any}
use Rattle.std.specs.Str.{bytes_eq}
use Rattle.schema_fact.specs.declared.changes.Act.{Act}
use Rattle.schema_fact.specs.declared.changes.Act.TheVariants.{Set as sets, Add as adds, Del as removes}
use Rattle.schema_fact.specs.declared.changes.Change.{Change}
use Rattle.claim_model.specs.Changes.{change_values, has_after, left_by, values_after}
use Rattle.index_rows.specs.Pairs.{number}
use Rattle.index_rows.proofs.Counting.{bit}
use Rattle.attr_fold.specs.Following.{decides, is_addition, is_end, takes}
use Rattle.attr_fold.specs.Times.{act_times, change_times, times_after, times_from}

pub other_way : (x y : List ℕ) → bytes_eq x y ≡ bytes_eq y x
other_way x y = nat_list_eq_equiv.symm x y

own_bytes : (x : List ℕ) → bytes_eq x x ≡ true
own_bytes x = (bytes_eq-Decides x x).1 refl

neither : (a b : Bool) → (a || b) ≡ false → (a ≡ false) × (b ≡ false)
neither false b h = (refl, h)
neither true b h = absurd (false≢true (sym h))

-- ---- numbers

number-append : {A : Type 0} (p : A → Bool) (xs ys : List A) → number p (xs ++ ys) ≡ number p xs + number p ys
number-append p [] ys = omega arith
number-append p (x ∷ xs) ys = let more = number-append p xs ys in omega (arith, more)

pub any_number : {A : Type 0} (p : A → Bool) (xs : List A) → list_any p xs ≡ nat_lt 0 (number p xs)
any_number p [] = refl
any_number p (x ∷ xs) = by (p x) (any_number p xs)
  where
    by : (b : Bool) → list_any p xs ≡ nat_lt 0 (number p xs)
        → (b || list_any p xs) ≡ nat_lt 0 ((cond b 1 0) + number p xs)
    by true h = sym (lt-ltb 0 (1 + number p xs) (omega arith))
    by false h = h ∙ ap (nat_lt 0) (let e : number p xs ≡ 0 + number p xs = omega arith in e)

-- without the values that are one
number-without : (value own : List ℕ) (xs : List (List ℕ))
    → number (bytes_eq value) (filter (λ v. not (bytes_eq v own)) xs)
    ≡ cond (bytes_eq value own) 0 (number (bytes_eq value) xs)
number-without value own xs = by (bytes_eq value own) refl
  where
    other : List ℕ → Bool
    other v = not (bytes_eq v own)

    none : bytes_eq value own ≡ true → (ys : List (List ℕ))
        → number (bytes_eq value) (filter (λ v. not (bytes_eq v own)) ys) ≡ 0
    none t [] = refl
    none t (y ∷ ys) = at (bytes_eq y own) refl (none t ys)
      where
        at : (b : Bool) → bytes_eq y own ≡ b → number (bytes_eq value) (filter (λ v. not (bytes_eq v own)) ys) ≡ 0
            → number (bytes_eq value) (cond (not b) (y ∷ filter (λ v. not (bytes_eq v own)) ys)
            (filter (λ v. not (bytes_eq v own)) ys)) ≡ 0
        at true e more = more
        at false e more =
            let apart : bytes_eq value y ≡ false = ap (λ w. bytes_eq w y) ((bytes_eq-Decides value own).0 t)
            ∙ other_way own y ∙ e in
            let none_here : bit (bytes_eq value y) ≡ 0 = ap bit apart in
            omega (arith, none_here, more)

    all : bytes_eq value own ≡ false → (ys : List (List ℕ))
        → number (bytes_eq value) (filter (λ v. not (bytes_eq v own)) ys) ≡ number (bytes_eq value) ys
    all f [] = refl
    all f (y ∷ ys) = at (bytes_eq y own) refl (all f ys)
      where
        at : (b : Bool) → bytes_eq y own ≡ b
            → number (bytes_eq value) (filter (λ v. not (bytes_eq v own)) ys) ≡ number (bytes_eq value) ys
            → number (bytes_eq value) (cond (not b) (y ∷ filter (λ v. not (bytes_eq v own)) ys)
            (filter (λ v. not (bytes_eq v own)) ys))
            ≡ (cond (bytes_eq value y) 1 0) + number (bytes_eq value) ys
        at true e more =
            let apart : bytes_eq value y ≡ false = ap (bytes_eq value) ((bytes_eq-Decides y own).0 e) ∙ f in
            let none_here : bit (bytes_eq value y) ≡ 0 = ap bit apart in
            omega (arith, none_here, more)
        at false e more = ap (λ (n : ℕ). (cond (bytes_eq value y) 1 0) + n) more

    by : (b : Bool) → bytes_eq value own ≡ b
        → number (bytes_eq value) (filter (λ v. not (bytes_eq v own)) xs)
        ≡ cond b 0 (number (bytes_eq value) xs)
    by true t = none t xs
    by false f = all f xs

module _ (name value : List ℕ) where
  abbrev times : List (List ℕ) → ℕ
  times found = number (bytes_eq value) found

  act_is : (act : Act) (own : List ℕ) (found : List (List ℕ))
      → times (left_by act own found) ≡ act_times act own value (times found)
  act_is sets own found = one (bytes_eq value own)
    where
      one : (b : Bool) → (cond b 1 0) + 0 ≡ cond b 1 0
      one true = refl
      one false = refl
  act_is adds own found = number-append (bytes_eq value) found (own ∷ []) ∙ one (bytes_eq value own)
    where
      one : (b : Bool) → times found + ((cond b 1 0) + 0) ≡ cond b (suc (times found)) (times found)
      one true = omega arith
      one false = omega arith
  act_is removes own found = all (length own == 0)
    where
      all : (b : Bool) → times (cond b [] (filter (λ v. not (bytes_eq v own)) found))
          ≡ cond b 0 (cond (bytes_eq value own) 0 (times found))
      all true = refl
      all false = number-without value own found

  change_is : (found : List (List ℕ)) (c : Change)
      → times (change_values name found c) ≡ change_times name value (times found) c
  change_is found c = by (bytes_eq name c.attr)
    where
      by : (b : Bool) → times (cond b (left_by c.act c.value found) found)
          ≡ cond b (act_times c.act c.value value (times found)) (times found)
      by true = act_is c.act c.value found
      by false = refl

  from_is : (cs : List Change) (found : List (List ℕ))
      → times (fold (change_values name) found cs) ≡ times_from name value (times found) cs
  from_is [] found = refl
  from_is (c ∷ cs) found = from_is cs (change_values name found c)
      ∙ ap (λ n. times_from name value n cs) (change_is found c)

  -- the number is folded by itself
  pub times_is : (cs : List Change) → times_after name value cs ≡ times_from name value 0 cs
  times_is cs = from_is cs []

  -- a value is there exactly if its number isn't 0
  pub has_by_times : (cs : List Change) → has_after name value cs ≡ nat_lt 0 (times_after name value cs)
  has_by_times cs = any_number (bytes_eq value) (values_after name cs)

  pub times-append : (front back : List Change)
      → times_after name value (front ++ back) ≡ times_from name value (times_after name value front) back
  times-append front back =
      times_is (front ++ back) ∙ fold-append (change_times name value) 0 front back
      ∙ ap (λ n. times_from name value n back) (sym (times_is front))

  -- with one change among others
  pub times-among : (front : List Change) (c : Change) (back : List Change)
      → times_after name value (front ++ c ∷ back)
      ≡ times_from name value (change_times name value (times_after name value front) c) back
  times-among front c back = times-append front (c ∷ back)

  pub times-last : (cs : List Change) (c : Change)
      → times_after name value (cs ++ c ∷ []) ≡ change_times name value (times_after name value cs) c
  times-last cs c = times-among cs c []

  -- a change of another attribute leaves it
  pub beside_last : (c : Change) (cs : List Change) → bytes_eq name c.attr ≡ false
      → times_after name value (cs ++ c ∷ []) ≡ times_after name value cs
  beside_last c cs out = times-last cs c
      ∙ ap (λ b. cond b (act_times c.act c.value value (times_after name value cs)) (times_after name value cs)) out

  -- ---- what takes a value, and what leaves it

  one_taken : (c : Change) → takes name value c ≡ true → (n m : ℕ)
      → change_times name value n c ≡ change_times name value m c
  one_taken c t n m =
      let parts = and_parts (not (is_addition c.act)) (decides false name value c) t in
      let own = and_parts (bytes_eq c.attr name) (is_end c.act c.value || bytes_eq c.value value) parts.1 in
      by (bytes_eq name c.attr) (other_way name c.attr ∙ own.0) c.act parts.0 own.1
    where
      gone : (a b : Bool) → (a || b) ≡ true → cond a 0 (cond b 0 n) ≡ cond a 0 (cond b 0 m)
      gone true b h = refl
      gone false true h = refl
      gone false false h = absurd (false≢true h)

      by : (b : Bool) → b ≡ true → (act : Act) → not (is_addition act) ≡ true
          → (is_end act c.value || bytes_eq c.value value) ≡ true
          → cond b (act_times act c.value value n) n ≡ cond b (act_times act c.value value m) m
      by false h act a e = absurd (false≢true h)
      by true h sets a e = refl
      by true h adds a e = absurd (false≢true a)
      by true h removes a e = gone (length c.value == 0) (bytes_eq value c.value)
          (ap (λ b. length c.value == 0 || b) (other_way value c.value) ∙ e)

  one_left : (c : Change) → takes name value c ≡ false → (n : ℕ)
      → change_times name value n c ≡ n + change_times name value 0 c
  one_left c f n = by (bytes_eq name c.attr) (other_way name c.attr) c.act f
    where
      added : (b : Bool) → cond b (suc n) n ≡ n + cond b (suc 0) 0
      added true = omega arith
      added false = omega arith

      left : (a b : Bool) → (a || b) ≡ false → cond a 0 (cond b 0 n) ≡ n + cond a 0 (cond b 0 0)
      left true b h = absurd (false≢true (sym h))
      left false true h = absurd (false≢true (sym h))
      left false false h = omega arith

      by : (b : Bool) → b ≡ bytes_eq c.attr name → (act : Act)
          → (not (is_addition act) && (bytes_eq c.attr name && (is_end act c.value || bytes_eq c.value value))) ≡ false
          → cond b (act_times act c.value value n) n ≡ n + cond b (act_times act c.value value 0) 0
      by false h act e = omega arith
      by true h sets e = absurd (false≢true (sym e ∙ ap (λ b. b && true) (sym h)))
      by true h adds e = added (bytes_eq value c.value)
      by true h removes e = left (length c.value == 0) (bytes_eq value c.value)
          (ap (λ b. length c.value == 0 || b) (other_way value c.value)
          ∙ ap (λ b. b && (length c.value == 0 || bytes_eq c.value value)) h ∙ e)

  -- if one takes it, it makes no difference how many times it was there
  pub taken_from : (cs : List Change) → list_any (takes name value) cs ≡ true → (n m : ℕ)
      → times_from name value n cs ≡ times_from name value m cs
  taken_from [] t n m = absurd (false≢true t)
  taken_from (c ∷ cs) t n m = elim (or_cases (takes name value c) (list_any (takes name value) cs) t) [
    | inl own ↦ ap (λ k. times_from name value k cs) (one_taken c own n m)
    | inr more ↦ taken_from cs more (change_times name value n c) (change_times name value m c)
  ]

  -- if none does, those are added that add it
  pub left_from : (cs : List Change) → list_any (takes name value) cs ≡ false → (n : ℕ)
      → times_from name value n cs ≡ n + times_from name value 0 cs
  left_from [] f n = omega arith
  left_from (c ∷ cs) f n =
      let parts = neither (takes name value c) (list_any (takes name value) cs) f in
      let one = one_left c parts.0 n in
      let now : times_from name value n (c ∷ cs) ≡ change_times name value n c + times_from name value 0 cs
      = left_from cs parts.1 (change_times name value n c) in
      let was : times_from name value 0 (c ∷ cs) ≡ change_times name value 0 c + times_from name value 0 cs
      = left_from cs parts.1 (change_times name value 0 c) in
      omega (arith, one, now, was)

  -- what leaves none of the values takes each of them
  all_take : (v : List ℕ) (c : Change) → decides true name v c ≡ true → takes name value c ≡ true
  all_take v c t =
      let parts = and_parts (bytes_eq c.attr name) (is_end c.act c.value || false) t in
      let ends : is_end c.act c.value ≡ true = or_false (is_end c.act c.value) parts.1 in
      and_from (not (is_addition c.act)) (decides false name value c) (by c.act ends)
      (and_from (bytes_eq c.attr name) (is_end c.act c.value || bytes_eq c.value value) parts.0
      (or_left (is_end c.act c.value) (bytes_eq c.value value) ends))
    where
      or_false : (b : Bool) → (b || false) ≡ true → b ≡ true
      or_false true h = refl
      or_false false h = h

      by : (act : Act) → is_end act c.value ≡ true → not (is_addition act) ≡ true
      by sets h = refl
      by adds h = absurd (false≢true h)
      by removes h = refl

  pub any_take : (v : List ℕ) (cs : List Change) → list_any (decides true name v) cs ≡ true
      → list_any (takes name value) cs ≡ true
  any_take v [] t = t
  any_take v (c ∷ cs) t = elim (or_cases (decides true name v c) (list_any (decides true name v) cs) t) [
    | inl own ↦ or_left (takes name value c) (list_any (takes name value) cs) (all_take v c own)
    | inr more ↦ or_right (takes name value c) (list_any (takes name value) cs) (any_take v cs more)
  ]
