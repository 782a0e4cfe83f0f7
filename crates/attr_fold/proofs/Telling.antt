-- The turns behind the moments of a permanode tell what it holds.
use Rattle.std.proofs.Common.{◌≡◌, ◌<◌, ◌+◌, ℕ, zero, suc, Bool, true, false, not, ◌&&◌, ◌||◌, cond, List, [], ◌∷◌}
use Rattle.std.proofs.Common.{◌++◌, map, filter, take, length, Option, Some, None, refl, sym, ap, subst, ◌∙◌, ◌⊎◌}
use Rattle.std.proofs.Common.{inl, inr, is_some, get_or, nat_lt, option_map, unwrap_or, arith, add-one}
use Rattle.std.proofs.lemmas.Bool.{false≢true, cond-true, cond-false, cases_Bool, and_parts}
use Rattle.std.proofs.lemmas.List.Elements.{filter_map-append}
use Rattle.std.proofs.lemmas.Option.{same_Some}
use Rattle.std.proofs.lemmas.Slice.Eq.{bytes_eq-Decides}
use Rattle.std.specs.List.{list_any, filter_map, cons_option, AllByRecursion}
use Rattle.std.specs.Str.{bytes_eq}
use Rattle.std.specs.FinMap.{get, contains_key}
use Rattle.schema_date.specs.declared.date.When.TheVariants.{Always}
use Rattle.claim_model.specs.Facts.{Facts, passes}
use Rattle.schema_fact.specs.declared.changes.Change.{Change}
use Rattle.claim_model.specs.Changes.{counting, gives, has_after, values_after}
use Rattle.claim_model.specs.Claims.{Moment}
use Rattle.claim_model.proofs.Changes.{held_is_given}
use Rattle.index_look.proofs.Texts.{take_one}
use Rattle.index_rows.specs.Changes.{Changes, changes_after}
use Rattle.index_rows.specs.Deletes.{Deletes, row_deleted}
use Rattle.index_rows.specs.Holders.{Holders, is_given, row_holds, says_permanode, times_at, AllCounted, IsHeldBut}
use Rattle.index_rows.specs.Pairs.{number}
use Rattle.index_rows.proofs.HolderTimes.{row_by_number}
use Rattle.index_rows.specs.States.{States}
use Rattle.index_rows.specs.Values.{change_at, moment_counts, row_values, IsChange, IsListed}
use Rattle.attr_fold.specs.declared.turns.Turns.{Turns}
use Rattle.attr_fold.specs.Refolded.{IsHeldSomehow}
use Rattle.attr_fold.specs.Times.{times_after}
use Rattle.attr_fold.specs.Turns.{all_moments, change_noted, moment_noted, standing, times_there, told, told_at, Tells}
use Rattle.attr_fold.proofs.HeldTimes.{held_by_times, holds_is, no_row, number_by_times, row_times, times_held}
use Rattle.attr_fold.proofs.Noting.{tells_more}
use Rattle.attr_fold.proofs.Walking.{Row, all_stand, change_is}

all_at : {A : Type 0} (P : A → Type 0) (xs : List A) → AllByRecursion P xs → (i : ℕ) (x : A) → i < length xs
    → x ≡ get_or xs i x → P x
all_at P [] all i x lt is = absurd (omega arith)
all_at P (y ∷ ys) all zero x lt is = subst P (sym is) all.0
all_at P (y ∷ ys) all (suc i) x lt is = all_at P ys all.1 i x (omega arith) is

-- the change at a place of the walk
pub change_there : (facts : Facts) (state : States) (changes : Changes) (p : List ℕ) → IsListed facts state changes
    → (ks : List Moment) → ks ≡ all_moments changes p
    → (i : ℕ) (k : Moment) → i < length ks → k ≡ get_or ks i k → IsChange facts state p k
change_there facts state changes p listed ks are i k lt is =
    listed p k (all_at (λ k. contains_key changes (p, k) ≡ true) ks
    (subst (AllByRecursion (λ k. contains_key changes (p, k) ≡ true)) (sym are) (all_stand changes p)) i k lt is)

module _ (facts : Facts) (state : States) (deletes : Deletes) (p : List ℕ) (cs : List (Change × Bool)) (turns : Turns)
    (n : ℕ) (tells : Tells p cs turns n) (k : Moment) (is : IsChange facts state p k) where
  abbrev counts : Bool
  counts = not (row_deleted facts deletes Always k.1)

  alone : told facts deletes (k ∷ []) ≡ (is.change, counts) ∷ []
  alone = ap (λ o. cons_option (option_map (λ c. (c, counts)) o) []) (change_is facts state p k is)

  -- one moment more
  pub tells_on : (now : Turns) → now ≡ moment_noted facts deletes p turns k n
      → Tells p (cs ++ told facts deletes (k ∷ [])) now (suc n)
  tells_on now noted =
      let c = is.change in
      let new : now ≡ change_noted turns p (Some c) counts n = noted
      ∙ ap (λ o. change_noted turns p o counts n) (change_is facts state p k is) in
      subst (λ (t : Turns). Tells p (cs ++ told facts deletes (k ∷ [])) t (suc n)) (sym new)
      (subst (λ ds. Tells p (cs ++ ds) (change_noted turns p (Some c) counts n) (suc n)) (sym alone)
      (tells_more p cs turns n tells c.on c.attr c.value c.act counts))

pub tells_next : (facts : Facts) (state : States) (deletes : Deletes) (p : List ℕ) (ks : List Moment) (i : ℕ)
    (k : Moment) → i < length ks → k ≡ get_or ks i k
    → IsChange facts state p k → (turns now : Turns) → Tells p (told facts deletes (take i ks)) turns i
    → now ≡ moment_noted facts deletes p turns k i
    → Tells p (told facts deletes (take (i + 1) ks)) now (i + 1)
tells_next facts state deletes p ks i k lt here is turns now tells noted =
    subst (λ n. Tells p (told facts deletes (take (i + 1) ks)) now n) (sym (add-one i))
    (subst (λ (ds : List (Change × Bool)). Tells p ds now (suc i)) (sym more)
    (tells_on facts state deletes p (told facts deletes (take i ks)) turns i tells k is now noted))
  where
    longer : take (i + 1) ks ≡ take i ks ++ k ∷ []
    longer = ap (λ n. take n ks) (add-one i) ∙ take_one ks i k lt here

    more : told facts deletes (take (i + 1) ks) ≡ told facts deletes (take i ks) ++ told facts deletes (k ∷ [])
    more = ap (told facts deletes) longer ∙ filter_map-append (told_at facts deletes) (take i ks) (k ∷ [])

-- ---- what is told of all moments

module _ (facts : Facts) (deletes : Deletes) where
  abbrev stands : Moment → Bool
  stands = moment_counts facts deletes Always

  counting_told : (ks : List Moment)
      → counting (told facts deletes ks) ≡ filter_map (change_at facts) (filter stands ks)
  counting_told [] = refl
  counting_told (k ∷ ks) = by (change_at facts k) refl (not (row_deleted facts deletes Always k.1)) (counting_told ks)
    where
      rest : List (Change × Bool)
      rest = told facts deletes ks

      left : List Moment
      left = filter stands ks

      by : (o : Option Change) → change_at facts k ≡ o → (b : Bool) → counting rest ≡ filter_map (change_at facts) left
          → counting (cons_option (option_map (λ c. (c, b)) o) rest)
          ≡ filter_map (change_at facts) (cond b (k ∷ left) left)
      by None is true h = h ∙ sym (ap (λ o. cons_option o (filter_map (change_at facts) left)) is)
      by None is false h = h
      by (Some c) is true h = ap (λ xs. c ∷ xs) h ∙ sym (ap (λ o. cons_option o (filter_map (change_at facts) left)) is)
      by (Some c) is false h = h

  given_told : (name value : List ℕ) (es : List Row)
      → list_any (λ (e : Row). passes (gives name value) (change_at facts e.0.1)) es
      ≡ list_any (λ (c : Change × Bool). gives name value c.0) (told facts deletes (map (λ (e : Row). e.0.1) es))
  given_told name value [] = refl
  given_told name value (e ∷ es) = by (change_at facts e.0.1) (given_told name value es)
    where
      rest : List (Change × Bool)
      rest = told facts deletes (map (λ (e : Row). e.0.1) es)

      by : (o : Option Change)
          → list_any (λ (e : Row). passes (gives name value) (change_at facts e.0.1)) es
          ≡ list_any (λ (c : Change × Bool). gives name value c.0) rest
          → (passes (gives name value) o || list_any (λ (e : Row). passes (gives name value) (change_at facts e.0.1))
          es)
          ≡ list_any (λ (c : Change × Bool). gives name value c.0)
          (cons_option (option_map (λ c. (c, not (row_deleted facts deletes Always e.0.1.1))) o) rest)
      by None h = h
      by (Some c) h = ap (λ b. gives name value c || b) h

  module _ (changes : Changes) (p : List ℕ) where
    abbrev cs : List (Change × Bool)
    cs = told facts deletes (all_moments changes p)

    has_is : (name value : List ℕ)
        → has_after name value (counting cs)
        ≡ list_any (bytes_eq value) (row_values facts deletes changes Always p name)
    has_is name value =
        ap (λ ds. list_any (bytes_eq value) (values_after name ds)) (counting_told (all_moments changes p))

    times_are : (name value : List ℕ) → times_after name value (counting cs)
        ≡ number (bytes_eq value) (row_values facts deletes changes Always p name)
    times_are name value = ap (λ ds. times_after name value ds) (counting_told (all_moments changes p))

    given_is : (name value : List ℕ)
        → is_given facts changes name value p ≡ list_any (λ (c : Change × Bool). gives name value c.0) cs
    given_is name value = given_told name value (changes_after changes p None)

    -- a value that p has is given by some change of it
    has_given : (name value : List ℕ)
        → list_any (bytes_eq value) (row_values facts deletes changes Always p name) ≡ true
        → is_given facts changes name value p ≡ true
    has_given name value h = given_is name value ∙ held_is_given name value cs (has_is name value ∙ h)

    module _ (state : States) where
      abbrev holds : List ℕ → List ℕ → Bool
      holds name value = row_holds facts state deletes changes name value p

      pub holds_says : (name value : List ℕ) → holds name value ≡ true → says_permanode facts state p ≡ true
      holds_says name value h =
          let first = and_parts (says_permanode facts state p && not (row_deleted facts deletes Always p))
          (list_any (bytes_eq value) (row_values facts deletes changes Always p name)) h in
          (and_parts (says_permanode facts state p) (not (row_deleted facts deletes Always p)) first.0).0

      pub holds_given : (name value : List ℕ) → holds name value ≡ true → is_given facts changes name value p ≡ true
      holds_given name value h =
          let first = and_parts (says_permanode facts state p && not (row_deleted facts deletes Always p))
          (list_any (bytes_eq value) (row_values facts deletes changes Always p name)) h in
          has_given name value first.1

      abbrev times : List ℕ → List ℕ → ℕ
      times name value = row_times facts state deletes changes name value p

      holds_by_times : (name value : List ℕ) → holds name value ≡ nat_lt 0 (times name value)
      holds_by_times name value = holds_is facts state deletes changes name value p

      module _ (before : Holders) (somehow : IsHeldSomehow facts state deletes changes before) where
        -- a value that can't be there has no row, and isn't held
        none_there : (name value : List ℕ) → (contains_key before (name, value, p) ≡ true → ⊥)
            → times_at before (name, value, p) ≡ 0
        none_there name value never = by (get before (name, value, p)) never
          where
            by : (o : Option ℕ) → (is_some o ≡ true → ⊥) → unwrap_or o 0 ≡ 0
            by None h = refl
            by (Some n) h = absurd (h refl)

        none_held : (name value : List ℕ) → (holds name value ≡ true → ⊥) → times name value ≡ 0
        none_held name value never = elim (cases_Bool (nat_lt 0 (times name value))) [
          | inl t ↦ absurd (never (holds_by_times name value ∙ t))
          | inr f ↦ no_row (times name value) f
        ]

        -- p is no genuine permanode
        pub own_none : None ≡ standing facts state deletes p → (name value : List ℕ)
            → times_at before (name, value, p) ≡ times name value
        own_none none name value =
            none_there name value (λ t. unsaid (somehow.1.permanode name value p t))
            ∙ sym (none_held name value (λ t. unsaid (holds_says name value t)))
          where
            unsaid : says_permanode facts state p ≡ true → ⊥
            unsaid says =
                false≢true
                (ap is_some none
                ∙ ap (λ b. is_some (cond b (Some (not (row_deleted facts deletes Always p))) None)) says)

        -- each value that the turns know was written, and no other is held
        pub own_written : (stood : Bool) → Some stood ≡ standing facts state deletes p → (turns : Turns) (n : ℕ)
            → Tells p cs turns n → (now : Holders)
            → ((name value : List ℕ)
            → times_at now (name, value, p)
            ≡ cond (contains_key turns.given (name, value, p))
            (cond stood (times_there turns.given turns.emptied (name, value, p)) 0) (times_at before (name, value, p)))
            → (name value : List ℕ) → times_at now (name, value, p) ≡ times name value
        own_written stood found turns n tells now written name value =
            written name value ∙ by (cases_Bool (contains_key turns.given (name, value, p)))
          where
            both : (says_permanode facts state p ≡ true) × (stood ≡ not (row_deleted facts deletes Always p))
            both = at (says_permanode facts state p) found
              where
                at : (b : Bool) → Some stood ≡ cond b (Some (not (row_deleted facts deletes Always p))) None
                    → (b ≡ true) × (stood ≡ not (row_deleted facts deletes Always p))
                at true h = (refl, same_Some stood (not (row_deleted facts deletes Always p)) h)
                at false h = absurd (false≢true (sym (ap is_some h)))

            unheld : contains_key turns.given (name, value, p) ≡ false → is_given facts changes name value p ≡ true → ⊥
            unheld unknown given = false≢true (sym unknown ∙ tells.known name value (sym (given_is name value) ∙ given))

            by : (contains_key turns.given (name, value, p) ≡ true) ⊎
                (contains_key turns.given (name, value, p) ≡ false)
                → cond (contains_key turns.given (name, value, p))
                (cond stood (times_there turns.given turns.emptied (name, value, p)) 0)
                (times_at before (name, value, p)) ≡ times name value
            by (inl t) =
                cond-true (contains_key turns.given (name, value, p)) _ _ t
                ∙ (λ i. cond (both.1 i) ((tells.there name value ∙ times_are name value) i) 0)
                ∙ ap (λ b. cond (b && not (row_deleted facts deletes Always p)) (number (bytes_eq value)
                (row_values facts deletes changes Always p name)) 0) (sym both.0)
            by (inr f) =
                cond-false (contains_key turns.given (name, value, p)) _ _ f
                ∙ none_there name value (λ t. unheld f (somehow.1.given name value p t))
                ∙ sym (none_held name value (λ t. unheld f (holds_given name value t)))

        -- and so p needs no exception any more
        module _ (now : Holders) (counted : AllCounted before) (counted_now : AllCounted now)
            (others : (name value q : List ℕ) → bytes_eq q p ≡ false
            → times_at now (name, value, q) ≡ times_at before (name, value, q)) where
          pub others_stay : (name value q : List ℕ) → bytes_eq q p ≡ false
              → contains_key now (name, value, q) ≡ contains_key before (name, value, q)
          others_stay name value q f = row_by_number now counted_now (name, value, q)
              ∙ ap (nat_lt 0) (others name value q f) ∙ sym (row_by_number before counted (name, value, q))

          module _ (own : (name value : List ℕ) → times_at now (name, value, p) ≡ times name value) where
            pub own_held : (name value : List ℕ) → contains_key now (name, value, p) ≡ holds name value
            own_held name value =
                held_by_times facts state deletes changes name value p now counted_now (own name value)

            pub held_after : (but : List (List ℕ)) → IsHeldBut (p ∷ but) facts state deletes changes before
                → IsHeldBut but facts state deletes changes now
            held_after but was = record {
              held = λ name value q h. held_by_times facts state deletes changes name value q now counted_now
                  (right name value q h (cases_Bool (bytes_eq q p)));
              times = λ name value q n h e. number_by_times facts state deletes changes name value q now counted_now
                  (right name value q h (cases_Bool (bytes_eq q p))) n e;
              permanode = λ name value q h. says name value q h (cases_Bool (bytes_eq q p));
              given = λ name value q h. given name value q h (cases_Bool (bytes_eq q p));
            }
              where
                right : (name value q : List ℕ) → list_any (bytes_eq q) but ≡ false
                    → (bytes_eq q p ≡ true) ⊎ (bytes_eq q p ≡ false)
                    → times_at now (name, value, q) ≡ row_times facts state deletes changes name value q
                right name value q h (inl t) =
                    subst (λ r. times_at now (name, value, r) ≡ row_times facts state deletes changes name value r)
                    (sym ((bytes_eq-Decides q p).0 t)) (own name value)
                right name value q h (inr f) = others name value q f
                    ∙ times_held facts state deletes changes name value q before (p ∷ but) was
                    (ap (λ b. b || list_any (bytes_eq q) but) f ∙ h)

                says : (name value q : List ℕ) → contains_key now (name, value, q) ≡ true
                    → (bytes_eq q p ≡ true) ⊎ (bytes_eq q p ≡ false) → says_permanode facts state q ≡ true
                says name value q h (inl t) =
                    let same : q ≡ p = (bytes_eq-Decides q p).0 t in
                    ap (says_permanode facts state) same
                    ∙ holds_says name value
                    (sym (own_held name value) ∙ ap (λ r. contains_key now (name, value, r)) (sym same) ∙ h)
                says name value q h (inr f) = was.permanode name value q (sym (others_stay name value q f) ∙ h)

                given : (name value q : List ℕ) → contains_key now (name, value, q) ≡ true
                    → (bytes_eq q p ≡ true) ⊎ (bytes_eq q p ≡ false) → is_given facts changes name value q ≡ true
                given name value q h (inl t) =
                    let same : q ≡ p = (bytes_eq-Decides q p).0 t in
                    ap (is_given facts changes name value) same
                    ∙ holds_given name value
                    (sym (own_held name value) ∙ ap (λ r. contains_key now (name, value, r)) (sym same) ∙ h)
                given name value q h (inr f) = was.given name value q (sym (others_stay name value q f) ∙ h)
