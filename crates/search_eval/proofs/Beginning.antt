-- What a search begins from has all that its constraint asks for.
use Rattle.std.proofs.Common.{◌≡◌, ◌∙◌, ◌+◌, ◌*◌, ℕ, ℤ, Bool, true, false, ◌&&◌, not, List, [], ◌∷◌, length, filter, nat_le, Option, Some, None, inl, inr, refl, sym, ap, subst, arith, if◌then◌else◌}
use Rattle.std.proofs.Math.Bool.{and-true, and_comm}
use Rattle.std.proofs.lemmas.Bool.{and_parts, false≢true, or_cases, or_left, or_right}
use Rattle.std.specs.List.{list_any}
use Rattle.std.specs.Str.{bytes_eq}
use Rattle.std.specs.FinMap.{keys}
use Rattle.claim_verify.specs.Verifier.{Accepts}
use Rattle.schema_date.specs.declared.date.When.{When}
use Rattle.schema_date.specs.declared.date.When.TheVariants.{Always, At}
use Rattle.claim_model.specs.Facts.{Facts}
use Rattle.claim_model.specs.Genuine.{is_genuine_permanode, permanodes}
use Rattle.claim_model.specs.Deleted.{is_deleted, live_permanodes}
use Rattle.claim_model.specs.Claims.{has_value, holders, values}
use Rattle.search_query.specs.declared.query.Op.{Op}
use Rattle.search_query.specs.declared.query.Op.TheVariants.{And, Or, Xor, Not}
use Rattle.search_query.specs.declared.query.IntTest.{IntTest}
use Rattle.search_query.specs.declared.query.TextTest.{TextTest}
use Rattle.search_query.specs.declared.query.FileTest.{FileTest}
use Rattle.search_query.specs.declared.query.Query.{Query}
use Rattle.search_query.specs.Mirror.{TestLeaves, Asked, not_asked, asked, Joined, no_logical, logical, Tested, no_permanode, permanode, Related, no_relation, relation}
use Rattle.search_query.specs.declared.query.Constraint.TheViews.{out-Constraint, out-PermanodeTest, roll-Constraint, roll-PermanodeTest}
use Rattle.search_query.specs.Queries.{value_constraint, value_query}
use Rattle.search_query.specs.View.{is_asked, view}
use Rattle.search_query.proofs.Layers.{asked_out, tested_out}
use Rattle.search_meets.specs.Meaning.{joins, leaves_meet, meets, meets_logical, meets_related, meets_tested}
use Rattle.search_meets.specs.Tests.{text_meets}
use Rattle.search_meets.specs.Values.{is_in_set, is_live, value_meets, values_meet, where_asked}
use Rattle.search_eval.specs.Answer.{found}
use Rattle.search_eval.specs.Walk.{is_found, up_to}
use Rattle.search_eval.specs.Held.{AsksForValue, Held, value_asked, asks_nothing, few_or_shorter, held, held_at, held_by_logical, held_by_op, held_by_test, held_steps, holding, is_few, is_plain, is_plain_test, shorter}
use Rattle.search_eval.proofs.Walk.{filter_twice}

-- ---- filters

filter_same : (p q : List ℕ → Bool) → ((r : List ℕ) → p r ≡ q r) → (xs : List (List ℕ)) → filter p xs ≡ filter q xs
filter_same p q same xs = λ i. filter (λ r. same r i) xs

-- a test that is met only where another one is
implied : (a b : Bool) → (b ≡ true → a ≡ true) → (a && b) ≡ b
implied a true h = and-true a ∙ h refl
implied true false h = refl
implied false false h = refl

module _ (facts : Facts) (accepts : Accepts) where
  abbrev live : List (List ℕ)
  live = live_permanodes facts accepts Always

  -- all that pass the test are among the refs
  abbrev HasAll : (List ℕ → Bool) → Held → Type 0
  HasAll test None = Unit
  HasAll test (Some refs) = filter test refs ≡ filter test live

  narrower : (f g : List ℕ → Bool) (o : Held) → HasAll f o → HasAll (λ r. f r && g r) o
  narrower f g None h = tt
  narrower f g (Some refs) h = sym (filter_twice f g refs) ∙ ap (filter g) h ∙ filter_twice f g live

  turned : (f g : List ℕ → Bool) (o : Held) → HasAll (λ r. f r && g r) o → HasAll (λ r. g r && f r) o
  turned f g o h = subst (λ (t : List ℕ → Bool). HasAll t o) (λ i r. and_comm (f r) (g r) i) h

  one_of : (t : List ℕ → Bool) (b : Bool) (x y : Held) → HasAll t x → HasAll t y → HasAll t (if b then x else y)
  one_of t true x y h k = h
  one_of t false x y h k = k

  the_shorter : (t : List ℕ → Bool) (x y : Held) → HasAll t x → HasAll t y → HasAll t (shorter x y)
  the_shorter t None y h k = k
  the_shorter t (Some a) None h k = h
  the_shorter t (Some a) (Some b) h k = one_of t (nat_le (length a) (length b)) (Some a) (Some b) h k

  either : (t : List ℕ → Bool) (x y : Held) → HasAll t x → HasAll t y → HasAll t (few_or_shorter x y)
  either t x y h k = one_of t (is_few x) x (shorter x y) h (the_shorter t x y h k)

  of_both : (f g : List ℕ → Bool) (x y : Held) → HasAll f x → HasAll g y → HasAll (λ r. f r && g r) (few_or_shorter x y)
  of_both f g x y h k = either (λ r. f r && g r) x y (narrower f g x h) (turned g f y (narrower g f y k))

  by_op : (op : Option Op) (f g : List ℕ → Bool) (x y : Held) → HasAll f x → HasAll g y → HasAll (λ r. joins op (f r) (g r)) (held_by_op op x y)
  by_op None f g x y h k = tt
  by_op (Some And) f g x y h k = of_both f g x y h k
  by_op (Some Or) f g x y h k = tt
  by_op (Some Xor) f g x y h k = tt
  by_op (Some Not) f g x y h k = tt

  -- ---- a value that is asked for

  some_equal : (value : List ℕ) (matches : Option TextTest) (set : Option (List ℕ → Bool)) (vs : List (List ℕ))
      → list_any (λ v. is_in_set facts set v && value_meets (Some value) matches v) vs ≡ true → list_any (bytes_eq value) vs ≡ true
  some_equal value matches set [] h = h
  some_equal value matches set (v ∷ vs) h =
      elim (or_cases (is_in_set facts set v && value_meets (Some value) matches v) (list_any (λ w. is_in_set facts set w && value_meets (Some value) matches w) vs) h) [
        | inl here ↦ or_left (bytes_eq value v) (list_any (bytes_eq value) vs)
            (and_parts (bytes_eq value v) (text_meets matches v) (and_parts (is_in_set facts set v) (value_meets (Some value) matches v) here).1).0
        | inr later ↦ or_right (bytes_eq value v) (list_any (bytes_eq value) vs) (some_equal value matches set vs later)
      ]

  held_value : (name value : List ℕ) (matches : Option TextTest) (num : Option IntTest) (set : Option (List ℕ → Bool)) (vs : List (List ℕ))
      → values_meet facts (record { at = None; attr = Some name; value = Some value; value_matches = matches; num_value = num }) set vs ≡ true
      → list_any (bytes_eq value) vs ≡ true
  held_value name value matches num None vs h = some_equal value matches None vs (and_parts _ _ h).0
  held_value name value matches num (Some says) vs h = some_equal value matches (Some says) vs (and_parts _ _ h).0

  by_value : (at : Option ℤ) (attr value : Option (List ℕ)) (matches : Option TextTest) (num : Option IntTest) (in_set : Asked) (related : Related)
      → HasAll (meets_tested facts accepts (permanode (record { at = at; attr = attr; value = value; value_matches = matches; num_value = num }) in_set related) Always)
      (holding facts accepts at attr value)
  by_value (Some date) attr value matches num in_set related = tt
  by_value None None value matches num in_set related = tt
  by_value None (Some name) None matches num in_set related = tt
  by_value None (Some name) (Some value) matches num in_set related =
      filter_twice h m live ∙ filter_same (λ r. h r && m r) m (λ r. implied (h r) (m r) (holds r)) live
    where
      leaves : TestLeaves
      leaves = record { at = None; attr = Some name; value = Some value; value_matches = matches; num_value = num }

      set : Option (List ℕ → Bool)
      set = where_asked (is_asked in_set) (meets facts accepts in_set Always)

      m : List ℕ → Bool
      m = meets_tested facts accepts (permanode leaves in_set related) Always

      h : List ℕ → Bool
      h = has_value facts accepts Always name value

      holds : (r : List ℕ) → m r ≡ true → h r ≡ true
      holds r met =
          held_value name value matches num set (values facts accepts Always r name)
          (and_parts (is_live facts accepts Always r) (values_meet facts leaves set (values facts accepts Always r name)) (and_parts _ (meets_related facts accepts related Always r) met).0).1

  by_test : (t : Tested) → HasAll (meets_tested facts accepts t Always) (held_by_test facts accepts t)
  by_test no_permanode = tt
  by_test (permanode leaves in_set related) = by_value leaves.at leaves.attr leaves.value leaves.value_matches leaves.num_value in_set related

  mutual
    has_all : (c : Asked) → HasAll (meets facts accepts c Always) (held facts accepts c)
    has_all not_asked = tt
    has_all (asked joined leaves tested) =
        let own = leaves_meet facts leaves in
        let l = meets_logical facts accepts joined Always in
        let t = meets_tested facts accepts tested Always in
        turned t (λ r. own r && l r) (held facts accepts (asked joined leaves tested))
        (of_both t (λ r. own r && l r) (held_by_test facts accepts tested) (held_by_logical facts accepts joined) (by_test tested)
        (turned l own (held_by_logical facts accepts joined) (narrower l own (held_by_logical facts accepts joined) (by_logical joined))))

    by_logical : (j : Joined) → HasAll (meets_logical facts accepts j Always) (held_by_logical facts accepts j)
    by_logical no_logical = tt
    by_logical (logical op a b) =
        by_op op (meets facts accepts a Always) (meets facts accepts b Always) (held facts accepts a) (held facts accepts b) (has_all a) (has_all b)

  -- ---- where nothing else is asked

  -- the refs are all that pass the test
  abbrev AreAll : (List ℕ → Bool) → Held → Type 0
  AreAll test None = Unit
  AreAll test (Some refs) = refs ≡ filter test live

  nothing_asked : (anything : Option Bool) (type prefix : Option (List ℕ)) (size : Option IntTest) (file : Option FileTest) (r : List ℕ)
      → asks_nothing (record { anything = anything; camli_type = type; blob_ref_prefix = prefix; blob_size = size; file = file }) ≡ true
      → leaves_meet facts (record { anything = anything; camli_type = type; blob_ref_prefix = prefix; blob_size = size; file = file }) r ≡ true
  nothing_asked anything None None None None r h = refl
  nothing_asked anything None None None (Some x) r h = absurd (false≢true h)
  nothing_asked anything None None (Some x) file r h = absurd (false≢true h)
  nothing_asked anything None (Some x) size file r h = absurd (false≢true h)
  nothing_asked anything (Some x) prefix size file r h = absurd (false≢true h)

  value_alone : (name value : List ℕ) (r : List ℕ)
      → meets_tested facts accepts (permanode (record { at = None; attr = Some name; value = Some value; value_matches = None; num_value = None }) not_asked no_relation) Always r
      ≡ (is_live facts accepts Always r && has_value facts accepts Always name value r)
  value_alone name value r =
      and-true (is_live facts accepts Always r && (list_any (λ v. bytes_eq value v && true) (values facts accepts Always r name) && true))
      ∙ ap (λ b. is_live facts accepts Always r && b) (and-true (list_any (λ v. bytes_eq value v && true) (values facts accepts Always r name)))
      ∙ (λ i. is_live facts accepts Always r && list_any (λ v. and-true (bytes_eq value v) i) (values facts accepts Always r name))

  -- of permanodes that aren't deleted this needn't be asked
  live_alone : (h : List ℕ → Bool) → filter h live ≡ filter (λ r. is_live facts accepts Always r && h r) live
  live_alone h =
      kept h ∙ filter_same (λ r. genuine r && (stands r && h r)) (λ r. genuine r && (stands r && ((genuine r && stands r) && h r))) (λ r. by (genuine r) (stands r) (h r)) (keys facts)
      ∙ sym (kept (λ r. is_live facts accepts Always r && h r))
    where
      genuine : List ℕ → Bool
      genuine = is_genuine_permanode facts accepts

      stands : List ℕ → Bool
      stands r = not (is_deleted facts accepts Always r)

      kept : (t : List ℕ → Bool) → filter t live ≡ filter (λ r. genuine r && (stands r && t r)) (keys facts)
      kept t = filter_twice stands t (permanodes facts accepts) ∙ filter_twice genuine (λ r. stands r && t r) (keys facts)

      by : (g s b : Bool) → (g && (s && b)) ≡ (g && (s && ((g && s) && b)))
      by true true b = refl
      by true false b = refl
      by false s b = refl

  are_by_value : (at : Option ℤ) (attr value : Option (List ℕ)) (matches : Option TextTest) (num : Option IntTest) (in_set : Asked) (related : Related)
      → is_plain_test (permanode (record { at = at; attr = attr; value = value; value_matches = matches; num_value = num }) in_set related) ≡ true
      → AreAll (meets_tested facts accepts (permanode (record { at = at; attr = attr; value = value; value_matches = matches; num_value = num }) in_set related) Always)
      (holding facts accepts at attr value)
  are_by_value (Some date) attr value matches num in_set related h = tt
  are_by_value None None value matches num in_set related h = tt
  are_by_value None (Some name) None matches num in_set related h = tt
  are_by_value None (Some name) (Some value) (Some x) num in_set related h = absurd (false≢true h)
  are_by_value None (Some name) (Some value) None (Some x) in_set related h = absurd (false≢true h)
  are_by_value None (Some name) (Some value) None None (asked joined leaves tested) related h = absurd (false≢true h)
  are_by_value None (Some name) (Some value) None None not_asked (relation kin any all) h = absurd (false≢true h)
  are_by_value None (Some name) (Some value) None None not_asked no_relation h =
      live_alone (has_value facts accepts Always name value)
      ∙ sym (filter_same _ (λ r. is_live facts accepts Always r && has_value facts accepts Always name value r) (value_alone name value) live)

  no_other : (o : Held) → few_or_shorter o None ≡ o
  no_other None = refl
  no_other (Some refs) = elim (is_few (Some refs)) as (λ b. (if b then Some refs else Some refs) ≡ Some refs) [ true ↦ refl | false ↦ refl ]

  pub are_all : (c : Asked) → is_plain c ≡ true → AreAll (meets facts accepts c Always) (held facts accepts c)
  are_all not_asked h = absurd (false≢true h)
  are_all (asked (logical op a b) leaves tested) h = absurd (false≢true h)
  are_all (asked no_logical leaves no_permanode) h = tt
  are_all (asked no_logical leaves (permanode test in_set related)) h =
      let parts = and_parts (asks_nothing leaves) (is_plain_test (permanode test in_set related)) h in
      let m = meets_tested facts accepts (permanode test in_set related) Always in
      let met : m ≡ (λ r. (leaves_meet facts leaves r && true) && m r) =
      λ i r. (sym (nothing_asked leaves.anything leaves.camli_type leaves.blob_ref_prefix leaves.blob_size leaves.file r parts.0) i && true) && m r in
      subst (AreAll (meets facts accepts (asked no_logical leaves (permanode test in_set related)) Always)) (sym (no_other (held_by_test facts accepts (permanode test in_set related))))
      (subst (λ (t : List ℕ → Bool). AreAll t (held_by_test facts accepts (permanode test in_set related))) met
      (are_by_value test.at test.attr test.value test.value_matches test.num_value in_set related parts.1))

  -- ---- what a search finds among the refs

  among_at : (at : When) (c : Asked) (refs : List (List ℕ)) → Some refs ≡ held_at facts accepts at c
      → filter (λ r. meets facts accepts c at r && not (is_deleted facts accepts at r)) refs ≡ filter (meets facts accepts c at) (live_permanodes facts accepts at)
  among_at (At date) c refs e = absurd (let f : Some refs ≡ None = e in cc f)
  among_at Always c refs e =
      sym (filter_twice m stands refs) ∙ ap (filter stands) (subst (HasAll m) (sym e) (has_all c)) ∙ filter_twice m stands live
      ∙ filter_same (λ r. m r && stands r) (λ r. stands r && m r) (λ r. and_comm (m r) (stands r)) live
      ∙ sym (filter_twice stands m live) ∙ ap (filter m) again
    where
      m : List ℕ → Bool
      m = meets facts accepts c Always

      stands : List ℕ → Bool
      stands r = not (is_deleted facts accepts Always r)

      again : filter stands live ≡ live
      again = filter_twice stands stands (permanodes facts accepts) ∙ filter_same (λ r. stands r && stands r) stands (λ r. both (stands r)) (permanodes facts accepts)
        where
          both : (b : Bool) → (b && b) ≡ b
          both true = refl
          both false = refl

  plain_at : (at : When) (c : Asked) (refs : List (List ℕ)) → is_plain c ≡ true → Some refs ≡ held_at facts accepts at c
      → refs ≡ filter (meets facts accepts c at) (live_permanodes facts accepts at)
  plain_at (At date) c refs plain e = absurd (let f : Some refs ≡ None = e in cc f)
  plain_at Always c refs plain e = subst (AreAll (meets facts accepts c Always)) (sym e) (are_all c plain)

module _ (facts : Facts) (accepts : Accepts) (query : Query) (stop : Option ℕ) (refs now : List (List ℕ)) (e : Some refs ≡ held_at facts accepts query.at (view query.constraint)) where
  pub found_plain : is_plain (view query.constraint) ≡ true → now ≡ up_to stop refs → now ≡ up_to stop (found facts accepts query)
  found_plain plain is = is ∙ ap (up_to stop) (plain_at facts accepts query.at (view query.constraint) refs plain e)

  pub found_some : now ≡ up_to stop (filter (is_found facts accepts query) refs) → now ≡ up_to stop (found facts accepts query)
  found_some is = is ∙ ap (up_to stop) (among_at facts accepts query.at (view query.constraint) refs e)

-- ---- a query for a value

module _ (facts : Facts) (accepts : Accepts) (query : Query) (name value : List ℕ) (asks : AsksForValue query name value) where
  pub value_plain : is_plain (view query.constraint) ≡ true
  value_plain = ap is_plain asks.constraint

  pub value_steps : held_steps facts accepts (view query.constraint) ≡ 6 * (1 + length (holders facts accepts name value))
  value_steps = ap (held_steps facts accepts) asks.constraint ∙ omega arith

  pub value_held : held_at facts accepts query.at (view query.constraint) ≡ Some (holders facts accepts name value)
  value_held = (λ i. held_at facts accepts (asks.at i) (asks.constraint i)) ∙ no_other facts accepts (Some (holders facts accepts name value))

-- ---- the query that is made for a value

value_seen : (name value : List ℕ) → view (value_constraint name value) ≡ value_asked name value
unfolding out-Constraint out-PermanodeTest roll-Constraint roll-PermanodeTest denote.Hole.Carrier.out denote.Hole.Carrier.roll
value_seen name value =
    asked_out (value_constraint name value)
    ∙ ap (asked no_logical (record { anything = None; camli_type = None; blob_ref_prefix = None; blob_size = None; file = None })) (tested_out (roll-PermanodeTest (record {
      at = None;
      attr = Some name;
      value = Some value;
      value_matches = None;
      value_in_set = None;
      num_value = None;
      relation = None;
    })))

pub value_query_asks : (name value : List ℕ) → AsksForValue (value_query name value Always) name value
value_query_asks name value = record { constraint = value_seen name value; sort = refl; at = refl }
