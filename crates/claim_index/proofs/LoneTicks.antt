-- The steps for a claim that adds one value, if nothing depends on it and no later change may take the value away.
use Rattle.std.proofs.Common.{◌≡◌, ◌≤◌, ◌+◌, ◌*◌, ℕ, Bool, true, false, ◌&&◌, ◌||◌, not, cond, List, [], ◌∷◌, ◌++◌}
use Rattle.std.proofs.Common.{length, filter, map, flat_map, Option, Some, None, option_and_then, is_some, refl, sym}
use Rattle.std.proofs.Common.{ap, subst, ◌∙◌, ◌⊎◌, inl, inr, arith}
use Rattle.std.specs.Prelude.{◌==◌, slice_get}
use Rattle.std.proofs.lemmas.Bool.{and_parts, and_from, false≢true, cases_Bool}
use Rattle.std.proofs.lemmas.Slice.Eq.{bytes_eq-Decides}
use Rattle.std.specs.List.{list_all, list_any, AllByRecursion}
use Rattle.std.specs.Ordering.{is_lt}
use Rattle.std.specs.Str.{bytes_eq}
use Rattle.std.specs.Cmp.{eq_by_cmp_equiv}
use Rattle.std.specs.FinMap.{get, insert, get-insert, contains_key, entries, keys, same_map, get-retain_keys}
use Rattle.schema_fact.specs.Changes.{changes_of}
use Rattle.schema_fact.specs.Dependencies.{dependencies, kind_dependencies}
use Rattle.schema_fact.specs.declared.changes.Act.TheVariants.{Add as adds}
use Rattle.schema_fact.specs.declared.changes.Change.{Change}
use Rattle.schema_fact.specs.declared.kinds.Fact.{Fact}
use Rattle.schema_fact.specs.declared.kinds.Kind.{Kind}
use Rattle.schema_fact.specs.declared.kinds.What.{What}
use Rattle.claim_verify.specs.Verifier.{Accepts}
use Rattle.claim_model.specs.Claims.{Moment, moment_cmp}
use Rattle.claim_model.specs.Facts.{Entry, Facts, passes}
use Rattle.claim_model.specs.Genuine.{is_signed}
use Rattle.claim_model.specs.Least.{IsClosed}
use Rattle.claim_model.specs.Ready.{is_ready}
use Rattle.claim_model.proofs.Least.{ready_is_closed, ready_is_least}
use Rattle.index_look.specs.Claims.{claim_says}
use Rattle.index_look.proofs.Keys.{entries_held}
use Rattle.index_rows.specs.declared.rows.Rows.{Rows}
use Rattle.index_rows.specs.Pairs.{number}
use Rattle.index_rows.specs.Removals.{RemovalKey, AreRemovals, has_mark, is_under, mark_of, removals_after}
use Rattle.index_rows.specs.States.{States}
use Rattle.index_rows.specs.Touched.{becomes, became, needs_of, fact_needs, namings, changes_in, fact_changes}
use Rattle.index_rows.specs.Touched.{kind_changes}
use Rattle.index_rows.specs.Values.{change_at}
use Rattle.index_rows.specs.Waiting.{Waiters, arrived}
use Rattle.index_rows.proofs.Arrived.{get-arrived}
use Rattle.index_rows.proofs.Counting.{bit}
use Rattle.index_rows.proofs.Orders.{ref_total, ref_same, removal_total, removal_same}
use Rattle.index_rows.proofs.RemovalWalks.{same_number}
use Rattle.index_rows.proofs.Sums.{number_length, rows_within, sum_ones}
use Rattle.index_meaning.specs.Meaning.{genuine_change, IsChangesOf}
use Rattle.index_meaning.proofs.Arriving.{all_have_arrived}
use Rattle.pending_deps.specs.Arriving.{arrived_with, arrival_steps, HasArrived}
use Rattle.claim_index.specs.Additions.{may_take, AddsAlone, IsAddedAlone, IsFree, IsNoWork}
use Rattle.claim_index.specs.Costs.{put_steps, judge_steps, finish_steps, freed, all_concerned, may_concern, AddsFor}
use Rattle.claim_index.specs.Costs.{AreTaken, IsCovered}
use Rattle.claim_index.specs.Following.{kind_change}
use Rattle.claim_index.specs.Halfway.{taken}
use Rattle.claim_index.specs.Judging.{is_signed_at, kind_judged, judged_in, fact_judged}
use Rattle.claim_index.specs.declared.judging.Judged.TheVariants as judged
use Rattle.claim_index.proofs.Concerned.{eq_is}
use Rattle.claim_index.proofs.LoopTicks.{or_cases, left, right}
use Rattle.claim_index.proofs.TakeTicks.{alone_among, freed_sum}
use Rattle.claim_index.proofs.TouchedSum.{out_filter}

module _ (facts : Facts) (accepts : Accepts) (r : List ℕ) (it : IsAddedAlone facts accepts r) where
  -- ---- it is judged

  one_need : length (needs_of facts r) ≡ length (it.alone.signed.signer ∷ [])
  one_need = ap (λ (o : Option Fact). length (fact_needs o)) it.found
      ∙ ap (λ (k : Kind). length (kind_dependencies k)) it.alone.says

  abbrev its_change : Change
  its_change = record { on = it.alone.on; act = adds; attr = it.alone.attr; value = it.alone.value }

  one_change : length (changes_in facts r) ≡ length (its_change ∷ [])
  one_change = ap (λ (o : Option Fact). length (fact_changes o)) it.found
      ∙ ap (λ (k : Kind). length (kind_changes k)) it.alone.says

  one_put : put_steps facts accepts r ≤ 1
  one_put = by (is_signed_at facts accepts r)
    where
      by : (b : Bool) → cond b (length (changes_in facts r)) 0 ≤ 1
      by true = let e = one_change in omega (arith, e)
      by false = omega arith

  pub judge_few : judge_steps facts accepts r ≤ 8
  judge_few = let e = one_need in let p = one_put in omega (arith, e, p)

  judged_as : judged_in facts accepts r ≡ cond (is_signed facts accepts it.fact) judged.Changes judged.Nothing
  judged_as = ap (fact_judged facts accepts) it.found
      ∙ ap (λ (k : Kind). cond (is_signed facts accepts it.fact) (kind_judged k) judged.Nothing) it.alone.says

  pub no_delete : judged_in facts accepts r ≡ judged.Delete → ⊥
  no_delete is = by (is_signed facts accepts it.fact) (sym judged_as ∙ is)
    where
      by : (b : Bool) → cond b judged.Changes judged.Nothing ≡ judged.Delete → ⊥
      by true e = let d : judged.Changes ≡ judged.Delete = e in cc d
      by false e = let d : judged.Nothing ≡ judged.Delete = e in cc d

  pub no_permanode : judged_in facts accepts r ≡ judged.Permanode → ⊥
  no_permanode is = by (is_signed facts accepts it.fact) (sym judged_as ∙ is)
    where
      by : (b : Bool) → cond b judged.Changes judged.Nothing ≡ judged.Permanode → ⊥
      by true e = let d : judged.Changes ≡ judged.Permanode = e in cc d
      by false e = let d : judged.Nothing ≡ judged.Permanode = e in cc d

  -- ---- it alone becomes ready

  module _ (state : States)
      (others : (y : List ℕ) → contains_key facts y ≡ (bytes_eq y r || contains_key state y)) where
    abbrev before : Facts
    before = arrived facts state

    own : (o : Option Fact) → cond (is_some o) o None ≡ o
    own None = refl
    own (Some fact) = refl

    all_with : arrived_with facts state r ≡ facts
    all_with = same_map ref_total ref_same _ _ (λ y.
        get-retain_keys facts (λ x. bytes_eq x r || contains_key state x) y
        (λ x t. ap (λ z. bytes_eq z r || contains_key state z) (sym (ref_same y x t)))
        ∙ ap (λ b. cond b (get facts y) None) (sym (others y)) ∙ own (get facts y))

    was_there : (y : List ℕ) → bytes_eq y r ≡ false → get before y ≡ get facts y
    was_there y apart = get-arrived facts state y
        ∙ ap (λ b. cond b (get facts y) None) (sym (others y ∙ ap (λ b. b || contains_key state y) apart))
        ∙ own (get facts y)

    abbrev ready_or_it : List ℕ → Bool
    ready_or_it y = is_ready before y || bytes_eq y r

    abbrev test : List ℕ → Bool
    test y = becomes (is_ready before) facts y

    or_first : (a b : Bool) → (a || b) ≡ false → a ≡ false
    or_first true b e = e
    or_first false b e = refl

    or_second : (a b : Bool) → (a || b) ≡ false → b ≡ false
    or_second true b e = absurd (false≢true (sym e))
    or_second false b e = e

    turn : (d : List ℕ) → bytes_eq d r ≡ true → bytes_eq r d ≡ true
    turn d t = (bytes_eq-Decides r d).1 (sym ((bytes_eq-Decides d r).0 t))

    none_it : (ds : List (List ℕ)) → list_any (bytes_eq r) ds ≡ false → list_all ready_or_it ds ≡ true
        → list_all (is_ready before) ds ≡ true
    none_it [] n t = refl
    none_it (d ∷ ds) n t =
        let parts = and_parts (ready_or_it d) (list_all ready_or_it ds) t in
        and_from (is_ready before d) (list_all (is_ready before) ds) (by (or_cases _ _ parts.0))
        (none_it ds (or_second (bytes_eq r d) (list_any (bytes_eq r) ds) n) parts.1)
      where
        by : (is_ready before d ≡ true) ⊎ (bytes_eq d r ≡ true) → is_ready before d ≡ true
        by (inl e) = e
        by (inr e) = absurd (false≢true (sym (or_first (bytes_eq r d) (list_any (bytes_eq r) ds) n) ∙ turn d e))

    closed : IsClosed facts ready_or_it
    closed y h = by (cases_Bool (bytes_eq y r))
      where
        go : (o : Option Fact) → passes (λ (f : Fact). list_any (bytes_eq r) (dependencies f)) o ≡ false
            → passes (λ (f : Fact). list_all ready_or_it (dependencies f)) o ≡ true
            → passes (λ (f : Fact). list_all (is_ready before) (dependencies f)) o ≡ true
        go None n t = absurd (false≢true t)
        go (Some fact) n t = none_it (dependencies fact) n t

        by : (bytes_eq y r ≡ true) ⊎ (bytes_eq y r ≡ false) → ready_or_it y ≡ true
        by (inl e) = right (is_ready before y) e
        by (inr f) = left (bytes_eq y r) (ready_is_closed before y
            (ap (passes (λ (fact : Fact). list_all (is_ready before) (dependencies fact))) (was_there y f)
            ∙ go (get facts y) (it.alone.unnamed y) h))

    only : (y : List ℕ) → test y ≡ true → bytes_eq y r ≡ true
    only y t = go (or_cases _ _ (ready_is_least facts ready_or_it closed y parts.0))
      where
        parts : (is_ready facts y ≡ true) × (not (is_ready before y) ≡ true)
        parts = and_parts (is_ready facts y) (not (is_ready before y)) t

        go : (is_ready before y ≡ true) ⊎ (bytes_eq y r ≡ true) → bytes_eq y r ≡ true
        go (inl e) = absurd (false≢true (sym (ap not e) ∙ parts.1))
        go (inr e) = e

    abbrev fresh : List (List ℕ)
    fresh = became (is_ready before) facts

    fresh_count : (es : List Entry) → length (filter test (map (λ (e : Entry). e.0) es))
        ≡ number (λ (e : Entry). test e.0) es
    fresh_count [] = refl
    fresh_count (e ∷ es) = by (test e.0) (fresh_count es)
      where
        by : (b : Bool) → length (filter test (map (λ (e : Entry). e.0) es)) ≡ number (λ (e : Entry). test e.0) es
            → length (cond b (e.0 ∷ filter test (map (λ (e : Entry). e.0) es))
            (filter test (map (λ (e : Entry). e.0) es))) ≡ bit b + number (λ (e : Entry). test e.0) es
        by true h = omega (arith, h)
        by false h = omega (arith, h)

    one_fresh : length fresh ≤ 1
    one_fresh =
        let w = rows_within ref_total ref_same facts (λ (e : Entry). test e.0) (r ∷ [])
        (λ k v found t. left false (eq_is k r ∙ only k t)) in
        let c = fresh_count (entries facts) in
        omega (arith, w, c)

    no_namings : namings facts test ≡ []
    no_namings = go (entries facts) (entries_held ref_total ref_same facts)
      where
        none : (ds : List (List ℕ)) → list_any (bytes_eq r) ds ≡ false → filter test ds ≡ []
        none [] n = refl
        none (d ∷ ds) n = by (test d) refl
            (none ds (or_second (bytes_eq r d) (list_any (bytes_eq r) ds) n))
          where
            by : (b : Bool) → test d ≡ b → filter test ds ≡ [] → cond b (d ∷ filter test ds) (filter test ds) ≡ []
            by true q m = absurd (false≢true (sym (or_first (bytes_eq r d) (list_any (bytes_eq r) ds) n)
                ∙ turn d (only d q)))
            by false q m = m

        go : (es : List Entry) → AllByRecursion (λ (e : Entry). get facts e.0 ≡ Some e.1) es
            → flat_map (λ (e : Entry). map (λ (d : List ℕ). e.0) (filter test (dependencies e.1))) es ≡ []
        go [] all = refl
        go (e ∷ es) all =
            ap (λ (xs : List (List ℕ)). map (λ (d : List ℕ). e.0) xs
            ++ flat_map (λ (e : Entry). map (λ (d : List ℕ). e.0) (filter test (dependencies e.1))) es)
            (none (dependencies e.1)
            (sym (ap (passes (λ (f : Fact). list_any (bytes_eq r) (dependencies f))) all.0) ∙ it.alone.unnamed e.0))
            ∙ go es all.1

    pub arrival_few : arrival_steps facts state r ≤ 6
    arrival_few =
        let e = one_need in let f = one_fresh in
        let n : length (namings facts test) ≡ 0 = ap (λ (xs : List (List ℕ)). length xs) no_namings in
        let s : arrival_steps facts state r
        ≡ 2 + 3 * length (needs_of facts r) + length fresh + 4 * length (namings facts test)
        = ap (λ (f : Facts). 2 + 3 * length (needs_of facts r) + length (became (is_ready before) f)
        + 4 * length (namings f (becomes (is_ready before) f))) all_with in
        omega (arith, e, f, n, s)

    freed_is : freed facts state r ≡ fresh
    freed_is = ap (λ (f : Facts). became (is_ready before) f) all_with

    pub freed_few : length (freed facts state r) ≤ 1
    freed_few = let f = one_fresh in let e = ap (λ (xs : List (List ℕ)). length xs) freed_is in omega (arith, f, e)

    pub freed_only : (y : List ℕ) → list_any (bytes_eq y) (freed facts state r) ≡ true → y ≡ r
    freed_only y t =
        let there = ap (list_any (bytes_eq y)) (sym freed_is) ∙ t in
        (bytes_eq-Decides y r).0 (only y (out_filter test y (keys facts) there).1)

-- ---- its change is followed

module _ (accepts : Accepts) (rows : Rows) (x : List ℕ) (it : IsAddedAlone rows.facts.ordered accepts x)
    (all : AreTaken rows) (changed : IsChangesOf (taken rows) accepts [] rows.changes)
    (removed : AreRemovals rows.facts.ordered rows.changes rows.removals) where
  abbrev facts : Facts
  facts = rows.facts.ordered

  is_taken : taken rows ≡ facts
  is_taken = all_have_arrived facts rows.state all

  abbrev moment : Moment
  moment = (it.alone.date, x, 0)

  abbrev change : Change
  change = record { on = it.alone.on; act = adds; attr = it.alone.attr; value = it.alone.value }

  module _ (mark : ℕ)
      (takes : (c : Change) → has_mark mark c ≡ true → may_take it.alone.attr it.alone.value c ≡ true) where
    said : (k : Moment) (o : Option Change) → change_at facts k ≡ o → genuine_change facts accepts it.alone.on k ≡ true
        → is_lt (moment_cmp moment k) ≡ true → passes (has_mark mark) o ≡ true → ⊥
    said k None is genuine later t = false≢true t
    said k (Some c) is genuine later t = false≢true (sym (it.alone.kept k c genuine is later) ∙ takes c t)

    none_there : (k : RemovalKey) → contains_key rows.removals k ≡ true
        → (is_under it.alone.on mark k && is_lt (moment_cmp moment k.2)) ≡ true → ⊥
    none_there k there t =
        let parts = and_parts (is_under it.alone.on mark k) (is_lt (moment_cmp moment k.2)) t in
        let key = and_parts (bytes_eq it.alone.on k.0) (k.1 == mark) parts.0 in
        let p_is : it.alone.on ≡ k.0 = (bytes_eq-Decides it.alone.on k.0).0 key.0 in
        let m_is : mark ≡ k.1 = sym (same_number k.1 mark key.1) in
        let row : contains_key rows.removals (it.alone.on, mark, k.2) ≡ true
        = (λ i. contains_key rows.removals (p_is i, m_is i, k.2)) ∙ there in
        let both = and_parts (contains_key rows.changes (it.alone.on, k.2))
        (passes (has_mark mark) (change_at facts k.2)) (sym (removed it.alone.on mark k.2) ∙ row) in
        let own = and_parts (genuine_change (taken rows) accepts it.alone.on k.2) (not (list_any (bytes_eq k.2.1) []))
        (sym (changed it.alone.on k.2) ∙ both.0) in
        said k.2 (change_at facts k.2) refl
        (ap (λ (f : Facts). genuine_change f accepts it.alone.on k.2) (sym is_taken) ∙ own.0) parts.1 both.1

    none_under : length (removals_after rows.removals it.alone.on mark moment) ≡ 0
    none_under =
        let w = rows_within removal_total removal_same rows.removals
        (λ (e : RemovalKey × Unit {0}). is_under it.alone.on mark e.0 && is_lt (moment_cmp moment e.0.2)) []
        (λ k v found t. absurd (none_there k (ap is_some found) t)) in
        let n = number_length
        (λ (e : RemovalKey × Unit {0}). is_under it.alone.on mark e.0 && is_lt (moment_cmp moment e.0.2))
        (entries rows.removals) in
        omega (arith, w, n)

  pub free : IsFree facts rows.removals x
  free =
      let one = none_under (mark_of it.alone.attr [])
      (λ c t. left (has_mark (mark_of it.alone.attr it.alone.value) c) t) in
      let two = none_under (mark_of it.alone.attr it.alone.value)
      (λ c t. right (has_mark (mark_of it.alone.attr []) c) t) in
      record {
        on = it.alone.on;
        moment = moment;
        change = change;
        says = ap (option_and_then (λ (fact : Fact). kind_change x fact.kind)) it.found
            ∙ ap (kind_change x) it.alone.says;
        found = ap (λ (o : Option Fact). option_and_then (λ (what : What). slice_get (changes_of what) 0)
            (option_and_then (λ (f : Fact). claim_says f.kind) o)) it.found
            ∙ ap (λ (kind : Kind). option_and_then (λ (what : What). slice_get (changes_of what) 0) (claim_says kind))
            it.alone.says;
        act = refl;
        none = omega (arith, one, two);
      }

-- ---- what became ready as it arrived

module _ (facts : Facts) (accepts : Accepts) (r : List ℕ) (it : IsAddedAlone facts accepts r) (before after : States)
    (waiters : Waiters) (others : (y : List ℕ) → contains_key facts y ≡ (bytes_eq y r || contains_key before y))
    (order : List (List ℕ)) (has : HasArrived facts before after waiters r order) where
  pub order_few : length order ≤ 1
  order_few =
      let s = freed_sum facts before after waiters r order has (λ y. 1) in
      let l = sum_ones order in let m = sum_ones (freed facts before r) in
      let f = freed_few facts accepts r it before others in
      omega (arith, s, l, m, f)

  pub order_only : (x : List ℕ) → x ∷ [] ≡ order → x ≡ r
  order_only x same =
      freed_only facts accepts r it before others x (alone_among facts before after waiters r order has x same)

pub none_left : (xs : List (List ℕ)) → length xs ≤ 1 → (length xs ≡ 1 → ⊥) → xs ≡ []
none_left [] le several = refl
none_left (x ∷ []) le several = absurd (several (omega arith))
none_left (x ∷ y ∷ xs) le several = absurd (omega (arith, le))

-- ---- no work is left

empty : (xs : List (List ℕ)) → ((y : List ℕ) → list_any (bytes_eq y) xs ≡ true → false ≡ true) → xs ≡ []
empty [] h = refl
empty (x ∷ xs) h = absurd (false≢true (h x (left (list_any (bytes_eq x) xs) ((bytes_eq-Decides x x).1 refl))))

module _ (facts : Facts) (accepts : Accepts) (ds cs : List (List ℕ)) (none : IsNoWork ds cs) where
  pub still_idle : (order ds' cs' : List (List ℕ)) → order ≡ [] → AddsFor facts accepts order ds ds' cs cs'
      → IsNoWork ds' cs'
  still_idle order ds' cs' is more = record {
    none_deleted = empty ds' (λ d t.
        sym (λ i. list_any (bytes_eq d) (none.none_deleted i) || list_any (bytes_eq d) (is i)) ∙ more.deletes d t);
    none_concerned = empty cs' (λ p t. sym (λ i. list_any (bytes_eq p) (none.none_concerned i)
        || list_any (bytes_eq p) (may_concern facts (is_signed_at facts accepts) (is i))) ∙ more.concerned p t);
  }

  none_concerns : (p : List ℕ) → list_any (bytes_eq p) (all_concerned facts accepts ds cs) ≡ true → ⊥
  none_concerns p t = false≢true (sym (λ i. list_any (bytes_eq p)
      (all_concerned facts accepts (none.none_deleted i) (none.none_concerned i))) ∙ t)

  pub none_covered : IsCovered facts accepts (all_concerned facts accepts ds cs) [] []
  none_covered = record {
    permanodes = λ p is t. absurd (none_concerns p t);
    each = λ p t. absurd (none_concerns p t);
  }

  pub finishes_at_once : finish_steps facts accepts ds [] [] ≡ 0
  finishes_at_once =
      let e = ap (λ (xs : List (List ℕ)). finish_steps facts accepts xs [] []) none.none_deleted in omega (arith, e)

-- ---- it was put

pub added_alone : (accepts : Accepts) (facts put : Facts) (r : List ℕ) (fact : Fact) → put ≡ insert facts r fact
    → AddsAlone (insert facts r fact) accepts r fact → IsAddedAlone put accepts r
added_alone accepts facts put r fact is alone = record {
  fact = fact;
  found = ap (λ (f : Facts). get f r) is ∙ own_insert;
  alone = subst (λ (f : Facts). AddsAlone f accepts r fact) (sym is) alone;
}
  where
    own_insert : get (insert facts r fact) r ≡ Some fact
    own_insert = get-insert ref_total facts r fact r
        ∙ ap (λ b. cond b (Some fact) (get facts r)) ((eq_by_cmp_equiv ref_total).refl r)
