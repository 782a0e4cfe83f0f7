-- All facts are taken up, one after another.
use Rattle.std.proofs.Common.{◌≡◌, ◌<◌, ℕ, suc, Bool, true, false, ◌&&◌, ◌||◌, not, List, [], length, Option, Some}
use Rattle.std.proofs.Common.{None, is_some, refl, sym, ap, subst, ◌∙◌, ◌⊎◌, inl, inr, Ordering, arith, Result, Ok, Err}
use Rattle.std.proofs.Common.{OnOk}
use Rattle.std.proofs.lemmas.Bool.{cases_Bool, and_parts, false≢true}
use Rattle.std.proofs.lemmas.Slice.Eq.{bytes_eq-Decides}
use Rattle.std.specs.List.{list_any}
use Rattle.std.specs.Str.{bytes_eq}
use Rattle.std.specs.Ordering.{is_lt, ordering_reverse}
use Rattle.std.specs.declared.cmp.Ordering.TheVariants.{Less, Equal, Greater}
use Rattle.std.specs.FinMap.{get, empty, contains_key, entries, get-empty}
use Rattle.blobref.specs.Blobref.{ref_cmp, is_after}
use Rattle.claim_verify.specs.Verifier.{Accepts}
use Rattle.claim_model.specs.Facts.{Facts, Entry, passes}
use Rattle.claim_model.proofs.Least.{same_truth}
use Rattle.index_look.specs.Walk.{entries_after}
use Rattle.index_rows.specs.declared.rows.Rows.{Rows}
use Rattle.index_rows.specs.declared.rows.StateRow.{StateRow}
use Rattle.index_rows.specs.States.{States, says_genuine}
use Rattle.index_rows.proofs.Deleting.{any-filter, any_entry, any_get, a_value}
use Rattle.index_rows.proofs.Orders.{ref_total, ref_same}
use Rattle.index_meaning.proofs.Progressing.{nothing_is_taken_up, taken_up_is_at_rest}
use Rattle.index_meaning.proofs.Concerning.{none_is_held}
use Rattle.pending_deps.specs.Arriving.{IsNew}
use Rattle.claim_index.specs.Halfway.{IsHalfway, IsNext, IsTakenTo, Rests}
use Rattle.claim_index.proofs.Removed.{none_removed}
use Rattle.index_rows.proofs.LooseFacts.{in_order}

-- ---- tables without rows

abbrev facts_alone : Rows → Rows
facts_alone rows = record {
  facts = rows.facts;
  state = empty;
  waiters = empty;
  deletes = empty;
  changes = empty;
  removals = empty;
  holders = empty;
}

nothing_left : (accepts : Accepts) (rows : Rows) → IsHalfway accepts [] [] [] (facts_alone rows)
nothing_left accepts rows =
    let up = nothing_is_taken_up rows.facts.ordered accepts in
    record {
      waiting = up.waiting;
      counted = up.counted;
      judged = up.judged;
      changed = up.changed;
      deleted = up.deleted;
      claims = λ d t. absurd (false≢true t);
      once = tt;
      apart = λ d t. absurd (false≢true t);
      removals = none_removed rows.facts.ordered;
      held = none_is_held [] rows.facts.ordered empty empty empty
          (λ p t. absurd (false≢true (sym (unsaid p) ∙ (and_parts _ (says_genuine empty p) t).1)));
    }
  where
    unsaid : (p : List ℕ) → says_genuine empty p ≡ false
    unsaid p = ap (passes (λ (row : StateRow). row.genuine)) (get-empty ref_cmp p)

pub no_rows : (accepts : Accepts) (rows : Rows) → rows.state ≡ empty → rows.waiters ≡ empty → rows.deletes ≡ empty
    → rows.changes ≡ empty → rows.removals ≡ empty → rows.holders ≡ empty
    → IsHalfway accepts [] [] [] rows
no_rows accepts rows state waiters deletes changes removals holders = subst (IsHalfway accepts [] [] [])
    (λ i. record {
      facts = rows.facts;
      state = sym state i;
      waiters = sym waiters i;
      deletes = sym deletes i;
      changes
          = sym changes i;
      removals = sym removals i;
      holders = sym holders i;
    })
    (nothing_left accepts rows)

pub none_taken : (rows : Rows) → rows.state ≡ empty → IsTakenTo rows None
none_taken rows state y = ap (λ (m : States). contains_key m y) state ∙ ap is_some (get-empty ref_cmp y)
    ∙ sym (none (contains_key rows.facts.ordered y))
  where
    none : (b : Bool) → (b && false) ≡ false
    none true = refl
    none false = refl

-- ---- the walk

not_less : (o : Ordering) → o ≡ ordering_reverse o → is_lt o ≡ false
not_less Less e = absurd (let d : Less ≡ Greater = e in cc d)
not_less Equal e = refl
not_less Greater e = refl

not_behind : (r : List ℕ) → is_after (Some r) r ≡ false
not_behind r = not_less (ref_cmp r r) (ref_total.antisymm r r)

-- which refs stand behind one
behind : (facts : Facts) (last : Option (List ℕ)) (y : List ℕ)
    → list_any (λ (e : Entry). bytes_eq y e.0) (entries_after facts last) ≡ (contains_key facts y && is_after last y)
behind facts last y = any-filter (λ (e : Entry). bytes_eq y e.0) (λ (e : Entry). is_after last e.0) (entries facts)
    ∙ same_truth _ _ there back
  where
    test : Entry → Bool
    test e = is_after last e.0 && bytes_eq y e.0

    there : list_any test (entries facts) ≡ true → (contains_key facts y && is_after last y) ≡ true
    there h =
        let e = any_entry ref_total ref_same test facts h in
        let parts = and_parts (is_after last e.0.0) (bytes_eq y e.0.0) e.2 in
        let same = (bytes_eq-Decides y e.0.0).0 parts.1 in
        λ i. (ap (contains_key facts) same ∙ ap is_some e.1) i && (ap (is_after last) same ∙ parts.0) i

    back : (contains_key facts y && is_after last y) ≡ true → list_any test (entries facts) ≡ true
    back h =
        let parts = and_parts (contains_key facts y) (is_after last y) h in
        let value = a_value (get facts y) parts.0 in
        any_get ref_total ref_same test facts y value.0 value.1 (λ i. parts.1 i && (bytes_eq-Decides y y).1 refl i)

module _ (rows : Rows) (last : Option (List ℕ)) (r : List ℕ) (next : IsNext rows.facts.ordered last r)
    (taken : IsTakenTo rows last) where
  -- r is behind the last one, and what else is, is behind r
  split : (y : List ℕ) → (contains_key rows.facts.ordered y && is_after last y)
      ≡ (bytes_eq y r || (contains_key rows.facts.ordered y && is_after (Some r) y))
  split y = sym (behind rows.facts.ordered last y) ∙ ap (list_any (λ (e : Entry). bytes_eq y e.0)) next.rest
      ∙ ap (λ b. bytes_eq y r || b) (behind rows.facts.ordered (Some r) y)

  own_parts : (contains_key rows.facts.ordered r ≡ true) × (is_after last r ≡ true)
  own_parts = and_parts (contains_key rows.facts.ordered r) (is_after last r)
      (split r ∙ ap (λ b. b || (contains_key rows.facts.ordered r && is_after (Some r) r))
      ((bytes_eq-Decides r r).1 refl))

  pub next_is_new : IsNew rows.facts.ordered rows.state r
  next_is_new =
      let found = a_value (get rows.facts.ordered r) own_parts.0 in
      record {
        fact = found.0;
        found = found.1;
        absent = lacking (get rows.state r)
            (taken r ∙ (λ i. own_parts.0 i && not (own_parts.1 i)));
      }
    where
      lacking : (o : Option StateRow) → is_some o ≡ false → o ≡ None
      lacking None h = refl
      lacking (Some row) h = absurd (false≢true (sym h))

  pub taken_to_next : (new : Rows) → new.facts ≡ rows.facts → ((y : List ℕ)
      → contains_key new.state y ≡ (bytes_eq y r || contains_key rows.state y)) → IsTakenTo new (Some r)
  taken_to_next new facts came y =
      came y ∙ ap (λ b. bytes_eq y r || b) (taken y) ∙ by (cases_Bool (bytes_eq y r))
      ∙ ap (λ (f : Facts). contains_key f y && not (is_after (Some r) y)) (sym (in_order facts))
    where
      goal_at : Bool → Type 0
      goal_at b = (b || (contains_key rows.facts.ordered y && not (is_after last y)))
          ≡ (contains_key rows.facts.ordered y && not (is_after (Some r) y))

      other : (c a b : Bool) → (c && a) ≡ (false || (c && b)) → (c && not a) ≡ (c && not b)
      other true a b e = ap not e
      other false a b e = refl

      by : (bytes_eq y r ≡ true) ⊎ (bytes_eq y r ≡ false) → goal_at (bytes_eq y r)
      by (inl t) =
          let same = (bytes_eq-Decides y r).0 t in
          subst goal_at (sym t) (sym (λ i. (ap (contains_key rows.facts.ordered) same ∙ own_parts.0) i && not
          ((ap (is_after (Some r)) same ∙ not_behind r) i)))
      by (inr f) = subst goal_at (sym f) (other (contains_key rows.facts.ordered y) (is_after last y)
          (is_after (Some r) y)
          (split y ∙ ap (λ b. b || (contains_key rows.facts.ordered y && is_after (Some r) y)) f))

  pub fewer_left : length (entries_after rows.facts.ordered (Some r)) < length (entries_after rows.facts.ordered last)
  fewer_left = let e : length (entries_after rows.facts.ordered last) ≡ suc
      (length (entries_after rows.facts.ordered (Some r))) = ap length next.rest in omega (arith, e)

pub all_taken : (rows : Rows) (last : Option (List ℕ)) → entries_after rows.facts.ordered last ≡ []
    → IsTakenTo rows last → (y : List ℕ) → contains_key rows.state y ≡ contains_key rows.facts.ordered y
all_taken rows last none taken y = taken y ∙ by (contains_key rows.facts.ordered y) (is_after last y)
    (sym (behind rows.facts.ordered last y) ∙ ap (list_any (λ (e : Entry). bytes_eq y e.0)) none)
  where
    by : (c a : Bool) → (c && a) ≡ false → (c && not a) ≡ c
    by true a h = ap not h
    by false a h = refl

-- ---- the end

pub all_rests : (accepts : Accepts) (rows : Rows) → IsHalfway accepts [] [] [] rows
    → ((y : List ℕ) → contains_key rows.state y ≡ contains_key rows.facts.ordered y) → Rests accepts rows
all_rests accepts rows h all = record {
  tables = taken_up_is_at_rest rows.facts.ordered accepts rows.state rows.waiters rows.deletes rows.changes rows.holders
      (record {
        waiting = h.waiting;
        judged = h.judged;
        deleted = h.deleted;
        changed = h.changed;
        counted = h.counted;
      }) all h.held;
  removals = h.removals;
}

-- once what is left was done
pub rests_once : {T E : Type 0} (r : Result T E) (accepts : Accepts) (rows new : Rows) → new.facts ≡ rows.facts
    → ((y : List ℕ) → contains_key rows.state y ≡ contains_key rows.facts.ordered y)
    → OnOk r ((y : List ℕ) → contains_key new.state y ≡ contains_key rows.state y)
    → OnOk r (IsHalfway accepts [] [] [] new) → OnOk r (Rests accepts new)
rests_once (Ok x) accepts rows new facts all taken half = all_rests accepts new half
    (λ y. taken y ∙ all y ∙ ap (λ (f : Facts). contains_key f y) (sym (in_order facts)))
rests_once (Err e) accepts rows new facts all taken half = tt
