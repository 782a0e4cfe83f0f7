-- What more facts leave of what the rows say.
use Rattle.std.proofs.Common.{◌≡◌, ℕ, ℤ, Bool, true, false, ◌&&◌, ◌||◌, List, Option, None, Some, option_and_then, option_map, refl, sym, ap, ◌∙◌, is_some}
use Rattle.std.specs.Prelude.{slice_get}
use Rattle.std.proofs.lemmas.Bool.{and_parts, false≢true, false_from_ne_true, or_right}
use Rattle.std.proofs.lemmas.Slice.Eq.{bytes_eq-Decides}
use Rattle.std.specs.List.{list_all, list_any}
use Rattle.std.specs.Option.{option_map_or}
use Rattle.std.specs.Str.{bytes_eq}
use Rattle.std.specs.FinMap.{get, contains_key, entries, len}
use Rattle.schema_date.specs.declared.date.When.{When}
use Rattle.schema_date.specs.declared.date.When.TheVariants.{Always}
use Rattle.schema_fact.specs.Dependencies.{dependencies}
use Rattle.schema_fact.specs.declared.kinds.Fact.{Fact}
use Rattle.schema_fact.specs.declared.kinds.What.{What}
use Rattle.claim_model.specs.Facts.{Facts, passes, is_permanode}
use Rattle.claim_model.specs.Ready.{is_ready}
use Rattle.claim_model.specs.Least.{IsWithin}
use Rattle.claim_model.specs.Deleted.{can_be_deleted, deletes as deletes_at}
use Rattle.schema_fact.specs.declared.changes.Change.{Change}
use Rattle.schema_fact.specs.Changes.{changes_of}
use Rattle.claim_model.specs.Changes.{gives}
use Rattle.claim_model.specs.Claims.{Moment}
use Rattle.claim_model.proofs.Rounds.{ready_is_settled}
use Rattle.claim_model.proofs.Least.{ready_grows}
use Rattle.claim_model.proofs.DeletedBy.{targets_come_first}
use Rattle.index_look.specs.Claims.{claim_says}
use Rattle.index_rows.specs.declared.rows.StateRow.{StateRow}
use Rattle.index_rows.specs.Pairs.{Pair, number}
use Rattle.index_rows.specs.Changes.{Changes, ChangeKey}
use Rattle.index_rows.specs.Deletes.{Deletes, IsDelete, Ringless, is_live, any_live, row_deleted}
use Rattle.index_rows.specs.States.{States, says_genuine}
use Rattle.index_rows.specs.Values.{change_at}
use Rattle.index_rows.specs.Holders.{says_permanode, is_given}
use Rattle.index_rows.proofs.Orders.{pair_total, pair_same, change_total, change_same}
use Rattle.index_rows.proofs.Deleting.{any-filter, any_entry, any_get, a_value, row_deleted_is, row_deletion_is_one}
use Rattle.index_meaning.specs.Steps.{RowsStayRingless, RowDeletionStays, IsGrown, HeldStays, RowsStayListed, HeldStaysWithFacts, IsAsBefore, RowsAreAsBefore, beside_readiness, OneHasArrived}
use Rattle.index_meaning.proofs.Said.{and_false}
use Rattle.index_meaning.proofs.Unconcerned.{unconcerned_stay, values_stay}

pub rows_stay_ringless : RowsStayRingless
rows_stay_ringless facts more deletes within ringless x d date h =
    let is = ringless x d date h in
    record {
      fact = is.fact;
      signed = is.signed;
      found = within d is.fact is.found;
      says = is.says;
      ready =
          ready_grows facts more within d is.ready;
    }

-- a fact that was there
pub fact_stays : (facts more : Facts) → IsWithin facts more → (r : List ℕ) → contains_key facts r ≡ true
    → get more r ≡ get facts r
fact_stays facts more within r h = by (get facts r) refl h
  where
    by : (o : Option Fact) → get facts r ≡ o → is_some o ≡ true → get more r ≡ get facts r
    by None e t = absurd (false≢true t)
    by (Some fact) e t = within r fact e ∙ sym e

-- ---- deletion

pub ready_known : (facts : Facts) (x : List ℕ) → is_ready facts x ≡ true → contains_key facts x ≡ true
ready_known facts x h = by (get facts x) (sym (ready_is_settled facts x) ∙ h)
  where
    by : (o : Option Fact) → passes (λ (fact : Fact). list_all (is_ready facts) (dependencies fact)) o ≡ true
        → is_some o ≡ true
    by None t = absurd (false≢true t)
    by (Some fact) t = refl

-- the target of a ready delete claim has a fact
pub target_known : (facts : Facts) (x d : List ℕ) (date : ℤ) → IsDelete facts x d date → contains_key facts x ≡ true
target_known facts x d date is =
    let says : deletes_at x Always is.fact.kind ≡ true = ap (deletes_at x Always) is.says
    ∙ (bytes_eq-Decides x x).1 refl in
    ready_known facts x (targets_come_first facts Always x d is.fact is.found says (len facts)
    (sym (ready_is_settled facts d) ∙ is.ready))

module _ (facts more : Facts) (deletes : Deletes) (within : IsWithin facts more) (ringless : Ringless facts deletes)
    (when : When) where
  abbrev gone : List ℕ → Bool
  gone x = row_deleted facts deletes when x

  some_row : (x : List ℕ) → any_live deletes when gone x None ≡ true → contains_key facts x ≡ true
  some_row x h =
      let all : list_any (λ (e : Pair × ℤ). bytes_eq x e.0.0 && true && is_live when gone e) (entries deletes) ≡ true
      = sym (any-filter (is_live when gone) (λ (e : Pair × ℤ). bytes_eq x e.0.0 && true) (entries deletes)) ∙ h in
      let e = any_entry pair_total pair_same (λ (e : Pair × ℤ). bytes_eq x e.0.0 && true
      && is_live when gone e) deletes all in
      let here = (and_parts (bytes_eq x e.0.0.0) true (and_parts (bytes_eq x e.0.0.0 && true)
      (is_live when gone e.0) e.2).0).0 in
      ap (contains_key facts) ((bytes_eq-Decides x e.0.0.0).0 here)
      ∙ target_known facts e.0.0.0 e.0.0.1 e.0.1 (ringless e.0.0.0 e.0.0.1 e.0.1 e.1)

  abbrev can : Option Fact → Bool
  can o = passes (λ (fact : Fact). can_be_deleted fact.kind) o

  still : (x : List ℕ) → gone x ≡ (can (get more x) && any_live deletes when gone x None)
  still x = row_deleted_is facts deletes ringless when x ∙ by (get facts x) refl
    where
      and_false : (b : Bool) → (b && false) ≡ false
      and_false true = refl
      and_false false = refl

      by : (o : Option Fact) → get facts x ≡ o
          → (can (get facts x) && any_live deletes when gone x None)
          ≡ (can (get more x) && any_live deletes when gone x None)
      by None is =
          ap (λ o. can o && any_live deletes when gone x None) is
          ∙ sym (ap (λ b. can (get more x) && b) (false_from_ne_true (any_live deletes when gone x None)
          (λ h. false≢true (sym (ap is_some is) ∙ some_row x h))) ∙ and_false (can (get more x)))
      by (Some fact) is = ap (λ o. can o && any_live deletes when gone x None) (is ∙ sym (within x fact is))

  stays : (x : List ℕ) → row_deleted more deletes when x ≡ row_deleted facts deletes when x
  stays x = sym
      (row_deletion_is_one more deletes (rows_stay_ringless facts more deletes within ringless) when gone still x)

pub row_deletion_stays : RowDeletionStays
row_deletion_stays = stays

-- ---- what is held

module _ (facts more : Facts) (within : IsWithin facts more) where
  abbrev change_in : Moment → Option Fact → Option Change
  change_in k o = option_and_then (λ (what : What). slice_get (changes_of what) k.2)
      (option_and_then (λ (fact : Fact). claim_says fact.kind) o)

  -- a change that was there
  same_change : (k : Moment) (test : Change → Bool) → passes test (change_at facts k) ≡ true
      → passes test (change_at more k) ≡ true
  same_change k test h = by (get facts k.1) refl h
    where
      by : (o : Option Fact) → get facts k.1 ≡ o → passes test (change_in k o) ≡ true
          → passes test (change_in k (get more k.1)) ≡ true
      by None is t = absurd (false≢true t)
      by (Some fact) is t = ap (λ o. passes test (change_in k o)) (within k.1 fact is) ∙ t

  module _ (before after : States) (changes listed : Changes)
      (grown : IsGrown facts more before after changes listed) where
    permanode_grows : (p : List ℕ) → says_permanode facts before p ≡ true → says_permanode more after p ≡ true
    permanode_grows p h =
        let test : Fact → Bool = λ (fact : Fact). is_permanode fact.kind in
        let parts = and_parts (passes test (get facts p)) (says_genuine before p) h in
        λ i. by test (get facts p) refl parts.0 i && grown.genuine p parts.1 i
      where
        by : (test : Fact → Bool) (o : Option Fact) → get facts p ≡ o → passes test o ≡ true
            → passes test (get more p) ≡ true
        by test None is t = absurd (false≢true t)
        by test (Some fact) is t = ap (passes test) (within p fact is) ∙ t

    given_grows : (name value p : List ℕ) → is_given facts changes name value p ≡ true
        → is_given more listed name value p ≡ true
    given_grows name value p h =
        let of_p : ChangeKey × Unit {0} → Bool = λ (e : ChangeKey × Unit {0}). bytes_eq p e.0.0 && true in
        let old : ChangeKey × Unit {0}
        → Bool = λ (e : ChangeKey × Unit {0}). passes (gives name value) (change_at facts e.0.1) in
        let new : ChangeKey × Unit {0}
        → Bool = λ (e : ChangeKey × Unit {0}). passes (gives name value) (change_at more e.0.1) in
        let e = any_entry change_total change_same (λ (e : ChangeKey × Unit {0}). of_p e && old e) changes
        (sym (any-filter old of_p (entries changes)) ∙ h) in
        let parts = and_parts (of_p e.0) (old e.0) e.2 in
        let here = (and_parts (bytes_eq p e.0.0.0) true parts.0).0 in
        let row = a_value (get listed e.0.0) (grown.rows e.0.0.0 e.0.0.1 (ap is_some e.1)) in
        any-filter new of_p (entries listed)
        ∙ any_get change_total change_same (λ (e : ChangeKey × Unit {0}). of_p e && new e) listed e.0.0 row.0 row.1
        (λ i. (here i && true) && same_change e.0.0.1 (gives name value) parts.1 i)

pub held_stays : HeldStays
held_stays but concerned facts more before after deletes entered changes listed holders was rows grown wider unconcerned = record {
  held = λ name value p h.
      was.held name value p (wider p h)
      ∙ sym (unconcerned_stay facts more before after deletes entered changes listed p grown.within rows
      (unconcerned p h) name value);
  times = λ name value p n h e.
      was.times name value p n (wider p h) e
      ∙ ap (number (bytes_eq value)) (values_stay facts more before after deletes entered changes listed p grown.within
      rows (unconcerned p h) (was.permanode name value p (ap is_some e)) name);
  permanode = λ name value p h. permanode_grows facts more grown.within before after changes listed grown p
      (was.permanode name value p h);
  given = λ name value p h. given_grows facts more grown.within before after changes listed grown name value p
      (was.given name value p h);
}

pub rows_stay_listed : RowsStayListed
rows_stay_listed facts more before after changes within grows rows p k h =
    let row = rows p k h in
    record {
      fact = row.fact;
      signed = row.signed;
      what = row.what;
      change = row.change;
      found = within k.1 row.fact row.found;
      says = row.says;
      place = row.place;
      on = row.on;
      genuine = grows k.1 row.genuine;
    }

module _ (before after : States) (is : IsAsBefore before after) where
  -- each ref is said to be genuine where it was
  pub genuine_as_before : (y : List ℕ) → says_genuine after y ≡ says_genuine before y
  genuine_as_before y = by (get after y) refl
    where
      absent : (o : Option StateRow) → get before y ≡ o → get after y ≡ None
          → false ≡ passes (λ (row : StateRow). row.genuine) o
      absent None found h = refl
      absent (Some row) found h = absurd (false≢true (sym (ap is_some h) ∙ is.counts.stays y (ap is_some found)))

      by : (o : Option StateRow) → get after y ≡ o → passes (λ (row : StateRow). row.genuine) o ≡ says_genuine before y
      by None h = absent (get before y) refl h
      by (Some row) h = is.genuine y row h

  -- a ref that is said to be genuine has a row
  row_there : (y : List ℕ) → says_genuine before y ≡ true → contains_key before y ≡ true
  row_there y h = by (get before y) h
    where
      by : (o : Option StateRow) → passes (λ (row : StateRow). row.genuine) o ≡ true → is_some o ≡ true
      by None h = absurd (false≢true h)
      by (Some row) h = refl

  module _ (facts more : Facts) (within : IsWithin facts more)
      (known : (y : List ℕ) → contains_key before y ≡ true → contains_key facts y ≡ true) where
    abbrev permanode : Option Fact → Bool
    permanode o = passes (λ (fact : Fact). is_permanode fact.kind) o

    same_permanode : (q : List ℕ) → says_permanode more after q ≡ says_permanode facts before q
    same_permanode q = ap (λ b. permanode (get more q) && b) (genuine_as_before q)
        ∙ by (says_genuine before q) (λ h. known q (row_there q h))
      where
        by : (b : Bool) → (b ≡ true → contains_key facts q ≡ true)
            → (permanode (get more q) && b) ≡ (permanode (get facts q) && b)
        by true h = ap (λ o. permanode o && true) (fact_stays facts more within q (h refl))
        by false h = and_false (permanode (get more q)) ∙ sym (and_false (permanode (get facts q)))

pub held_stays_with_facts : HeldStaysWithFacts
held_stays_with_facts but facts more before after deletes changes holders within ringless rows known is was =
    held_stays but but facts more before after deletes deletes changes changes holders was rows
    (record { within = within; genuine = λ y h. genuine_as_before before after is y ∙ h; rows = λ p k h. h }) (λ q h. h)
    (λ q h.
    record {
      permanode = same_permanode before after is facts more within known q;
      deleted = λ says. row_deletion_stays facts more deletes within ringless Always q;
      group = λ says k. refl;
      claims = λ says k there. row_deletion_stays facts more deletes within ringless Always k.1;
    })

-- ---- rows as before

pub rows_are_as_before : RowsAreAsBefore
rows_are_as_before state = record {
  counts = record {
    stays = λ y h. h;
    deleters = λ y row found. sym (ap (λ o. option_map_or (λ (r : StateRow). r.deleters) o 0) found);
  };
  genuine = λ y row found. sym (ap (passes (λ (r : StateRow). r.genuine)) found);
  sound = λ y row found. sym (ap (passes (λ (r : StateRow). r.sound)) found);
}

module _ (r : List ℕ) (before after : States) (absent : get before r ≡ None)
    (same : (y : List ℕ) → contains_key after y ≡ (bytes_eq y r || contains_key before y))
    (kept : (y : List ℕ) → bytes_eq y r ≡ false
    → option_map beside_readiness (get after y) ≡ option_map beside_readiness (get before y))
    (own : option_map beside_readiness (get after r) ≡ Some (false, false, 0)) where
  abbrev Told : Type 0
  Told = Bool × Bool × ℕ

  -- what is told of a row beside its readiness, where an empty row tells what none does
  told : {A : Type 0} (f : Option Told → A) → f (Some (false, false, 0)) ≡ f None → (y : List ℕ)
      → f (option_map beside_readiness (get after y)) ≡ f (option_map beside_readiness (get before y))
  told f empty y = by (bytes_eq y r) refl
    where
      by : (b : Bool) → bytes_eq y r ≡ b
          → f (option_map beside_readiness (get after y)) ≡ f (option_map beside_readiness (get before y))
      by true h =
          let here : y ≡ r = (bytes_eq-Decides y r).0 h in
          ap (λ x. f (option_map beside_readiness (get after x))) here ∙ ap f own ∙ empty
          ∙ sym (ap (λ o. f (option_map beside_readiness o)) (ap (get before) here ∙ absent))
      by false h = ap f (kept y h)

  genuine_told : (o : Option StateRow)
      → passes (λ (t : Told). t.0) (option_map beside_readiness o) ≡ passes (λ (row : StateRow). row.genuine) o
  genuine_told None = refl
  genuine_told (Some row) = refl

  sound_told : (o : Option StateRow) → passes (λ (t : Told). t.1) (option_map beside_readiness o)
      ≡ passes (λ (row : StateRow). row.sound) o
  sound_told None = refl
  sound_told (Some row) = refl

  deleters_told : (o : Option StateRow)
      → option_map_or (λ (t : Told). t.2) (option_map beside_readiness o) 0
      ≡ option_map_or (λ (row : StateRow). row.deleters) o 0
  deleters_told None = refl
  deleters_told (Some row) = refl

  as_before : IsAsBefore before after
  as_before = record {
    counts = record {
      stays = λ y h. same y ∙ or_right (bytes_eq y r) (contains_key before y) h;
      deleters = λ y row found.
          sym (ap (λ o. option_map_or (λ (t : Told). t.2) (option_map beside_readiness o) 0) found)
          ∙ told (λ o. option_map_or (λ (t : Told). t.2) o 0) refl y ∙ deleters_told (get before y);
    };
    genuine = λ y row found.
        sym (ap (λ o. passes (λ (t : Told). t.0) (option_map beside_readiness o)) found)
        ∙ told (passes (λ (t : Told). t.0)) refl y ∙ genuine_told (get before y);
    sound = λ y row found.
        sym (ap (λ o. passes (λ (t : Told). t.1) (option_map beside_readiness o)) found)
        ∙ told (passes (λ (t : Told). t.1)) refl y ∙ sound_told (get before y);
  }

pub one_has_arrived : OneHasArrived
one_has_arrived r before after absent same kept own = as_before r before after absent same kept own
