-- The walks over the changes of a permanode, and what they leave.
use Rattle.std.proofs.Common.{◌≡◌, ◌<◌, ◌+◌, ℕ, zero, suc, get_or, Bool, true, false, not, ◌&&◌, cond, List, [], ◌∷◌}
use Rattle.std.proofs.Common.{◌++◌, map, filter, fold}
use Rattle.std.proofs.Common.{Option, Some, None, IfSome, IfNone, is_some, length, refl, sym, ap, subst, ◌∙◌, ℤ}
use Rattle.std.proofs.Common.{option_and_then, arith}
use Rattle.std.proofs.Math.Bool.{and-false}
use Rattle.std.proofs.lemmas.List.{append-nil}
use Rattle.std.proofs.lemmas.Bool.{and_parts, cond-true, cond-false}
use Rattle.std.proofs.lemmas.List.Elements.{filter-append}
use Rattle.std.proofs.lemmas.List.Sums.{sum_by-cons}
use Rattle.std.specs.List.{filter_map, cons_option, last_or, list_any, sum_by, AllByRecursion}
use Rattle.std.proofs.lemmas.Slice.Eq.{bytes_eq-Decides}
use Rattle.std.specs.Ordering.{is_lt}
use Rattle.std.specs.Str.{bytes_eq}
use Rattle.std.specs.FinMap.{get, entries, contains_key}
use Rattle.blobref.specs.Blobref.{is_after}
use Rattle.schema_date.specs.declared.date.When.{When}
use Rattle.schema_fact.specs.declared.kinds.Fact.{Fact}
use Rattle.schema_fact.specs.declared.changes.Change.{Change}
use Rattle.claim_model.specs.Facts.{Facts, Entry, passes}
use Rattle.claim_model.specs.Changes.{change_values}
use Rattle.claim_model.specs.Claims.{Moment, moment_cmp}
use Rattle.claim_model.specs.Deleted.{can_be_deleted, counts_at}
use Rattle.index_look.specs.Claims.{values_with}
use Rattle.index_look.specs.Walk.{entries_after}
use Rattle.index_look.proofs.Entries.{entries_had}
use Rattle.index_look.proofs.Keys.{entries_held}
use Rattle.index_rows.specs.Changes.{Changes, ChangeKey, changes_after, changes_before, is_until, moments_to}
use Rattle.index_rows.specs.Changes.{moments_until}
use Rattle.index_rows.specs.Deletes.{Deletes, Ringless, is_live, row_deleted}
use Rattle.index_rows.specs.Pairs.{group_after}
use Rattle.index_rows.specs.States.{States}
use Rattle.index_rows.specs.Values.{change_at, moment_counts, row_last_change, IsChange}
use Rattle.index_rows.proofs.Deleting.{row_deleted_is}
use Rattle.index_rows.proofs.DeletionEnds.{all_filter}
use Rattle.index_rows.proofs.Groups.{filter-filter}
use Rattle.index_rows.proofs.Orders.{change_total, change_same}
use Rattle.index_rows.proofs.WalksBack.{all_last, all_passing}
use Rattle.row_answers.specs.Moments.{moment_values, claim_date}

-- ---- over facts

-- the next entry of a walk is one of the map
pub walk_had : (facts : Facts) (o : Option (List ℕ)) (r : List ℕ) (fact : Fact) (rest : List Entry)
    → entries_after facts o ≡ (r, fact) ∷ rest → get facts r ≡ Some fact
walk_had facts o r fact rest h =
    let all = all_filter (λ (e : Entry). get facts e.0
    ≡ Some e.1) (λ (e : Entry). is_after o e.0) (entries facts) (entries_had facts) in
    let here : AllByRecursion (λ (e : Entry). (get facts e.0 ≡ Some e.1) × (is_after o e.0
    ≡ true)) ((r, fact) ∷ rest) = rw h at all in
    here.0.0

-- ---- over lists

-- what holds of all holds of the one at a place
pub one_of : {A : Type 0} (P : A → Type 0) (xs : List A) (i : ℕ) (d : A) → i < length xs → AllByRecursion P xs
    → P (get_or xs i d)
one_of P [] i d less h = absurd (omega (arith, less))
one_of P (x ∷ xs) zero d less h = h.0
one_of P (x ∷ xs) (suc i) d less h = one_of P xs i d (omega (arith, less)) h.1

-- ---- a claim without delete claims

pub none_deletes : (facts : Facts) (deletes : Deletes) → Ringless facts deletes → (when : When) (x : List ℕ)
    → group_after deletes x None ≡ [] → row_deleted facts deletes when x ≡ false
none_deletes facts deletes ringless when x h =
    row_deleted_is facts deletes ringless when x
    ∙ ap (λ es. passes (λ fact. can_be_deleted fact.kind) (get facts x)
    && list_any (is_live when (row_deleted facts deletes when)) es) h
    ∙ and-false (passes (λ fact. can_be_deleted fact.kind) (get facts x))

-- ---- the moments up to a time

abbrev Row : Type 0
Row = ChangeKey × Unit {0}

module _ (changes : Changes) (when : When) (p : List ℕ) where
  -- they are those of all moments that are dated so
  pub until_is : moments_until changes when p
      ≡ filter (λ k. counts_at when k.0) (map (λ e. e.0.1) (changes_after changes p None))
  until_is = each (entries changes)
    where
      each : (es : List Row) → map (λ (e : Row). e.0.1) (filter (λ (e : Row). is_until when p e.0) es)
          ≡ filter (λ (k : Moment). counts_at when k.0)
          (map (λ (e : Row). e.0.1) (filter (λ (e : Row). bytes_eq p e.0.0 && true) es))
      each [] = refl
      each (e ∷ es) = by (bytes_eq p e.0.0) (each es)
        where
          these : List Row
          these = filter (λ (d : Row). is_until when p d.0) es

          all : List Row
          all = filter (λ (d : Row). bytes_eq p d.0.0 && true) es

          one : (c : Bool) → map (λ (d : Row). d.0.1) these
              ≡ filter (λ (k : Moment). counts_at when k.0) (map (λ (d : Row). d.0.1) all)
              → map (λ (d : Row). d.0.1) (cond c (e ∷ these) these)
              ≡ cond c (e.0.1 ∷ filter (λ (k : Moment). counts_at when k.0) (map (λ (d : Row). d.0.1) all))
              (filter (λ (k : Moment). counts_at when k.0) (map (λ (d : Row). d.0.1) all))
          one true h = ap (λ ks. e.0.1 ∷ ks) h
          one false h = h

          by : (b : Bool) → map (λ (d : Row). d.0.1) these
              ≡ filter (λ (k : Moment). counts_at when k.0) (map (λ (d : Row). d.0.1) all)
              → map (λ (d : Row). d.0.1) (cond (b && counts_at when e.0.1.0) (e ∷ these) these)
              ≡ filter (λ (k : Moment). counts_at when k.0) (map (λ (d : Row). d.0.1) (cond (b && true) (e ∷ all) all))
          by true h = one (counts_at when e.0.1.0) h
          by false h = h

  -- each of them has a row
  pub until_rows : AllByRecursion (λ k. contains_key changes (p, k) ≡ true) (moments_until changes when p)
  until_rows = each (filter (λ (e : Row). is_until when p e.0) (entries changes))
      (all_filter (λ (e : Row). get changes e.0 ≡ Some e.1) (λ (e : Row). is_until when p e.0) (entries changes)
      (entries_held change_total change_same changes))
    where
      each : (es : List Row)
          → AllByRecursion (λ (e : Row). (get changes e.0 ≡ Some e.1) × (is_until when p e.0 ≡ true)) es
          → AllByRecursion (λ (k : Moment). contains_key changes (p, k) ≡ true) (map (λ (e : Row). e.0.1) es)
      each [] h = tt
      each (e ∷ es) h =
          let of_p = (and_parts (bytes_eq p e.0.0) (counts_at when e.0.1.0) h.0.1).0 in (
            ap (λ (q : List ℕ). contains_key changes (q, e.0.1)) ((bytes_eq-Decides p e.0.0).0 of_p)
                ∙ ap is_some h.0.0,
            each es h.1,
          )

  pub last_row : (o : Option Moment) → moments_until changes when p ≡ moments_to changes p o
      → IfSome o (λ k. contains_key changes (p, k) ≡ true)
  last_row None h = tt
  last_row (Some k) h = all_last (λ j. contains_key changes (p, j) ≡ true)
      (map (λ (e : Row). e.0.1) (changes_before changes p k)) k
      (subst (AllByRecursion (λ j. contains_key changes (p, j) ≡ true)) h until_rows)

-- ---- back from the last of them

module _ (changes : Changes) (p : List ℕ) where
  map-append : (xs : List Row) (x : Row)
      → map (λ (e : Row). e.0.1) (xs ++ x ∷ []) ≡ map (λ (e : Row). e.0.1) xs ++ x.0.1 ∷ []
  map-append [] x = refl
  map-append (y ∷ ys) x = ap (λ ms. y.0.1 ∷ ms) (map-append ys x)

  -- those before one are those up to the one before
  pub before_is : (k : Moment) (o : Option Moment)
      → IfSome o (λ j. changes_before changes p k ≡ changes_before changes p j ++ ((p, j), tt) ∷ [])
      → IfNone o (changes_before changes p k ≡ [])
      → map (λ e. e.0.1) (changes_before changes p k) ≡ moments_to changes p o
  before_is k None some none = ap (map (λ (e : Row). e.0.1)) none
  before_is k (Some j) some none = ap (map (λ (e : Row). e.0.1)) some
      ∙ map-append (changes_before changes p j) ((p, j), tt)

  -- and the one before has a row
  pub before_row : (k : Moment) (o : Option Moment)
      → IfSome o (λ j. changes_before changes p k ≡ changes_before changes p j ++ ((p, j), tt) ∷ [])
      → IfSome o (λ j. contains_key changes (p, j) ≡ true)
  before_row k None some = tt
  before_row k (Some j) some = ap is_some
      (all_last (λ (e : Row). get changes e.0 ≡ Some e.1) (changes_before changes p j) ((p, j), tt)
      (subst (AllByRecursion (λ (e : Row). get changes e.0 ≡ Some e.1)) some
      (all_passing (λ (e : Row). get changes e.0 ≡ Some e.1)
      (λ (e : Row). bytes_eq p e.0.0 && is_lt (moment_cmp e.0.1 k)) (entries changes)
      (entries_held change_total change_same changes))))

  module _ (facts : Facts) (deletes : Deletes) (when : When) where
    abbrev pub stays : Moment → Bool
    stays k = not (row_deleted facts deletes when k.1)

    -- the date of the last moment up to one whose claim isn't deleted
    abbrev pub last_date : Option Moment → Option ℤ
    last_date o = last_or None (map (λ k. k.0) (filter stays (moments_to changes p o)))

    -- from the last one of all on it is that of the last change
    pub first_date : (o : Option Moment) → moments_until changes when p ≡ moments_to changes p o
        → last_date o ≡ row_last_change facts deletes changes when p
    first_date o h = ap (λ ks. last_or None (map (λ (k : Moment). k.0) ks))
        (ap (filter stays) (sym h ∙ until_is changes when p)
        ∙ filter-filter stays (λ (k : Moment). counts_at when k.0)
        (map (λ (e : Row). e.0.1) (changes_after changes p None)))

    -- if its claim is deleted, it is that of the one before
    pub date_before : (k : Moment) (o : Option Moment)
        → map (λ e. e.0.1) (changes_before changes p k) ≡ moments_to changes p o
        → row_deleted facts deletes when k.1 ≡ true → last_date (Some k) ≡ last_date o
    date_before k o h gone = ap (λ ks. last_or None (map (λ (k : Moment). k.0) ks))
        (filter-append stays (map (λ (e : Row). e.0.1) (changes_before changes p k)) (k ∷ [])
        ∙ (λ i. filter stays (h i) ++ cond (not (gone i)) (k ∷ []) [])
        ∙ append-nil (filter stays (moments_to changes p o)))

    -- and else its own
    pub date_here : (k : Moment) → row_deleted facts deletes when k.1 ≡ false → last_date (Some k) ≡ Some k.0
    date_here k not_gone = ap (λ ks. last_or None (map (λ (k : Moment). k.0) ks))
        (filter-append stays (map (λ (e : Row). e.0.1) (changes_before changes p k)) (k ∷ [])
        ∙ (λ i. filter stays (map (λ (e : Row). e.0.1) (changes_before changes p k))
        ++ cond (not (not_gone i)) (k ∷ []) []))
        ∙ last_of None (filter stays (map (λ (e : Row). e.0.1) (changes_before changes p k)))
      where
        last_of : (o : Option ℤ) (ks : List Moment) → last_or o (map (λ (j : Moment). j.0) (ks ++ k ∷ [])) ≡ Some k.0
        last_of o [] = refl
        last_of o (j ∷ js) = last_of (Some j.0) js

-- ---- the date of a moment

module _ (facts : Facts) (state : States) (p : List ℕ) (k : Moment) (is : IsChange facts state p k) where
  pub date_is : option_and_then (λ (fact : Fact). claim_date fact.kind) (get facts k.1) ≡ Some k.0
  date_is = ap (option_and_then (λ (fact : Fact). claim_date fact.kind)) is.found ∙ ap claim_date is.says

-- ---- forward over them

module _ (facts : Facts) (deletes : Deletes) (when : When) where
  abbrev gone : Moment → Bool
  gone k = row_deleted facts deletes when k.1

  abbrev stands : Moment → Bool
  stands = moment_counts facts deletes when

  -- what the walk leaves is what the changes that count leave
  pub folded : (name : List ℕ) (found : List (List ℕ)) (ks : List Moment)
      → fold (moment_values facts deletes when name) found (filter (λ k. counts_at when k.0) ks)
      ≡ fold (change_values name) found (filter_map (change_at facts) (filter stands ks))
  folded name found [] = refl
  folded name found (k ∷ ks) = by (counts_at when k.0) (gone k) refl (λ xs. folded name xs ks)
    where
      rest : List Moment
      rest = filter (λ k. counts_at when k.0) ks

      left : List Moment
      left = filter stands ks

      one : (o : Option Change)
          → (xs : (ys : List (List ℕ))
          → fold (moment_values facts deletes when name) ys rest
          ≡ fold (change_values name) ys (filter_map (change_at facts) left))
          → fold (moment_values facts deletes when name) (values_with name found o) rest
          ≡ fold (change_values name) found (cons_option o (filter_map (change_at facts) left))
      one None more = more found
      one (Some c) more = more (change_values name found c)

      by : (c g : Bool) → gone k ≡ g
          → (xs : (ys : List (List ℕ))
          → fold (moment_values facts deletes when name) ys rest
          ≡ fold (change_values name) ys (filter_map (change_at facts) left))
          → fold (moment_values facts deletes when name) found (cond c (k ∷ rest) rest)
          ≡ fold (change_values name) found (filter_map (change_at facts) (cond (c && not (gone k)) (k ∷ left) left))
      by false g is more = more found
      by true true is more =
          ap (λ ys. fold (moment_values facts deletes when name) ys rest)
          (cond-true (gone k) found (values_with name found (change_at facts k)) is)
          ∙ more found
          ∙ ap (λ ms. fold (change_values name) found (filter_map (change_at facts) ms))
          (sym (cond-false (not (gone k)) (k ∷ left) left (ap not is)))
      by true false is more =
          ap (λ ys. fold (moment_values facts deletes when name) ys rest)
          (cond-false (gone k) found (values_with name found (change_at facts k)) is)
          ∙ one (change_at facts k) more
          ∙ ap (λ ms. fold (change_values name) found (filter_map (change_at facts) ms))
          (sym (cond-true (not (gone k)) (k ∷ left) left (ap not is)))

-- ---- the steps of the moments that are still to come

module _ {A : Type 0} (cost less : A → ℕ) (one_less : (x : A) → cost x ≡ 1 + less x) where
  pub sum_less : (xs : List A) → sum_by cost xs ≡ length xs + sum_by less xs
  sum_less [] = refl
  sum_less (x ∷ xs) =
      let one = sum_by-cons cost x xs in
      let other = sum_by-cons less x xs in
      let first = one_less x in
      let more = sum_less xs in
      omega (arith, one, other, first, more)
