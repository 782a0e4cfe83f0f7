-- The rows of a genuine permanode give its values.
use Rattle.std.proofs.Common.{◌≡◌, ℕ, ℤ, Bool, true, false, not, ◌&&◌, cond, List, [], ◌∷◌, filter, map, Option, None}
use Rattle.std.proofs.Common.{Some, option_and_then, option_map, refl, sym, ap, ◌∙◌, is_some}
use Rattle.std.specs.Prelude.{slice_get}
use Rattle.std.proofs.lemmas.Bool.{and_parts, false≢true}
use Rattle.std.proofs.lemmas.Slice.Eq.{bytes_eq-Decides}
use Rattle.std.specs.List.{filter_map, cons_option, last_or, AllByRecursion}
use Rattle.std.specs.Str.{bytes_eq}
use Rattle.std.specs.Ordering.{is_eq, int_cmp}
use Rattle.std.specs.FinMap.{get, contains_key, entries}
use Rattle.claim_verify.specs.Verifier.{Accepts}
use Rattle.schema_date.specs.declared.date.When.{When}
use Rattle.schema_fact.specs.declared.kinds.Fact.{Fact}
use Rattle.schema_fact.specs.declared.kinds.Kind.{Kind}
use Rattle.schema_fact.specs.declared.kinds.Kind.TheVariants.{Plain, Key, File, Bytes, Directory, StaticSet, Permanode}
use Rattle.schema_fact.specs.declared.kinds.Kind.TheVariants.{Claim, Unread}
use Rattle.claim_model.specs.Facts.{Facts, passes}
use Rattle.claim_model.specs.Genuine.{is_genuine, is_genuine_permanode}
use Rattle.claim_model.specs.Deleted.{counts_at, is_deleted}
use Rattle.schema_fact.specs.declared.changes.Change.{Change}
use Rattle.schema_fact.specs.Changes.{changes_of}
use Rattle.claim_model.specs.Changes.{values_after}
use Rattle.claim_model.specs.Claims.{Moment, counted, values, last_change}
use Rattle.index_look.specs.Claims.{claim_says}
use Rattle.index_look.proofs.Keys.{entries_held}
use Rattle.index_rows.specs.Changes.{Changes, ChangeKey}
use Rattle.index_rows.specs.Deletes.{Deletes}
use Rattle.index_rows.specs.Values.{change_at, moment_counts, row_values, row_last_change}
use Rattle.index_rows.proofs.Orders.{moment_total, moment_same, change_total, change_same}
use Rattle.index_meaning.specs.Meaning.{IsDeletesOf, IsChangesOf, is_change_on, genuine_change}
use Rattle.index_meaning.specs.Laws.{RowsTellValues, RowsTellLastChange}
use Rattle.index_meaning.proofs.Deletions.{deletion}
use Rattle.index_meaning.proofs.Moments.{claim_change, change_there, counted_at}
use Rattle.index_rows.proofs.ByMark.{changes_part}
use Rattle.index_rows.proofs.Parts as parts

abbrev Row : Type 0
Row = ChangeKey × Unit {0}

-- ---- the changes of one permanode, under their moments

module _ (p : List ℕ) where
  abbrev of_p : ChangeKey → Bool
  of_p k = bytes_eq p k.0

  abbrev pub told : (Moment → Option Change) → List Row → List (Moment × Change)
  told tell = parts.told of_p (λ k. k.1) tell

  module _ (counts : Moment → Bool) (change : Moment → Option Change) where
    abbrev pub tells : Moment → Option Change
    tells k = cond (counts k) (change k) None

    abbrev moments : List Row → List Moment
    moments es = filter counts (map (λ e. e.0.1) (filter (λ e. bytes_eq p e.0.0 && true) es))

    first_moment : (e : Row) (es : List Row)
        → moments (e ∷ es) ≡ cond (bytes_eq p e.0.0) (cond (counts e.0.1) (e.0.1 ∷ moments es) (moments es))
        (moments es)
    first_moment e es = by (bytes_eq p e.0.0) (filter (λ (f : Row). bytes_eq p f.0.0 && true) es)
      where
        by : (b : Bool) (fs : List Row)
            → filter counts (map (λ (f : Row). f.0.1) (cond (b && true) (e ∷ fs) fs))
            ≡ cond b (cond (counts e.0.1) (e.0.1 ∷ filter counts (map (λ (f : Row). f.0.1) fs))
            (filter counts (map (λ (f : Row). f.0.1) fs))) (filter counts (map (λ (f : Row). f.0.1) fs))
        by true fs = refl
        by false fs = refl

    pub told_values : (es : List Row)
        → map (λ (c : Moment × Change). c.1) (told tells es) ≡ filter_map change (moments es)
    told_values [] = refl
    told_values (e ∷ es) = by (bytes_eq p e.0.0) (counts e.0.1) (told_values es)
        ∙ ap (filter_map change) (sym (first_moment e es))
      where
        given : (o : Option Change) (fs : List (Moment × Change))
            → map (λ (c : Moment × Change). c.1) (cons_option (option_map (λ c. (e.0.1, c)) o) fs)
            ≡ cons_option o (map (λ (c : Moment × Change). c.1) fs)
        given None fs = refl
        given (Some c) fs = refl

        by : (b c : Bool) → map (λ (c : Moment × Change). c.1) (told tells es) ≡ filter_map change (moments es)
            → map (λ (c : Moment × Change). c.1) (cons_option
            (cond b (option_map (λ c. (e.0.1, c)) (cond c (change e.0.1) None)) None) (told tells es))
            ≡ filter_map change (cond b (cond c (e.0.1 ∷ moments es) (moments es)) (moments es))
        by true true h = given (change e.0.1) (told tells es) ∙ ap (cons_option (change e.0.1)) h
        by true false h = h
        by false c h = h

    -- a moment has its change, where it is one of p
    abbrev HasChange : Row → Type 0
    HasChange e = bytes_eq p e.0.0 ≡ true → is_some (change e.0.1) ≡ true

    pub told_dates : (es : List Row) → AllByRecursion HasChange es
        → map (λ (c : Moment × Change). c.0.0) (told tells es) ≡ map (λ (k : Moment). k.0) (moments es)
    told_dates [] had = refl
    told_dates (e ∷ es) had = by (bytes_eq p e.0.0) (counts e.0.1) had.0 (told_dates es had.1)
        ∙ ap (map (λ (k : Moment). k.0)) (sym (first_moment e es))
      where
        given : (o : Option Change) (fs : List (Moment × Change)) → is_some o ≡ true
            → map (λ (c : Moment × Change). c.0.0) (cons_option (option_map (λ c. (e.0.1, c)) o) fs)
            ≡ e.0.1.0 ∷ map (λ (c : Moment × Change). c.0.0) fs
        given None fs h = absurd (false≢true h)
        given (Some c) fs h = refl

        by : (b c : Bool) → (b ≡ true → is_some (change e.0.1) ≡ true)
            → map (λ (c : Moment × Change). c.0.0) (told tells es) ≡ map (λ (k : Moment). k.0) (moments es)
            → map (λ (c : Moment × Change). c.0.0) (cons_option
            (cond b (option_map (λ c. (e.0.1, c)) (cond c (change e.0.1) None)) None) (told tells es))
            ≡ map (λ (k : Moment). k.0) (cond b (cond c (e.0.1 ∷ moments es) (moments es)) (moments es))
        by true true f h = given (change e.0.1) (told tells es) (f refl) ∙ ap (λ (ds : List ℤ). e.0.1.0 ∷ ds) h
        by true false f h = h
        by false c f h = h

  -- ---- the rows that a permanode has

  abbrev pub row_tells : Facts → Deletes → When → Moment → Option Change
  row_tells facts deletes when = tells (moment_counts facts deletes when) (change_at facts)

  pub values_told : (facts : Facts) (deletes : Deletes) (changes : Changes) (when : When) (name : List ℕ)
      → row_values facts deletes changes when p name ≡ values_after name
      (map (λ (c : Moment × Change). c.1) (told (row_tells facts deletes when) (entries changes)))
  values_told facts deletes changes when name =
      ap (values_after name) (sym (told_values (moment_counts facts deletes when) (change_at facts) (entries changes)))

  -- where two tables tell the same changes of p, they tell the same values
  pub same_values : (facts more : Facts) (deletes entered : Deletes) (changes listed : Changes) (when : When)
      (name : List ℕ)
      → ((k : Moment) → cond (contains_key changes (p, k)) (row_tells facts deletes when k) None
      ≡ cond (contains_key listed (p, k)) (row_tells more entered when k) None)
      → row_values facts deletes changes when p name ≡ row_values more entered listed when p name
  same_values facts more deletes entered changes listed when name h =
      values_told facts deletes changes when name
      ∙ ap (λ (es : List (Moment × Change)). values_after name (map (λ (c : Moment × Change). c.1) es))
      (parts.same_told moment_total moment_same (changes_part p) (row_tells facts deletes when)
      (row_tells more entered when) changes listed h)
      ∙ sym (values_told more entered listed when name)

-- ---- the rows of the genuine claims

agree : (g d dated counts on : Bool) (o : Option Change)
    → cond (g && not d) (cond (dated && counts) (cond on o None) None) None
    ≡ cond (g && (dated && on) && true) (cond (counts && not d) o None) None
agree true true true true true o = refl
agree true true true true false o = refl
agree true true true false true o = refl
agree true true true false false o = refl
agree true true false true on o = refl
agree true true false false on o = refl
agree true false true true true o = refl
agree true false true true false o = refl
agree true false true false true o = refl
agree true false true false false o = refl
agree true false false counts on o = refl
agree false d dated counts on o = refl

nothing : {A : Type 0} (a g : Bool) (o : Option A) → cond a None None ≡ cond (g && false && true) o None
nothing true true o = refl
nothing true false o = refl
nothing false true o = refl
nothing false false o = refl

module _ (facts : Facts) (accepts : Accepts) (deletes : Deletes) (changes : Changes)
    (deleted : IsDeletesOf facts accepts deletes) (changed : IsChangesOf facts accepts [] changes)
    (when : When) (p : List ℕ) where
  module _ (q : Moment) where
    g : Bool
    g = is_genuine facts accepts q.1

    abbrev there : Option Fact → Option Change
    there o = option_and_then (λ (what : _). slice_get (changes_of what) q.2)
        (option_and_then (λ (fact : Fact). claim_says fact.kind) o)

    abbrev Agrees : Option Fact → Type 0
    Agrees o =
        cond (is_genuine facts accepts q.1 && not (is_deleted facts accepts when q.1))
        (change_there p when q facts accepts o) None
        ≡ cond (is_genuine facts accepts q.1 && passes (λ (fact : Fact). is_change_on p q fact.kind) o && true)
        (cond (counts_at when q.0 && not (is_deleted facts accepts when q.1)) (there o) None) None

    kinds : (size : ℕ) (kind : Kind) → Agrees (Some (record { size = size; kind = kind }))
    kinds size Plain = nothing (is_genuine facts accepts q.1 && not (is_deleted facts accepts when q.1))
        (is_genuine facts accepts q.1) _
    kinds size (Key name) =
        nothing (is_genuine facts accepts q.1 && not (is_deleted facts accepts when q.1))
        (is_genuine facts accepts q.1) _
    kinds size (File name list) =
        nothing (is_genuine facts accepts q.1 && not (is_deleted facts accepts when q.1))
        (is_genuine facts accepts q.1) _
    kinds size (Bytes list) =
        nothing (is_genuine facts accepts q.1 && not (is_deleted facts accepts when q.1))
        (is_genuine facts accepts q.1) _
    kinds size (Directory name listing) =
        nothing (is_genuine facts accepts q.1 && not (is_deleted facts accepts when q.1))
        (is_genuine facts accepts q.1) _
    kinds size (StaticSet members) =
        nothing (is_genuine facts accepts q.1 && not (is_deleted facts accepts when q.1))
        (is_genuine facts accepts q.1) _
    kinds size (Permanode signed) =
        nothing (is_genuine facts accepts q.1 && not (is_deleted facts accepts when q.1))
        (is_genuine facts accepts q.1) _
    kinds size (Claim signed date what) =
        ap (λ o. cond (is_genuine facts accepts q.1 && not (is_deleted facts accepts when q.1)) o None)
        (claim_change p when q signed date what)
        ∙ agree (is_genuine facts accepts q.1) (is_deleted facts accepts when q.1) (is_eq (int_cmp q.0 date))
        (counts_at when q.0)
        (passes (λ (c : Change). bytes_eq p c.on) (slice_get (changes_of what) q.2)) (slice_get (changes_of what) q.2)
    kinds size (Unread name) =
        nothing (is_genuine facts accepts q.1 && not (is_deleted facts accepts when q.1))
        (is_genuine facts accepts q.1) _

    agrees : (o : Option Fact) → Agrees o
    agrees None = nothing (is_genuine facts accepts q.1 && not (is_deleted facts accepts when q.1))
        (is_genuine facts accepts q.1) _
    agrees (Some fact) = kinds fact.size fact.kind

    same_change : is_genuine_permanode facts accepts p ≡ true
        → get (counted facts accepts when p) q ≡ cond (contains_key changes (p, q))
        (row_tells p facts deletes when q) None
    same_change genuine =
        counted_at p when q facts accepts genuine ∙ agrees (get facts q.1)
        ∙ (λ i. cond (sym (changed p q) i) (cond (counts_at when q.0
        && not (sym (deletion facts accepts deletes deleted when q.1) i)) (change_at facts q) None) None)

  listed : is_genuine_permanode facts accepts p ≡ true
      → told p (row_tells p facts deletes when) (entries changes) ≡ entries (counted facts accepts when p)
  listed genuine =
      parts.entries_told moment_total moment_same (changes_part p) (row_tells p facts deletes when) changes
      (counted facts accepts when p) (λ q. same_change q genuine)

  values_are : (name : List ℕ) → is_genuine_permanode facts accepts p ≡ true
      → row_values facts deletes changes when p name ≡ values facts accepts when p name
  values_are name genuine =
      values_told p facts deletes changes when name
      ∙ ap (λ (es : List (Moment × Change)). values_after name (map (λ (c : Moment × Change). c.1) es))
      (listed genuine)

  -- a row has a change
  passed : {A : Type 0} (test : A → Bool) (o : Option A) → passes test o ≡ true → is_some o ≡ true
  passed test None h = absurd (false≢true h)
  passed test (Some x) h = refl

  some_change : (k : Moment) (kind : Kind) → is_change_on p k kind ≡ true
      → is_some (option_and_then (λ what. slice_get (changes_of what) k.2) (claim_says kind)) ≡ true
  some_change k Plain h = absurd (false≢true h)
  some_change k (Key name) h = absurd (false≢true h)
  some_change k (File name list) h = absurd (false≢true h)
  some_change k (Bytes list) h = absurd (false≢true h)
  some_change k (Directory name listing) h = absurd (false≢true h)
  some_change k (StaticSet members) h = absurd (false≢true h)
  some_change k (Permanode signed) h = absurd (false≢true h)
  some_change k (Claim signed date what) h =
      let test : Change → Bool = λ (c : Change). bytes_eq p c.on in
      passed test (slice_get (changes_of what) k.2) (and_parts (is_eq (int_cmp k.0 date))
      (passes test (slice_get (changes_of what) k.2)) h).1
  some_change k (Unread name) h = absurd (false≢true h)

  changed_there : (k : Moment) (o : Option Fact) → passes (λ (fact : Fact). is_change_on p k fact.kind) o ≡ true
      → is_some (option_and_then (λ what. slice_get (changes_of what) k.2)
      (option_and_then (λ (fact : Fact). claim_says fact.kind) o)) ≡ true
  changed_there k None h = absurd (false≢true h)
  changed_there k (Some fact) h = some_change k fact.kind h

  has_change : (e : Row) → get changes e.0 ≡ Some e.1 → bytes_eq p e.0.0 ≡ true → is_some (change_at facts e.0.1) ≡ true
  has_change e held h =
      let there : contains_key changes (p, e.0.1) ≡ true =
      ap (λ y. contains_key changes (y, e.0.1)) ((bytes_eq-Decides p e.0.0).0 h) ∙ ap is_some held in
      let genuine : genuine_change facts accepts p e.0.1 ≡ true =
      (and_parts (genuine_change facts accepts p e.0.1) true (sym (changed p e.0.1) ∙ there)).0 in
      changed_there e.0.1 (get facts e.0.1.1) (and_parts (is_genuine facts accepts e.0.1.1)
      (passes (λ (fact : Fact). is_change_on p e.0.1 fact.kind) (get facts e.0.1.1)) genuine).1

  all_have : (es : List Row) → AllByRecursion (λ (e : Row). get changes e.0 ≡ Some e.1) es
      → AllByRecursion (HasChange p (moment_counts facts deletes when) (change_at facts)) es
  all_have [] held = tt
  all_have (e ∷ es) held = (has_change e held.0, all_have es held.1)

  last_is : is_genuine_permanode facts accepts p ≡ true
      → row_last_change facts deletes changes when p ≡ last_change facts accepts when p
  last_is genuine =
      ap (last_or None) (sym (told_dates p (moment_counts facts deletes when) (change_at facts) (entries changes)
      (all_have (entries changes) (entries_held change_total change_same changes))))
      ∙ ap (λ (es : List (Moment × Change)). last_or None (map (λ (c : Moment × Change). c.0.0) es)) (listed genuine)

pub rows_tell_values : RowsTellValues
rows_tell_values facts accepts deletes changes deleted changed when p name genuine =
    values_are facts accepts deletes changes deleted changed when p name genuine

pub rows_tell_last_change : RowsTellLastChange
rows_tell_last_change facts accepts deletes changes deleted changed when p genuine =
    last_is facts accepts deletes changes deleted changed when p genuine
