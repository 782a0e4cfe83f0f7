-- The rows of the changes that may take values away stay right.
use Rattle.std.proofs.Common.{◌≡◌, ℕ, Bool, true, false, ◌&&◌, ◌||◌, List, Option, None, Some, refl, sym, ap, ◌∙◌, ◌⊎◌}
use Rattle.std.proofs.Common.{inl, inr, is_some, option_and_then, slice_get}
use Rattle.std.proofs.lemmas.Bool.{cases_Bool}
use Rattle.std.proofs.lemmas.Slice.Eq.{bytes_eq-Decides}
use Rattle.std.specs.Str.{bytes_eq}
use Rattle.std.specs.Ordering.{is_eq, int_cmp}
use Rattle.std.specs.FinMap.{get, contains_key, empty, get-empty}
use Rattle.claim_verify.specs.Verifier.{Accepts}
use Rattle.schema_fact.specs.Changes.{changes_of}
use Rattle.schema_fact.specs.declared.changes.Change.{Change}
use Rattle.schema_fact.specs.declared.kinds.Fact.{Fact}
use Rattle.schema_fact.specs.declared.kinds.Kind.{Kind}
use Rattle.schema_fact.specs.declared.kinds.Kind.TheVariants.{Plain, Key, File, Bytes, Directory, StaticSet, Permanode}
use Rattle.schema_fact.specs.declared.kinds.Kind.TheVariants.{Claim, Unread}
use Rattle.claim_model.specs.Facts.{Facts, passes}
use Rattle.claim_model.specs.Least.{IsWithin}
use Rattle.claim_model.specs.Claims.{Moment}
use Rattle.index_look.specs.Claims.{claim_says}
use Rattle.index_meaning.specs.Meaning.{is_change_on}
use Rattle.index_rows.specs.Changes.{Changes, change_cmp}
use Rattle.index_rows.specs.Removals.{AreRemovals, Removals, has_mark, removal_cmp}
use Rattle.index_rows.specs.States.{States}
use Rattle.index_rows.specs.Values.{change_at, IsListed}
use Rattle.claim_index.specs.Judging.{is_removal_on, is_signed_at, IsChanged, HasRemovals}

-- ---- no rows

pub none_removed : (facts : Facts) → AreRemovals facts empty empty
none_removed facts p mark k =
    ap is_some (get-empty removal_cmp (p, mark, k))
    ∙ sym (ap (λ b. b && passes (has_mark mark) (change_at facts k)) (ap is_some (get-empty change_cmp (p, k))))

pub removed_without : (facts : Facts) (changes : Changes) (removals : Removals) → changes ≡ empty → removals ≡ empty
    → AreRemovals facts changes removals
removed_without facts changes removals none lacks p mark k =
    ap (λ (m : Removals). contains_key m (p, mark, k)) lacks
    ∙ none_removed facts p mark k
    ∙ sym (ap (λ (m : Changes). contains_key m (p, k) && passes (has_mark mark) (change_at facts k)) none)

-- ---- more facts

module _ (facts more : Facts) (within : IsWithin facts more) (state : States) (changes : Changes) (removals : Removals)
    (listed : IsListed facts state changes) (are : AreRemovals facts changes removals) where
  abbrev change_in : Option Fact → ℕ → Option Change
  change_in o place = option_and_then (λ what. slice_get (changes_of what) place)
      (option_and_then (λ fact. claim_says fact.kind) o)

  pub still_removals : AreRemovals more changes removals
  still_removals p mark k = are p mark k ∙ by (cases_Bool (contains_key changes (p, k)))
    where
      by : (contains_key changes (p, k) ≡ true) ⊎ (contains_key changes (p, k) ≡ false)
          → (contains_key changes (p, k) && passes (has_mark mark) (change_at facts k))
          ≡ (contains_key changes (p, k) && passes (has_mark mark) (change_at more k))
      by (inr f) =
          ap (λ b. b && passes (has_mark mark) (change_at facts k)) f
          ∙ sym (ap (λ b. b && passes (has_mark mark) (change_at more k)) f)
      by (inl t) =
          let is = listed p k t in
          ap (λ (o : Option Fact). contains_key changes (p, k) && passes (has_mark mark) (change_in o k.2))
          (is.found ∙ sym (within k.1 is.fact is.found))

-- ---- one claim more

module _ (facts : Facts) (accepts : Accepts) (x : List ℕ) (p : List ℕ) (mark : ℕ) (k : Moment) where
  abbrev has : Bool
  has = passes (has_mark mark) (change_at facts k)

  abbrev on_it : Bool
  on_it = passes (λ (fact : Fact). is_change_on p k fact.kind) (get facts x)

  abbrev takes_it : Bool
  takes_it = passes (λ (fact : Fact). is_removal_on p mark k fact.kind) (get facts x)

  one_takes : (o : Option Change) → passes (λ (c : Change). bytes_eq p c.on && has_mark mark c) o
      ≡ (passes (λ (c : Change). bytes_eq p c.on) o && passes (has_mark mark) o)
  one_takes None = refl
  one_takes (Some c) = refl

  kind_takes : (kind : Kind) → is_removal_on p mark k kind
      ≡ (is_change_on p k kind && passes (has_mark mark) (option_and_then (λ what. slice_get (changes_of what) k.2)
      (claim_says kind)))
  kind_takes Plain = refl
  kind_takes (Key name) = refl
  kind_takes (File name parts) = refl
  kind_takes (Bytes parts) = refl
  kind_takes (Directory name listing) = refl
  kind_takes (StaticSet members) = refl
  kind_takes (Permanode signed) = refl
  kind_takes (Claim signed date what) =
      ap (λ b. is_eq (int_cmp k.0 date) && b) (one_takes (slice_get (changes_of what) k.2))
      ∙ joined (is_eq (int_cmp k.0 date)) (passes (λ (c : Change). bytes_eq p c.on) (slice_get (changes_of what) k.2))
      (passes (has_mark mark) (slice_get (changes_of what) k.2))
    where
      joined : (a b c : Bool) → (a && (b && c)) ≡ ((a && b) && c)
      joined true b c = refl
      joined false b c = refl
  kind_takes (Unread name) = refl

  fact_takes : (o : Option Fact) → passes (λ (fact : Fact). is_removal_on p mark k fact.kind) o
      ≡ (passes (λ (fact : Fact). is_change_on p k fact.kind) o
      && passes (has_mark mark) (option_and_then (λ what. slice_get (changes_of what) k.2)
      (option_and_then (λ (fact : Fact). claim_says fact.kind) o)))
  fact_takes None = refl
  fact_takes (Some fact) = kind_takes fact.kind

  own_takes : bytes_eq k.1 x ≡ true → takes_it ≡ (on_it && has)
  own_takes t =
      fact_takes (get facts x)
      ∙ ap (λ (y : List ℕ). on_it && passes (has_mark mark) (option_and_then (λ what. slice_get (changes_of what) k.2)
      (option_and_then (λ (fact : Fact). claim_says fact.kind) (get facts y)))) (sym ((bytes_eq-Decides k.1 x).0 t))

  -- what is put beside what was there
  pub put_beside : (was_removed was_changed : Bool) → was_removed ≡ (was_changed && has)
      → (was_removed || (bytes_eq k.1 x && (is_signed_at facts accepts x && takes_it)))
      ≡ ((was_changed || (bytes_eq k.1 x && (is_signed_at facts accepts x && on_it))) && has)
  put_beside was_removed was_changed is = by (cases_Bool (bytes_eq k.1 x))
    where
      signed : Bool
      signed = is_signed_at facts accepts x

      joined : (b c d e : Bool) → ((b && e) || (true && (c && (d && e)))) ≡ ((b || (true && (c && d))) && e)
      joined true true true true = refl
      joined true true true false = refl
      joined true true false true = refl
      joined true true false false = refl
      joined true false d true = refl
      joined true false d false = refl
      joined false true true e = refl
      joined false true false e = refl
      joined false false d e = refl

      alone : (b c : Bool) → ((b && c) || false) ≡ ((b || false) && c)
      alone true true = refl
      alone true false = refl
      alone false c = refl

      by : (bytes_eq k.1 x ≡ true) ⊎ (bytes_eq k.1 x ≡ false)
          → (was_removed || (bytes_eq k.1 x && (signed && takes_it)))
          ≡ ((was_changed || (bytes_eq k.1 x && (signed && on_it))) && has)
      by (inl t) =
          (λ i. is i || (t i && (signed && own_takes t i)))
          ∙ joined was_changed signed on_it has
          ∙ ap (λ b. (was_changed || (b && (signed && on_it))) && has) (sym t)
      by (inr f) =
          (λ i. is i || (f i && (signed && takes_it))) ∙ alone was_changed has
          ∙ ap (λ b. (was_changed || (b && (signed && on_it))) && has) (sym f)

pub removed_after : (facts : Facts) (accepts : Accepts) (x : List ℕ) (changes changes' : Changes)
    (removals removals' : Removals)
    → IsChanged facts accepts changes changes' x → HasRemovals facts accepts removals removals' x
    → AreRemovals facts changes removals → AreRemovals facts changes' removals'
removed_after facts accepts x changes changes' removals removals' puts takes are p mark k =
    takes p mark k
    ∙ put_beside facts accepts x p mark k (contains_key removals (p, mark, k)) (contains_key changes (p, k))
    (are p mark k)
    ∙ sym (ap (λ b. b && passes (has_mark mark) (change_at facts k)) (puts p k))
