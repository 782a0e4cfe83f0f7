-- What more facts leave as it was: what a permanode holds, where nothing that decides it has changed.
use Rattle.std.proofs.Common.{◌≡◌, ℕ, Bool, true, false, not, ◌&&◌, cond, List, None, option_and_then, refl, sym, ap, ◌∙◌}
use Rattle.std.specs.Prelude.{slice_get}
use Rattle.std.specs.List.{list_any}
use Rattle.std.specs.Str.{bytes_eq}
use Rattle.std.specs.FinMap.{get, contains_key}
use Rattle.schema_date.specs.declared.date.When.TheVariants.{Always}
use Rattle.schema_fact.specs.declared.kinds.Fact.{Fact}
use Rattle.schema_fact.specs.declared.kinds.What.{What}
use Rattle.claim_model.specs.Least.{IsWithin}
use Rattle.claim_model.specs.Facts.{Facts}
use Rattle.schema_fact.specs.Changes.{changes_of}
use Rattle.claim_model.specs.Claims.{Moment}
use Rattle.index_look.specs.Claims.{claim_says}
use Rattle.index_rows.specs.Changes.{Changes}
use Rattle.index_rows.specs.Deletes.{Deletes, row_deleted}
use Rattle.index_rows.specs.States.{States}
use Rattle.index_rows.specs.Values.{IsListed, row_values}
use Rattle.index_rows.specs.Holders.{says_permanode, row_holds}
use Rattle.index_meaning.specs.Laws.{IsUnconcerned, UnconcernedStay}
use Rattle.index_meaning.proofs.Values.{row_tells, same_values}

module _ (facts more : Facts) (before after : States) (deletes entered : Deletes) (changes listed : Changes)
    (q : List ℕ)
    (within : IsWithin facts more) (rows : IsListed facts before changes)
    (is : IsUnconcerned facts more before after deletes entered changes listed q) where
  same_change : says_permanode facts before q ≡ true → (k : Moment) → contains_key changes (q, k) ≡ true
      → row_tells q facts deletes Always k ≡ row_tells q more entered Always k
  same_change says k h =
      let row = rows q k h in
      let fact : get more k.1 ≡ get facts k.1 = within k.1 row.fact row.found ∙ sym row.found in
      λ i. cond (true && not (sym (is.claims says k h) i))
      (option_and_then (λ (what : What). slice_get (changes_of what) k.2)
      (option_and_then (λ (f : Fact). claim_says f.kind) (sym fact i))) None

  same_row : says_permanode facts before q ≡ true → (k : Moment)
      → cond (contains_key changes (q, k)) (row_tells q facts deletes Always k) None
      ≡ cond (contains_key listed (q, k)) (row_tells q more entered Always k) None
  same_row says k =
      by (contains_key changes (q, k)) (same_change says k)
      ∙ ap (λ (b : Bool). cond b (row_tells q more entered Always k) None) (sym (is.group says k))
    where
      by : (b : Bool) → (b ≡ true → row_tells q facts deletes Always k ≡ row_tells q more entered Always k)
          → cond b (row_tells q facts deletes Always k) None ≡ cond b (row_tells q more entered Always k) None
      by true h = h refl
      by false h = refl

  -- its values are those that they were
  pub values_stay : says_permanode facts before q ≡ true → (name : List ℕ)
      → row_values facts deletes changes Always q name ≡ row_values more entered listed Always q name
  values_stay says name = same_values q facts more deletes entered changes listed Always name (same_row says)

  stays : (name value : List ℕ) → row_holds more after entered listed name value q
      ≡ row_holds facts before deletes changes name value q
  stays name value = by (says_permanode facts before q) refl
    where
      by : (b : Bool) → says_permanode facts before q ≡ b
          → row_holds more after entered listed name value q ≡ row_holds facts before deletes changes name value q
      by true says = λ i.
          (is.permanode i && not (is.deleted says i)) && list_any (bytes_eq value)
          (sym (same_values q facts more deletes entered changes listed Always name (same_row says)) i)
      by false says =
          ap (λ (b : Bool). (b && not (row_deleted more entered Always q))
          && list_any (bytes_eq value) (row_values more entered listed Always q name)) (is.permanode ∙ says)
          ∙ sym (ap (λ (b : Bool). (b && not (row_deleted facts deletes Always q))
          && list_any (bytes_eq value) (row_values facts deletes changes Always q name)) says)

pub unconcerned_stay : UnconcernedStay
unconcerned_stay facts more before after deletes entered changes listed q within rows is name value =
    stays facts more before after deletes entered changes listed q within rows is name value
