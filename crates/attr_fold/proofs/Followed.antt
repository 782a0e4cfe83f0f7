-- The rows of a permanode stay right where one change more is written behind all others.
use Rattle.std.proofs.Common.{◌≡◌, ℕ, Bool, true, false, ◌&&◌, cond, T, List, map, filter, Option, Some, None, refl}
use Rattle.std.proofs.Common.{sym, ap, ◌∙◌, ◌⊎◌, inl, is_some}
use Rattle.std.proofs.lemmas.Bool.{false≢true}
use Rattle.std.specs.List.{filter_map, list_any}
use Rattle.std.specs.Str.{bytes_eq}
use Rattle.std.specs.FinMap.{get, insert, entries, contains_key, entries-insert, get-entries, find}
use Rattle.schema_date.specs.declared.date.When.TheVariants.{Always}
use Rattle.claim_model.specs.Facts.{Facts, passes}
use Rattle.claim_model.specs.Changes.{gives, values_after}
use Rattle.claim_model.specs.Claims.{Moment}
use Rattle.index_rows.specs.Changes.{Changes, ChangeKey, change_cmp, changes_after}
use Rattle.index_rows.specs.Deletes.{Deletes}
use Rattle.index_rows.specs.Holders.{Holders, is_given, says_permanode, times_at, AllCounted, IsHeldBut}
use Rattle.index_rows.specs.Pairs.{number}
use Rattle.index_rows.specs.States.{States}
use Rattle.index_rows.specs.Values.{change_at, moment_counts, row_values}
use Rattle.index_rows.proofs.Orders.{change_total}
use Rattle.attr_fold.specs.Following.{holds_values, is_row}
use Rattle.attr_fold.proofs.LastChange.{put_beside, put_more}
use Rattle.attr_fold.proofs.HeldTimes.{right_after, row_times}
use Rattle.attr_fold.proofs.Walking.{Row}

none_there : {A : Type 0} (o : Option A) → is_some o ≡ false → o ≡ None
none_there None h = refl
none_there (Some x) h = absurd (false≢true (sym h))

pub true_of : (b : Bool) → T b → b ≡ true
true_of true t = refl
true_of false t = absurd t

-- ---- the changes of each permanode, with one change more

module _ (before : Changes) (p : List ℕ) (k : Moment) (fresh : contains_key before (p, k) ≡ false) where
  abbrev now : Changes
  now = insert before (p, k) tt

  pub new : find change_cmp (p, k) (entries before) ≡ None
  new = sym (get-entries before (p, k)) ∙ none_there (get before (p, k)) fresh

  of_other : (q : List ℕ) → bytes_eq q p ≡ false → changes_after now q None ≡ changes_after before q None
  of_other q out =
      ap (filter (λ (e : Row). bytes_eq q e.0.0 && true)) (entries-insert change_total before (p, k) tt)
      ∙ put_beside change_total (λ (x : ChangeKey). bytes_eq q x.0 && true) (p, k) tt (ap (λ b. b && true) out) (entries before) new

  given_still : (facts : Facts) (name value q : List ℕ) → is_given facts before name value q ≡ true → is_given facts now name value q ≡ true
  given_still facts name value q h =
      ap (λ (es : List Row). list_any (λ (e : Row). passes (gives name value) (change_at facts e.0.1)) (filter (λ (e : Row). bytes_eq q e.0.0 && true) es))
      (entries-insert change_total before (p, k) tt)
      ∙ put_more change_total (λ (x : ChangeKey). bytes_eq q x.0 && true) (p, k) tt (λ (x : ChangeKey). passes (gives name value) (change_at facts x.1))
      (entries before) new h

  -- ---- what holds of the rows

  module _ (facts : Facts) (state : States) (deletes : Deletes) where
    times_other : (name value q : List ℕ) → bytes_eq q p ≡ false
        → row_times facts state deletes now name value q ≡ row_times facts state deletes before name value q
    times_other name value q out =
        ap (λ (es : List Row). cond (holds_values facts state deletes q) (number (bytes_eq value) (values_after name
        (filter_map (change_at facts) (filter (moment_counts facts deletes Always) (map (λ (e : Row). e.0.1) es))))) 0)
        (of_other q out)

    module _ (but : List (List ℕ)) (holders : Holders) (was : IsHeldBut but facts state deletes before holders)
        (counted : AllCounted holders) where
      -- rows that are right for p, where those of others stay
      pub right_now : (after : Holders) → AllCounted after
          → ((name value q : List ℕ) → bytes_eq q p ≡ false
          → times_at after (name, value, q) ≡ times_at holders (name, value, q))
          → ((name value : List ℕ)
          → times_at holders (name, value, p) ≡ row_times facts state deletes before name value p
          → times_at after (name, value, p) ≡ row_times facts state deletes now name value p)
          → ((name value : List ℕ) → is_row after (name, value, p) ≡ true
          → (is_row holders (name, value, p) ≡ true)
          ⊎ ((says_permanode facts state p ≡ true) × (is_given facts now name value p ≡ true)))
          → IsHeldBut but facts state deletes now after
      right_now after counted' others own new =
          right_after facts state deletes deletes before now p but holders after was counted counted' times_other
          (given_still facts) others own new

      -- p holds nothing, with the change or without
      pub nothing_held : holds_values facts state deletes p ≡ false → IsHeldBut but facts state deletes now holders
      nothing_held none = right_now holders counted (λ name value q h. refl)
          (λ name value h. h
          ∙ ap (λ b. cond b (number (bytes_eq value) (row_values facts deletes before Always p name)) 0) none
          ∙ sym (ap (λ b. cond b (number (bytes_eq value) (row_values facts deletes now Always p name)) 0) none))
          (λ name value h. inl h)
