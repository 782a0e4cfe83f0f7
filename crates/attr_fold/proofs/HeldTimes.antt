-- The rows of the values that permanodes have, by their numbers.
use Rattle.std.proofs.Common.{◌≡◌, ◌≤◌, ℕ, zero, suc, Bool, true, false, ◌&&◌, cond, List, Option, Some, None, refl}
use Rattle.std.proofs.Common.{sym, ap, subst, ◌∙◌, ◌⊎◌, inl, inr, is_some, nat_lt, unwrap_or, arith}
use Rattle.std.proofs.lemmas.Bool.{and_parts, cond-true, false≢true, cases_Bool, lt-ltb}
use Rattle.std.proofs.lemmas.Slice.Eq.{bytes_eq-Decides}
use Rattle.std.specs.List.{list_any}
use Rattle.std.specs.Str.{bytes_eq}
use Rattle.std.specs.FinMap.{get, contains_key}
use Rattle.schema_date.specs.declared.date.When.TheVariants.{Always}
use Rattle.claim_model.specs.Facts.{Facts}
use Rattle.index_rows.specs.Changes.{Changes}
use Rattle.index_rows.specs.Deletes.{Deletes}
use Rattle.index_rows.specs.Holders.{Holders, is_given, row_holds, says_permanode, times_at, AllCounted, IsHeldBut}
use Rattle.index_rows.specs.Pairs.{number}
use Rattle.index_rows.specs.States.{States}
use Rattle.index_rows.specs.Values.{row_values}
use Rattle.index_rows.proofs.HolderTimes.{number_of_row, row_by_number}
use Rattle.attr_fold.specs.Following.{holds_values, is_row}
use Rattle.attr_fold.proofs.Times.{any_number}

pub no_row : (n : ℕ) → nat_lt 0 n ≡ false → n ≡ 0
no_row zero h = refl
no_row (suc n) h = absurd (false≢true (sym h ∙ lt-ltb 0 (suc n) (omega arith)))

-- how many times p has the value of the attribute
abbrev pub row_times : Facts → States → Deletes → Changes → List ℕ → List ℕ → List ℕ → ℕ
row_times facts state deletes changes name value p =
    cond (holds_values facts state deletes p)
    (number (bytes_eq value) (row_values facts deletes changes Always p name)) 0

module _ (facts : Facts) (state : States) (deletes : Deletes) (changes : Changes) (name value p : List ℕ) where
  abbrev times : ℕ
  times = row_times facts state deletes changes name value p

  abbrev values : List (List ℕ)
  values = row_values facts deletes changes Always p name

  pub holds_is : row_holds facts state deletes changes name value p ≡ nat_lt 0 times
  holds_is = by (holds_values facts state deletes p)
    where
      by : (b : Bool) → (b && list_any (bytes_eq value) values) ≡ nat_lt 0 (cond b (number (bytes_eq value) values) 0)
      by true = any_number (bytes_eq value) values
      by false = refl

  module _ (m : Holders) where
    pub times_held : (but : List (List ℕ)) → IsHeldBut but facts state deletes changes m
        → list_any (bytes_eq p) but ≡ false → times_at m (name, value, p) ≡ times
    times_held but was out = by (get m (name, value, p)) refl
      where
        by : (o : Option ℕ) → get m (name, value, p) ≡ o → times_at m (name, value, p) ≡ times
        by None e =
            ap (λ (o : Option ℕ). unwrap_or o 0) e
            ∙ sym (no_row times (sym holds_is ∙ sym (was.held name value p out) ∙ ap is_some e))
        by (Some n) e =
            let holds = and_parts (holds_values facts state deletes p) (list_any (bytes_eq value) values)
            (sym (was.held name value p out) ∙ ap is_some e) in
            number_of_row m (name, value, p) n e ∙ was.times name value p n out e
            ∙ sym (cond-true (holds_values facts state deletes p) (number (bytes_eq value) values) 0 holds.0)

    module _ (all : AllCounted m) (h : times_at m (name, value, p) ≡ times) where
      pub held_by_times : contains_key m (name, value, p) ≡ row_holds facts state deletes changes name value p
      held_by_times = row_by_number m all (name, value, p) ∙ ap (nat_lt 0) h ∙ sym holds_is

      pub number_by_times : (n : ℕ) → get m (name, value, p) ≡ Some n → n ≡ number (bytes_eq value) values
      number_by_times n e = by (holds_values facts state deletes p)
          (sym (number_of_row m (name, value, p) n e) ∙ h)
        where
          by : (b : Bool) → n ≡ cond b (number (bytes_eq value) values) 0 → n ≡ number (bytes_eq value) values
          by true is = is
          by false is = absurd (let le : 1 ≤ times_at m (name, value, p) = all (name, value, p) (ap is_some e) in
              let here = number_of_row m (name, value, p) n e in
              omega (arith, le, here, is))

-- rows that are right for p, if those of others don't change
module _ (facts : Facts) (state : States) (deletes deletes' : Deletes) (changes changes' : Changes) (p : List ℕ)
    (but : List (List ℕ)) (before after : Holders) (was : IsHeldBut but facts state deletes changes before)
    (counted : AllCounted before) (counted' : AllCounted after)
    (beside : (name value q : List ℕ) → bytes_eq q p ≡ false
    → row_times facts state deletes' changes' name value q ≡ row_times facts state deletes changes name value q)
    (grows : (name value q : List ℕ) → is_given facts changes name value q ≡ true
    → is_given facts changes' name value q ≡ true)
    (others : (name value q : List ℕ) → bytes_eq q p ≡ false
    → times_at after (name, value, q) ≡ times_at before (name, value, q))
    (own : (name value : List ℕ)
    → times_at before (name, value, p) ≡ row_times facts state deletes changes name value p
    → times_at after (name, value, p) ≡ row_times facts state deletes' changes' name value p)
    (new : (name value : List ℕ) → is_row after (name, value, p) ≡ true
    → (is_row before (name, value, p) ≡ true)
    ⊎ ((says_permanode facts state p ≡ true) × (is_given facts changes' name value p ≡ true))) where
  right : (name value q : List ℕ) → list_any (bytes_eq q) but ≡ false
      → times_at after (name, value, q) ≡ row_times facts state deletes' changes' name value q
  right name value q out = by (cases_Bool (bytes_eq q p))
    where
      held : times_at before (name, value, q) ≡ row_times facts state deletes changes name value q
      held = times_held facts state deletes changes name value q before but was out

      by : (bytes_eq q p ≡ true) ⊎ (bytes_eq q p ≡ false)
          → times_at after (name, value, q) ≡ row_times facts state deletes' changes' name value q
      by (inl t) = subst (λ r. times_at before (name, value, r) ≡ row_times facts state deletes changes name value r
          → times_at after (name, value, r) ≡ row_times facts state deletes' changes' name value r)
          (sym ((bytes_eq-Decides q p).0 t)) (own name value) held
      by (inr f) = others name value q f ∙ held ∙ sym (beside name value q f)

  -- a row that is there now
  row_now : (name value q : List ℕ) → contains_key after (name, value, q) ≡ true
      → is_row after (name, value, q) ≡ true
  row_now name value q h = sym (row_by_number after counted' (name, value, q)) ∙ h

  row_then : (name value q : List ℕ) → is_row before (name, value, q) ≡ true
      → contains_key before (name, value, q) ≡ true
  row_then name value q h = row_by_number before counted (name, value, q) ∙ h

  whole : (name value q : List ℕ) → contains_key after (name, value, q) ≡ true
      → (says_permanode facts state q ≡ true) × (is_given facts changes' name value q ≡ true)
  whole name value q h = by (cases_Bool (bytes_eq q p))
    where
      old : (r : List ℕ) → is_row before (name, value, r) ≡ true
          → (says_permanode facts state r ≡ true) × (is_given facts changes' name value r ≡ true)
      old r t = (
        was.permanode name value r (row_then name value r t),
        grows name value r (was.given name value r (row_then name value r t)),
      )

      here : is_row after (name, value, p) ≡ true
          → (says_permanode facts state p ≡ true) × (is_given facts changes' name value p ≡ true)
      here t = elim (new name value t) [
        | inl was_there ↦ old p was_there
        | inr given ↦ given
      ]

      by : (bytes_eq q p ≡ true) ⊎ (bytes_eq q p ≡ false)
          → (says_permanode facts state q ≡ true) × (is_given facts changes' name value q ≡ true)
      by (inl t) = subst (λ r. is_row after (name, value, r) ≡ true
          → (says_permanode facts state r ≡ true) × (is_given facts changes' name value r ≡ true))
          (sym ((bytes_eq-Decides q p).0 t)) here (row_now name value q h)
      by (inr f) = old q (ap (nat_lt 0) (sym (others name value q f)) ∙ row_now name value q h)

  pub right_after : IsHeldBut but facts state deletes' changes' after
  right_after = record {
    held = λ name value q out. held_by_times facts state deletes' changes' name value q after counted'
        (right name value q out);
    times = λ name value q n out e. number_by_times facts state deletes' changes' name value q after counted'
        (right name value q out) n e;
    permanode = λ name value q h. (whole name value q h).0;
    given = λ name value q h. (whole name value q h).1;
  }
