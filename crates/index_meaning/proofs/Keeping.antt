-- Rows of `state` that keep some of what they say.
use Rattle.std.proofs.Common.{◌≡◌, ℕ, Bool, not, ◌&&◌, ◌==◌, List, Option, None, Some, option_map, refl, sym, ap, ◌∙◌, is_some}
use Rattle.std.proofs.lemmas.Option.{same_Some}
use Rattle.std.specs.FinMap.{get, contains_key}
use Rattle.claim_model.specs.Facts.{Facts, passes}
use Rattle.claim_model.specs.Ready.{is_ready}
use Rattle.index_rows.specs.declared.rows.StateRow.{StateRow}
use Rattle.index_rows.specs.States.{States, says_genuine}
use Rattle.index_rows.specs.Waiting.{Waiters, arrived, depends, IsWaiting}
use Rattle.index_rows.proofs.Arrived.{arrived_same}

module _ {A : Type 0} (told : StateRow → A) (before after : States)
    (kept : (y : List ℕ) → option_map told (get after y) ≡ option_map told (get before y)) where
  still : (o : Option StateRow) → is_some (option_map told o) ≡ is_some o
  still None = refl
  still (Some row) = refl

  -- the same refs have rows
  pub same_refs : (y : List ℕ) → contains_key after y ≡ contains_key before y
  same_refs y = sym (still (get after y)) ∙ ap is_some (kept y) ∙ still (get before y)

  -- and a row was one that told the same
  pub was_row : (y : List ℕ) (row : StateRow) → get after y ≡ Some row
      → (old : StateRow) × (get before y ≡ Some old) × (told row ≡ told old)
  was_row y row found = by (get before y) refl (sym (ap (option_map told) found) ∙ kept y)
    where
      by : (o : Option StateRow) → get before y ≡ o → Some (told row) ≡ option_map told o
          → (old : StateRow) × (get before y ≡ Some old) × (told row ≡ told old)
      by None is h = absurd (let e : Some (told row) ≡ None = h in cc e)
      by (Some old) is h = (old, is, same_Some (told row) (told old) h)

  module _ (facts : Facts) (waiters : Waiters) (waiting : IsWaiting facts before waiters)
      (ready : A → Bool) (missing : A → ℕ)
      (says_ready : (row : StateRow) → ready (told row) ≡ row.ready)
      (says_missing : (row : StateRow) → missing (told row) ≡ row.missing) where
    same_facts : arrived facts before ≡ arrived facts after
    same_facts = arrived_same facts before after (λ y. sym (same_refs y))

    -- so what waits does
    pub waiting_kept : IsWaiting facts after waiters
    waiting_kept = record {
      known = λ y h. waiting.known y (sym (same_refs y) ∙ h);
      ready = λ y row found.
          let old = was_row y row found in
          sym (says_ready row) ∙ ap ready old.2 ∙ says_ready old.0 ∙ waiting.ready y old.0 old.1
          ∙ ap (λ (at : Facts). is_ready at y) same_facts;
      zero = λ y row found.
          let old = was_row y row found in
          sym (says_ready row) ∙ ap ready old.2 ∙ says_ready old.0 ∙ waiting.zero y old.0 old.1
          ∙ ap (λ n. n == 0) (sym (says_missing old.0) ∙ ap missing (sym old.2) ∙ says_missing row);
      missing = λ y row found.
          let old = was_row y row found in
          sym (says_missing row) ∙ ap missing old.2 ∙ says_missing old.0 ∙ waiting.missing y old.0 old.1;
      rows = λ d y. waiting.rows d y ∙ ap (λ (at : Facts). depends at y d && not (is_ready at d)) same_facts;
    }

  -- what is said of a ref, where this is among what is told
  pub genuine_kept : (genuine : A → Bool) → ((row : StateRow) → genuine (told row) ≡ row.genuine)
      → (y : List ℕ) → says_genuine after y ≡ says_genuine before y
  genuine_kept genuine says y = sym (passed (get after y)) ∙ ap (passes genuine) (kept y) ∙ passed (get before y)
    where
      passed : (o : Option StateRow) → passes genuine (option_map told o) ≡ passes (λ (row : StateRow). row.genuine) o
      passed None = refl
      passed (Some row) = says row
