-- What rows of state say at rest, of each ref.
use Rattle.std.proofs.Common.{◌≡◌, ℕ, Bool, true, false, ◌&&◌, List, [], Option, None, Some, refl, sym, ap, ◌∙◌, is_some}
use Rattle.std.proofs.lemmas.Bool.{true≢false}
use Rattle.std.specs.FinMap.{get, contains_key}
use Rattle.claim_verify.specs.Verifier.{Accepts}
use Rattle.schema_fact.specs.declared.kinds.Fact.{Fact}
use Rattle.claim_model.specs.Facts.{Facts, passes}
use Rattle.claim_model.specs.Ready.{is_ready}
use Rattle.claim_model.specs.Genuine.{is_genuine, is_signed}
use Rattle.claim_model.specs.Trees.{is_sound_tree, parts_fit}
use Rattle.claim_model.proofs.Soundness.{soundness_is_settled}
use Rattle.index_rows.specs.declared.rows.StateRow.{StateRow}
use Rattle.index_rows.specs.States.{States, says_genuine}
use Rattle.index_meaning.specs.Meaning.{IsJudged}

pub and_true : (b : Bool) → (b && true) ≡ b
and_true true = refl
and_true false = refl

pub and_false : (b : Bool) → (b && false) ≡ false
and_false true = refl
and_false false = refl

-- no blob without a fact is genuine, or a sound tree
pub no_genuine : (facts : Facts) (accepts : Accepts) (y : List ℕ) → contains_key facts y ≡ false
    → is_genuine facts accepts y ≡ false
no_genuine facts accepts y h = by (get facts y) h
  where
    by : (o : Option Fact) → is_some o ≡ false → (is_ready facts y && passes (is_signed facts accepts) o) ≡ false
    by None h = and_false (is_ready facts y)
    by (Some fact) h = absurd (true≢false h)

pub no_sound : (facts : Facts) (y : List ℕ) → contains_key facts y ≡ false → is_sound_tree facts y ≡ false
no_sound facts y h = soundness_is_settled facts y ∙ by (get facts y) h
  where
    by : (o : Option Fact) → is_some o ≡ false
        → (is_ready facts y && passes (parts_fit facts (is_sound_tree facts)) o) ≡ false
    by None h = and_false (is_ready facts y)
    by (Some fact) h = absurd (true≢false h)

module _ (facts : Facts) (accepts : Accepts) (state : States)
    (arrived : (y : List ℕ) → contains_key state y ≡ contains_key facts y)
    (judged : IsJudged facts accepts [] state) where
  said : (test : StateRow → Bool) (truth : Bool) (y : List ℕ)
      → ((row : StateRow) → get state y ≡ Some row → test row ≡ (truth && true))
      → (contains_key facts y ≡ false → truth ≡ false)
      → passes test (get state y) ≡ truth
  said test truth y rows absent = by (get state y) refl
    where
      by : (o : Option StateRow) → get state y ≡ o → passes test o ≡ truth
      by None is = sym (absent (sym (arrived y) ∙ ap is_some is))
      by (Some row) is = rows row is ∙ and_true truth

  pub genuine_said : (y : List ℕ) → says_genuine state y ≡ is_genuine facts accepts y
  genuine_said y = said (λ (row : StateRow). row.genuine) (is_genuine facts accepts y) y (judged.genuine y)
      (no_genuine facts accepts y)

  pub sound_said : (y : List ℕ) → passes (λ (row : StateRow). row.sound) (get state y) ≡ is_sound_tree facts y
  sound_said y = said (λ (row : StateRow). row.sound) (is_sound_tree facts y) y (judged.sound y) (no_sound facts y)
