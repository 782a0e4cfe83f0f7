-- What rows of `state` tell at rest.
use Rattle.std.proofs.Common.{◌≡◌, ℕ, false, List, Option, None, Some, refl, sym, ap, ◌∙◌, is_some}
use Rattle.std.proofs.lemmas.Bool.{true≢false, false_from_ne_true}
use Rattle.std.specs.FinMap.{get, contains_key}
use Rattle.claim_verify.specs.Verifier.{Accepts}
use Rattle.schema_date.specs.declared.date.When.TheVariants.{Always}
use Rattle.claim_model.specs.Facts.{Facts, passes}
use Rattle.claim_model.specs.Ready.{is_ready}
use Rattle.index_rows.specs.declared.rows.StateRow.{StateRow}
use Rattle.index_rows.specs.Changes.{Changes}
use Rattle.index_rows.specs.Deletes.{Deletes}
use Rattle.index_rows.specs.States.{States}
use Rattle.index_rows.specs.Waiting.{Waiters}
use Rattle.index_rows.specs.Holders.{Holders}
use Rattle.index_rows.proofs.DeletionCounts.{counts_are_deletion}
use Rattle.index_meaning.specs.Meaning.{IsAtRest}
use Rattle.index_meaning.specs.Laws.{TellStates, RowsTellStates}
use Rattle.index_meaning.proofs.Said.{genuine_said, sound_said}
use Rattle.index_meaning.proofs.Growth.{ready_known}
use Rattle.index_meaning.proofs.Deletions.{deletion}
use Rattle.index_meaning.proofs.Arriving.{all_have_arrived}

module _ (facts : Facts) (accepts : Accepts) (state : States) (waiters : Waiters) (deletes : Deletes)
    (changes : Changes) (rows : Holders)
    (rest : IsAtRest facts accepts state waiters deletes changes rows) where
  ready_said : (y : List ℕ) → passes (λ (row : StateRow). row.ready) (get state y) ≡ is_ready facts y
  ready_said y = by (get state y) refl
    where
      absent : contains_key facts y ≡ false → is_ready facts y ≡ false
      absent h = false_from_ne_true (is_ready facts y) (λ t. true≢false (sym (ready_known facts y t) ∙ h))

      by : (o : Option StateRow) → get state y ≡ o → passes (λ (row : StateRow). row.ready) o ≡ is_ready facts y
      by None is = sym (absent (sym (rest.arrived y) ∙ ap is_some is))
      by (Some row) is = rest.waiting.ready y row is
          ∙ ap (λ (at : Facts). is_ready at y) (all_have_arrived facts state rest.arrived)

  tell : TellStates facts accepts state
  tell = record {
    ready = ready_said;
    genuine = genuine_said facts accepts state rest.arrived rest.judged;
    sound = sound_said facts accepts state rest.arrived rest.judged;
    deleted = λ y. counts_are_deletion facts deletes state rest.counted y
        ∙ deletion facts accepts deletes rest.deleted Always y;
  }

pub rows_tell_states : RowsTellStates
rows_tell_states = tell
