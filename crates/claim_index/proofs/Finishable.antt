-- What the tables mean while an index takes up facts tells that what is left can be done.
use Rattle.std.proofs.Common.{◌≡◌, ℕ, true, cond, List, [], None, is_some, sym, ap, ◌∙◌}
use Rattle.std.specs.List.{list_any}
use Rattle.std.specs.Str.{bytes_eq}
use Rattle.std.specs.FinMap.{get, contains_key}
use Rattle.claim_verify.specs.Verifier.{Accepts}
use Rattle.claim_model.specs.Facts.{Facts}
use Rattle.claim_model.specs.Least.{IsWithin}
use Rattle.claim_model.proofs.Least.{ready_grows}
use Rattle.index_rows.specs.declared.rows.Rows.{Rows}
use Rattle.index_rows.specs.Deletes.{IsDelete}
use Rattle.index_rows.specs.States.{States}
use Rattle.index_rows.specs.Waiting.{arrived}
use Rattle.index_rows.proofs.Arrived.{get-arrived}
use Rattle.delete_claims.specs.Entered.{IsNewDelete}
use Rattle.index_meaning.specs.Meaning.{genuine_delete}
use Rattle.index_meaning.specs.Progress.{IsTakingUp}
use Rattle.index_meaning.proofs.Arriving.{given, arrived_is_known}
use Rattle.index_meaning.proofs.Deletions.{delete_of}
use Rattle.index_meaning.proofs.Growth.{target_known}
use Rattle.index_meaning.proofs.Progressing.{taking_up_is_listed}
use Rattle.claim_index.specs.Halfway.{taken, IsHalfway, CanBeFinished}

-- the facts that have arrived are among the facts
pub arrived_within : (facts : Facts) (state : States) → IsWithin (arrived facts state) facts
arrived_within facts state y fact h =
    (given (contains_key state y) (get facts y) fact (sym (get-arrived facts state y) ∙ h)).1

module _ (accepts : Accepts) (deletes concerned : List (List ℕ)) (rows : Rows)
    (is : IsHalfway accepts [] deletes concerned rows) where
  taking_up : IsTakingUp [] deletes rows.facts.ordered accepts rows.state rows.waiters rows.deletes rows.changes
  taking_up = record {
    waiting = is.waiting;
    judged = is.judged;
    deleted = is.deleted;
    changed = is.changed;
    counted = is.counted;
  }

  known : (y : List ℕ) → contains_key rows.state y ≡ contains_key (taken rows) y
  known = arrived_is_known rows.facts.ordered rows.state is.waiting.known

  fresh : (d : List ℕ) → list_any (bytes_eq d) deletes ≡ true → IsNewDelete rows.facts.ordered rows.deletes rows.state d
  fresh d h =
      let within = arrived_within rows.facts.ordered rows.state in
      let claim = is.claims d h in
      let there : IsDelete (taken rows) claim.target d claim.date
      = delete_of (taken rows) accepts claim.target d claim.date claim.says in
      record {
        target = claim.target;
        date = claim.date;
        is = record {
          fact = there.fact;
          signed = there.signed;
          found = within d there.fact there.found;
          says = there.says;
          ready = ready_grows (taken rows) rows.facts.ordered within d there.ready;
        };
        target_arrived = known claim.target ∙ target_known (taken rows) claim.target d claim.date there;
        arrived = known d ∙ ap is_some there.found;
        fresh = is.deleted claim.target d
            ∙ ap (λ b. cond b None (genuine_delete (taken rows) accepts claim.target d)) h;
      }

  pub can_be_finished : CanBeFinished deletes concerned rows
  can_be_finished = record {
    counted = is.counted;
    listed = taking_up_is_listed [] deletes rows.facts.ordered accepts rows.state rows.waiters rows.deletes rows.changes
        taking_up;
    fresh = fresh;
    once = is.once;
    held = is.held;
  }
