-- A row into which it was written what was found leaves readiness and counts as they were.
use Rattle.std.proofs.Common.{◌≡◌, ◌==◌, ℕ, Bool, true, false, ◌&&◌, ◌||◌, not, cond, List, Option, Some, None, nat_lt, option_map, is_some, refl, sym, ap, ◌∙◌}
use Rattle.std.proofs.lemmas.Option.{same_Some}
use Rattle.std.specs.Str.{bytes_eq}
use Rattle.std.specs.FinMap.{get, contains_key}
use Rattle.claim_verify.specs.Verifier.{Accepts}
use Rattle.claim_model.specs.Facts.{Facts, passes}
use Rattle.claim_model.specs.Ready.{is_ready}
use Rattle.index_rows.specs.declared.rows.StateRow.{StateRow}
use Rattle.index_rows.specs.Deletes.{Deletes}
use Rattle.index_rows.specs.States.{States}
use Rattle.index_rows.specs.Waiting.{Waiters, arrived, depends, IsWaiting}
use Rattle.index_rows.specs.Counted.{has_deleters, is_deletable, live_rows, IsCounted}
use Rattle.index_rows.proofs.Arrived.{arrived_same}
use Rattle.claim_index.specs.Judging.{with_marks, is_signed_at, fits_at, IsMarked}

-- a row that was there, of the same readiness and count
record Was (state : States) (y : List ℕ) (row : StateRow) : Type 0 where
  was : StateRow
  found : get state y ≡ Some was
  ready : row.ready ≡ was.ready
  missing : row.missing ≡ was.missing
  deleters : row.deleters ≡ was.deleters

module _ (facts : Facts) (accepts : Accepts) (before after : States) (x : List ℕ) (is : IsMarked facts accepts before after x) where
  pub keys_stay : (y : List ℕ) → contains_key after y ≡ contains_key before y
  keys_stay y = ap is_some (is y) ∙ by (bytes_eq y x && (is_signed_at facts accepts x || fits_at facts before x)) (get before y)
    where
      by : (b : Bool) (o : Option StateRow) → is_some (cond b (option_map (with_marks (is_signed_at facts accepts x) (fits_at facts before x)) o) o) ≡ is_some o
      by true None = refl
      by true (Some row) = refl
      by false o = refl

  was_there : (y : List ℕ) (row : StateRow) → get after y ≡ Some row → Was before y row
  was_there y row h = by (bytes_eq y x && (is_signed_at facts accepts x || fits_at facts before x)) (get before y) refl (sym h ∙ is y)
    where
      by : (b : Bool) (o : Option StateRow) → get before y ≡ o
          → Some row ≡ cond b (option_map (with_marks (is_signed_at facts accepts x) (fits_at facts before x)) o) o → Was before y row
      by true None had e = let d : Some row ≡ None = e in absurd (cc d)
      by true (Some was) had e =
          let same = same_Some row (with_marks (is_signed_at facts accepts x) (fits_at facts before x) was) e in
          record {
            was = was;
            found = had;
            ready = ap (λ (r : StateRow). r.ready) same;
            missing = ap (λ (r : StateRow). r.missing) same;
            deleters = ap (λ (r : StateRow). r.deleters) same;
          }
      by false o had e = record { was = row; found = had ∙ sym e; ready = refl; missing = refl; deleters = refl }

  deleters_stay : (y : List ℕ) → has_deleters after y ≡ has_deleters before y
  deleters_stay y = ap (passes (λ (row : StateRow). nat_lt 0 row.deleters)) (is y) ∙ by (bytes_eq y x && (is_signed_at facts accepts x || fits_at facts before x)) (get before y)
    where
      by : (b : Bool) (o : Option StateRow) → passes (λ (row : StateRow). nat_lt 0 row.deleters) (cond b (option_map (with_marks (is_signed_at facts accepts x) (fits_at facts before x)) o) o)
          ≡ passes (λ (row : StateRow). nat_lt 0 row.deleters) o
      by true None = refl
      by true (Some row) = refl
      by false o = refl

  same_taken : (known : Facts) → arrived known after ≡ arrived known before
  same_taken known = arrived_same known after before keys_stay

  pub waits_still : (known : Facts) (waiters : Waiters) → IsWaiting known before waiters → IsWaiting known after waiters
  waits_still known waiters w = record {
    known = λ y h. w.known y (sym (keys_stay y) ∙ h);
    ready = λ y row h. let r = was_there y row h in r.ready ∙ w.ready y r.was r.found ∙ ap (λ (at : Facts). is_ready at y) (sym (same_taken known));
    zero = λ y row h. let r = was_there y row h in r.ready ∙ w.zero y r.was r.found ∙ ap (λ n. n == 0) (sym r.missing);
    missing = λ y row h. let r = was_there y row h in r.missing ∙ w.missing y r.was r.found;
    rows = λ d y. w.rows d y ∙ ap (λ (at : Facts). depends at y d && not (is_ready at d)) (sym (same_taken known));
  }

  pub counts_still : (known : Facts) (deletes : Deletes) → IsCounted known deletes before → IsCounted known deletes after
  counts_still known deletes c = record {
    ringless = c.ringless;
    arrived = record { target = λ y d h. keys_stay y ∙ c.arrived.target y d h; claim = λ y d h. keys_stay d ∙ c.arrived.claim y d h };
    counts = λ y row h. let r = was_there y row h in r.deleters ∙ c.counts y r.was r.found
        ∙ (λ i. live_rows deletes (λ z. is_deletable known z && sym (deleters_stay z) i) y);
  }
