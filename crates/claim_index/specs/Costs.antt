-- The steps that an index takes for the refs that one more fact touches.
use Rattle.std.specs.Prelude.{◌≡◌, ◌≤◌, ◌+◌, ◌*◌, ◌⊎◌, ℕ, ◌&&◌, ◌||◌, ◌++◌, Bool, true, List, [], length, map}
use Rattle.std.specs.Prelude.{flat_map, nat_lt}
use Rattle.std.specs.Prelude.{if◌then◌else◌}
use Rattle.std.specs.List.{list_any, sum_by}
use Rattle.std.specs.Str.{bytes_eq}
use Rattle.std.specs.FinMap.{get, contains_key}
use Rattle.claim_verify.specs.Verifier.{Accepts}
use Rattle.claim_model.specs.Facts.{Facts, passes, is_permanode}
use Rattle.claim_model.specs.Genuine.{is_genuine}
use Rattle.claim_model.specs.Ready.{is_ready}
use Rattle.index_rows.specs.declared.rows.Rows.{Rows}
use Rattle.index_rows.specs.Deletes.{target_in}
use Rattle.index_rows.specs.States.{States}
use Rattle.index_rows.specs.Touched.{became, needs_of, changes_in, changed_by, is_genuine_delete, targets_from}
use Rattle.index_rows.specs.Touched.{chain_end, group_of}
use Rattle.index_rows.specs.Waiting.{arrived}
use Rattle.pending_deps.specs.Arriving.{arrived_with, arrival_steps}
use Rattle.claim_index.specs.Judging.{is_signed_at}

-- one for each change of a genuine claim
abbrev pub put_steps : Facts → Accepts → List ℕ → ℕ
put_steps facts accepts x = if is_signed_at facts accepts x then length (changes_in facts x) else 0

-- four for the fact, its signer and its row, two for each place at which it depends on a ref, and two for each change
-- of a genuine claim
abbrev pub judge_steps : Facts → Accepts → List ℕ → ℕ
judge_steps facts accepts x = 4 + 2 * length (needs_of facts x) + 2 * put_steps facts accepts x

-- and two to find the permanodes that it concerns
abbrev pub look_steps : Facts → Accepts → List ℕ → ℕ
look_steps facts accepts x = 2 + judge_steps facts accepts x

-- the refs that become ready as r arrives
abbrev pub freed : Facts → States → List ℕ → List (List ℕ)
freed facts state r = became (is_ready (arrived facts state)) (arrived_with facts state r)

-- the steps as r arrives, before the work that is left is done
abbrev pub taking_steps : Facts → Accepts → States → List ℕ → ℕ
taking_steps facts accepts state r =
    arrival_steps facts state r + sum_by (look_steps facts accepts) (freed facts state r)

-- the targets of a genuine delete claim
abbrev pub targets_of : Facts → Accepts → List ℕ → List (List ℕ)
targets_of facts accepts d = targets_from facts (is_genuine_delete facts accepts) (target_in facts d)

-- three for the claim, and six for each of its targets: four if its deletion changes, and two to find the permanodes
-- that this concerns
abbrev pub enter_steps : Facts → Accepts → List ℕ → ℕ
enter_steps facts accepts d = 3 + 6 * length (targets_of facts accepts d)

-- the last refs of the chains of some delete claims
abbrev pub ends_of : Facts → Accepts → List (List ℕ) → List (List ℕ)
ends_of facts accepts deletes = map (chain_end facts accepts) deletes

-- the refs that x changes, if x passes the test
abbrev pub changed_where : Facts → (List ℕ → Bool) → List ℕ → List (List ℕ)
changed_where facts test x = if test x then changed_by facts x else []

-- at most these are concerned by some refs: the refs themselves, and the refs that those passing the test change
abbrev pub may_concern : Facts → (List ℕ → Bool) → List (List ℕ) → List (List ℕ)
may_concern facts test refs = refs ++ flat_map (changed_where facts test) refs

-- the work that is added for some refs that were judged: delete claims, and permanodes that are concerned
pub record AddsFor (facts : Facts) (accepts : Accepts) (order claims claims' refs refs' : List (List ℕ)) : Type 0 where
  pub deletes : (d : List ℕ) → list_any (bytes_eq d) claims' ≡ true
      → (list_any (bytes_eq d) claims || list_any (bytes_eq d) order) ≡ true
  pub concerned : (p : List ℕ) → list_any (bytes_eq p) refs' ≡ true
      → (list_any (bytes_eq p) refs || list_any (bytes_eq p) (may_concern facts (is_signed_at facts accepts) order))
      ≡ true

-- and the permanodes that are concerned, for some delete claims that were entered
abbrev pub AddsEntered : Facts → Accepts → List (List ℕ) → List (List ℕ) → List (List ℕ) → Type 0
AddsEntered facts accepts deletes refs refs' = (p : List ℕ) → list_any (bytes_eq p) refs' ≡ true
    → (list_any (bytes_eq p) refs
    || list_any (bytes_eq p) (may_concern facts (is_genuine facts accepts) (ends_of facts accepts deletes))) ≡ true

-- the number of changes on p by genuine claims
abbrev pub change_count : Facts → Accepts → List ℕ → ℕ
change_count facts accepts p = length (group_of facts accepts p)

-- each ref that is concerned is among the heads, or is changed by a genuine claim; the second list has each of these,
-- and each permanode
pub record IsCovered (facts : Facts) (accepts : Accepts) (concerned heads changed : List (List ℕ)) : Type 0 where
  pub permanodes : (p : List ℕ) → passes (λ fact. is_permanode fact.kind) (get facts p) ≡ true
      → list_any (bytes_eq p) concerned ≡ true → list_any (bytes_eq p) changed ≡ true
  pub each : (p : List ℕ) → list_any (bytes_eq p) concerned ≡ true
      → (list_any (bytes_eq p) heads || (list_any (bytes_eq p) changed && nat_lt 0 (change_count facts accepts p)))
      ≡ true

-- all that are concerned in the end, after the delete claims were entered
abbrev pub all_concerned : Facts → Accepts → List (List ℕ) → List (List ℕ) → List (List ℕ)
all_concerned facts accepts deletes concerned =
    concerned ++ may_concern facts (is_genuine facts accepts) (ends_of facts accepts deletes)

-- each fact was taken up
abbrev pub AreTaken : Rows → Type 0
AreTaken rows = (y : List ℕ) → contains_key rows.state y ≡ contains_key rows.facts.ordered y

-- three for each of the heads, and seven for each change on one of the others: four to fold it, and three for its ref
abbrev pub refolds_steps : Facts → Accepts → List (List ℕ) → List (List ℕ) → ℕ
refolds_steps facts accepts heads changed = 3 * length heads + 7 * sum_by (change_count facts accepts) changed

-- the steps of the work that is left after refs were judged
abbrev pub finish_steps : Facts → Accepts → List (List ℕ) → List (List ℕ) → List (List ℕ) → ℕ
finish_steps facts accepts deletes heads changed =
    sum_by (enter_steps facts accepts) deletes + refolds_steps facts accepts heads changed

-- entering some delete claims took only its own steps; or also those of folding whom it concerns, and then nobody is
-- left to be folded
abbrev pub EntersWithin : Facts → Accepts → List (List ℕ) → List (List ℕ) → List (List ℕ) → List (List ℕ) → ℕ → ℕ
    → Type 0
EntersWithin facts accepts deletes concerned heads changed before after =
    (after ≤ before + sum_by (enter_steps facts accepts) deletes)
    ⊎ ((concerned ≡ []) × (after ≤ before + finish_steps facts accepts deletes heads changed))
