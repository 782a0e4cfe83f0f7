-- What the tables of an index at rest tell is what the definitions say.
use Rattle.std.proofs.Common.{◌≡◌, ℕ, Bool, true, false, ◌&&◌, not, cond, List, [], ◌∷◌, length, filter, map, Option}
use Rattle.std.proofs.Common.{None, refl, sym, ap, ◌∙◌, ◌⊎◌, inl, inr, arith}
use Rattle.std.proofs.lemmas.Bool.{cases_Bool}
use Rattle.std.specs.List.{find, list_any, flat_map}
use Rattle.std.specs.Str.{bytes_eq}
use Rattle.std.specs.FinMap.{get, keys, entries, empty, from_entries, values as map_values, len-entries, len-empty}
use Rattle.blobref.specs.Blobref.{is_after}
use Rattle.claim_verify.specs.Verifier.{Accepts}
use Rattle.schema_date.specs.declared.date.When.{When}
use Rattle.schema_date.specs.declared.date.When.TheVariants.{Always, At}
use Rattle.claim_model.specs.Facts.{Facts, passes, is_permanode}
use Rattle.claim_model.specs.Ready.{ready_fact}
use Rattle.claim_model.specs.Genuine.{is_genuine_permanode}
use Rattle.claim_model.specs.Deleted.{is_deleted}
use Rattle.schema_fact.specs.declared.changes.Change.{Change}
use Rattle.claim_model.specs.Changes.{values_after}
use Rattle.claim_model.specs.Claims.{Moment, moment_cmp, stands_at, changes_on, values, last_change, has_value}
use Rattle.claim_model.specs.Claims.{holders as holders_of, member_attribute, parents}
use Rattle.claim_model.specs.Trees.{is_file, tree_size, file_size}
use Rattle.index_look.specs.Look.{permanode_after}
use Rattle.index_look.specs.Claims.{is_holder}
use Rattle.index_look.proofs.Lasts.{no_change}
use Rattle.index_rows.specs.Changes.{Changes}
use Rattle.index_rows.specs.Deletes.{Deletes, row_deleted}
use Rattle.index_rows.specs.States.{States, says_genuine}
use Rattle.index_rows.specs.Waiting.{Waiters}
use Rattle.index_rows.specs.Values.{IsListed, row_values, row_last_change}
use Rattle.index_rows.specs.Holders.{Holders, says_permanode, rows_holding}
use Rattle.index_meaning.specs.Meaning.{IsAtRest}
use Rattle.index_meaning.specs.Laws.{TellStates}
use Rattle.index_meaning.proofs.Deletions.{rows_tell_deletion}
use Rattle.index_meaning.proofs.Holding.{rows_tell_holders}
use Rattle.index_meaning.proofs.Listing.{rows_are_listed}
use Rattle.index_meaning.proofs.Resting.{rows_tell_states}
use Rattle.index_meaning.proofs.Values.{rows_tell_values, rows_tell_last_change}
use Rattle.plain_answers.proofs.Moments.{holders_are}
use Rattle.row_answers.specs.Told.{told_fact, told_after, told_values, told_change, told_size, told_holds, told_parents}

and_swap : (a b : Bool) → (a && b) ≡ (b && a)
and_swap true true = refl
and_swap true false = refl
and_swap false true = refl
and_swap false false = refl

no_length : {A : Type 0} (es : List A) → length es ≡ 0 → es ≡ []
no_length [] h = refl
no_length (e ∷ es) h = absurd (omega arith)

no_entries : entries (empty {X = Change} {R = moment_cmp}) ≡ []
no_entries = no_length (entries empty) (sym (len-entries empty) ∙ len-empty moment_cmp Change)

-- a ref that is no genuine permanode has no values
no_values : (facts : Facts) (accepts : Accepts) (when : When) (p name : List ℕ)
    → is_genuine_permanode facts accepts p ≡ false → values facts accepts when p name ≡ []
no_values facts accepts when p name f =
    ap (λ b. values_after name
    (map_values
    (from_entries {R = moment_cmp}
    (cond b (flat_map (λ e. changes_on p when e.0 e.1.kind)
    (filter (λ e. stands_at facts accepts when e.0) (entries facts))) [])))) f
    ∙ ap (λ (es : List (Moment × Change)). values_after name (map (λ e. e.1) es)) no_entries

module _ (facts : Facts) (accepts : Accepts) (state : States) (waiters : Waiters) (deletes : Deletes)
    (changes : Changes) (holders : Holders)
    (rest : IsAtRest facts accepts state waiters deletes changes holders) where
  states : TellStates facts accepts state
  states = rows_tell_states facts accepts state waiters deletes changes holders rest

  pub fact_told : (r : List ℕ) → told_fact facts state r ≡ ready_fact facts r
  fact_told r = ap (λ b. cond b (get facts r) None) (states.ready r)

  pub permanode_told : (r : List ℕ) → says_permanode facts state r ≡ is_genuine_permanode facts accepts r
  permanode_told r = and_swap (passes (λ fact. is_permanode fact.kind) (get facts r)) (says_genuine state r)
      ∙ ap (λ b. b && passes (λ fact. is_permanode fact.kind) (get facts r)) (states.genuine r)

  pub after_told : (after : Option (List ℕ)) → told_after facts state after ≡ permanode_after facts accepts after
  after_told after = λ i. find (is_after after) (filter (λ r. permanode_told r i) (keys facts))

  pub deletion_told : (when : When) (x : List ℕ) → row_deleted facts deletes when x ≡ is_deleted facts accepts when x
  deletion_told = rows_tell_deletion facts accepts deletes rest.deleted

  pub all_listed : IsListed facts state changes
  all_listed = rows_are_listed facts accepts [] state changes rest.arrived rest.judged rest.changed

  pub values_told : (when : When) (p name : List ℕ)
      → told_values facts state deletes changes when p name ≡ values facts accepts when p name
  values_told when p name = ap (λ b. cond b (row_values facts deletes changes when p name) []) (permanode_told p)
      ∙ by (cases_Bool (is_genuine_permanode facts accepts p))
    where
      by : (is_genuine_permanode facts accepts p ≡ true) ⊎ (is_genuine_permanode facts accepts p ≡ false)
          → cond (is_genuine_permanode facts accepts p) (row_values facts deletes changes when p name) []
          ≡ values facts accepts when p name
      by (inl t) = ap (λ b. cond b (row_values facts deletes changes when p name) []) t
          ∙ rows_tell_values facts accepts deletes changes rest.deleted rest.changed when p name t
      by (inr f) = ap (λ b. cond b (row_values facts deletes changes when p name) []) f
          ∙ sym (no_values facts accepts when p name f)

  pub change_told : (when : When) (p : List ℕ)
      → told_change facts state deletes changes when p ≡ last_change facts accepts when p
  change_told when p = ap (λ b. cond b (row_last_change facts deletes changes when p) None) (permanode_told p)
      ∙ by (cases_Bool (is_genuine_permanode facts accepts p))
    where
      by : (is_genuine_permanode facts accepts p ≡ true) ⊎ (is_genuine_permanode facts accepts p ≡ false)
          → cond (is_genuine_permanode facts accepts p) (row_last_change facts deletes changes when p) None
          ≡ last_change facts accepts when p
      by (inl t) = ap (λ b. cond b (row_last_change facts deletes changes when p) None) t
          ∙ rows_tell_last_change facts accepts deletes changes rest.deleted rest.changed when p t
      by (inr f) = ap (λ b. cond b (row_last_change facts deletes changes when p) None) f
          ∙ no_change facts accepts when p (sym f)

  pub size_told : (r : List ℕ) → told_size facts state r ≡ file_size facts r
  size_told r = ap (λ b. cond (b
      && passes (λ fact. is_file fact.kind) (get facts r)) (tree_size facts r) None) (states.sound r)

  pub holders_told : (name value : List ℕ) → rows_holding holders name value ≡ holders_of facts accepts name value
  holders_told = rows_tell_holders facts accepts state waiters deletes changes holders rest

  holds_told : (when : When) (name value p : List ℕ)
      → told_holds facts state deletes changes when name value p ≡ is_holder facts accepts when name value p
  holds_told when name value p =
      (λ i. (permanode_told p i && not (deletion_told when p i))
      && list_any (bytes_eq value) (row_values facts deletes changes when p name))
      ∙ by (cases_Bool (is_genuine_permanode facts accepts p))
    where
      has : List (List ℕ) → Bool
      has vs = list_any (bytes_eq value) vs

      by : (is_genuine_permanode facts accepts p ≡ true) ⊎ (is_genuine_permanode facts accepts p ≡ false)
          → ((is_genuine_permanode facts accepts p && not (is_deleted facts accepts when p))
          && has (row_values facts deletes changes when p name)) ≡ is_holder facts accepts when name value p
      by (inl t) = ap (λ vs. (is_genuine_permanode facts accepts p && not (is_deleted facts accepts when p))
          && has vs) (rows_tell_values facts accepts deletes changes rest.deleted rest.changed when p name t)
      by (inr f) =
          ap (λ b. (b && not (is_deleted facts accepts when p)) && has (row_values facts deletes changes when p name)) f
          ∙ sym (ap (λ b. (b && not (is_deleted facts accepts when p)) && has_value facts accepts when name value p) f)

  pub parents_told : (when : When) (child : List ℕ)
      → told_parents facts state deletes changes holders when child ≡ parents facts accepts when child
  parents_told Always child = holders_told member_attribute child
  parents_told (At now) child =
      (λ i. filter (λ p. holds_told (At now) member_attribute child p i) (keys facts))
      ∙ holders_are facts accepts (At now) member_attribute child
