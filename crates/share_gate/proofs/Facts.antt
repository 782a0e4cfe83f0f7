-- What facts say: which of them are ready, and what they delete.
use Rattle.std.proofs.Common.{◌≡◌, ℕ, ◌&&◌, Bool, true, false, cond, not, List, [], refl, sym, ap, ◌∙◌}
use Rattle.std.proofs.Common.{Option, Some, None, option_and_then}
use Rattle.std.specs.List.{list_all}
use Rattle.std.specs.FinMap.{get}
use Rattle.claim_verify.specs.Verifier.{Accepts}
use Rattle.schema_date.specs.declared.date.When.TheVariants.{Always}
use Rattle.schema_fact.specs.declared.kinds.Fact.{Fact}
use Rattle.schema_fact.specs.declared.kinds.Signed.{Signed}
use Rattle.schema_fact.specs.declared.kinds.Kind.{Kind}
use Rattle.schema_fact.specs.declared.kinds.Kind.TheVariants.{Plain, Key, File, Bytes, Directory, StaticSet}
use Rattle.schema_fact.specs.declared.kinds.Kind.TheVariants.{Permanode, Claim, Unread}
use Rattle.schema_fact.specs.Dependencies.{kind_dependencies, dependencies}
use Rattle.claim_model.specs.Facts.{Facts, passes}
use Rattle.claim_model.specs.Genuine.{key_accepts, signature, is_signed, is_genuine}
use Rattle.claim_model.specs.Ready.{is_ready, ready_fact}
use Rattle.claim_model.specs.Deleted.{is_deleted}
use Rattle.claim_model.proofs.Rounds.{ready_is_settled}
use Rattle.share_model.proofs.Cases.{by_bool}
use Rattle.share_gate.specs.Tables.{delete_target, target_deleted_by}
use Rattle.share_gate.proofs.Small.{cond_none}

-- ---- readiness

module _ (facts : Facts) (r : List ℕ) where
  -- a blob's fact, where it is ready or not
  abbrev where_ready : Bool → Option Fact
  where_ready ready = cond ready (get facts r) None

  -- what depends on nothing is ready
  pub ready_alone : (fact : Fact) → get facts r ≡ Some fact → kind_dependencies fact.kind ≡ []
      → is_ready facts r ≡ true
  ready_alone fact is none =
      ready_is_settled facts r
      ∙ ap (passes (λ f. list_all (is_ready facts) (dependencies f))) is
      ∙ ap (list_all (is_ready facts)) none

  pub found_ready : (fact : Fact) → ready_fact facts r ≡ Some fact
      → (is_ready facts r ≡ true) × (get facts r ≡ Some fact)
  found_ready fact e = by_bool (is_ready facts r)
      (λ yes. (yes, sym (ap where_ready yes) ∙ e))
      (λ none. absurd (cc (sym (ap where_ready none) ∙ e)))

  pub found_unready : (fact : Fact) → ready_fact facts r ≡ None → get facts r ≡ Some fact
      → is_ready facts r ≡ false
  found_unready fact e is = by_bool (is_ready facts r)
      (λ yes. absurd (cc (sym (ap where_ready yes ∙ is) ∙ e)))
      (λ none. none)

-- only keys accept, and they depend on nothing
accepts_alone : (accepts : Accepts) (signed : Signed) (kind : Kind) → key_accepts accepts signed kind ≡ true
    → kind_dependencies kind ≡ []
accepts_alone accepts signed Plain e = refl
accepts_alone accepts signed (Key name) e = refl
accepts_alone accepts signed (File name parts) e = absurd (cc e)
accepts_alone accepts signed (Bytes parts) e = absurd (cc e)
accepts_alone accepts signed (Directory name listing) e = absurd (cc e)
accepts_alone accepts signed (StaticSet members) e = refl
accepts_alone accepts signed (Permanode other) e = absurd (cc e)
accepts_alone accepts signed (Claim other date what) e = absurd (cc e)
accepts_alone accepts signed (Unread type) e = refl

-- so a key needn't be asked whether it is ready
module _ (facts : Facts) (accepts : Accepts) (signed : Signed) where
  abbrev accepting : Option Fact → Bool
  accepting o = passes (λ (key : Fact). key_accepts accepts signed key.kind) o

  abbrev signer_where : Bool → Option Fact
  signer_where ready = cond ready (get facts signed.signer) None

  unready : (o : Option Fact) → get facts signed.signer ≡ o → accepting o ≡ false
      → accepting (ready_fact facts signed.signer) ≡ false
  unready o is refused = by_bool (is_ready facts signed.signer)
      (λ yes. ap (λ b. accepting (signer_where b)) yes ∙ ap accepting is ∙ refused)
      (λ none. ap (λ b. accepting (signer_where b)) none)

  accepted_by : (o : Option Fact) → get facts signed.signer ≡ o
      → accepting (ready_fact facts signed.signer) ≡ accepting (get facts signed.signer)
  accepted_by None is = unready None is refl ∙ sym (ap accepting is)
  accepted_by (Some key) is = by_bool (accepting (Some key))
      (λ yes.
      ap (λ b. accepting (signer_where b))
      (ready_alone facts signed.signer key is (accepts_alone accepts signed key.kind yes)))
      (λ refused. unready (Some key) is refused ∙ sym (ap accepting is ∙ refused))

  pub accepted_where_ready : accepting (ready_fact facts signed.signer) ≡ accepting (get facts signed.signer)
  accepted_where_ready = accepted_by (get facts signed.signer) refl

-- ---- what is deleted

module _ (facts : Facts) (accepts : Accepts) (r : List ℕ) where
  -- what a delete claim deletes, by whether it is genuine
  abbrev target_where : Bool → Fact → Option (List ℕ)
  target_where genuine fact = cond (genuine && not (is_deleted facts accepts Always r)) (delete_target fact.kind) None

  abbrev target_of : Option Fact → Option (List ℕ)
  target_of o = option_and_then (λ (fact : Fact). target_where (is_genuine facts accepts r) fact) o

  -- whether a key accepts this signature
  abbrev accepted_by_key : Signed → Bool
  accepted_by_key signed = passes (λ (key : Fact). key_accepts accepts signed key.kind) (get facts signed.signer)

  -- whether a fact with this signature is signed
  abbrev signed_as : Option Signed → Bool
  signed_as o = passes accepted_by_key o

  module _ (fact : Fact) (found : ready_fact facts r ≡ Some fact) where
    target_is : target_deleted_by facts accepts r ≡ target_where (signed_as (signature fact.kind)) fact
    target_is =
        let f = found_ready facts r fact found in
        ap target_of f.1
        ∙ ap (λ b. target_where (b && passes (is_signed facts accepts) (get facts r)) fact) f.0
        ∙ ap (λ o. target_where (passes (is_signed facts accepts) o) fact) f.1

    pub no_target : delete_target fact.kind ≡ None → None ≡ target_deleted_by facts accepts r
    no_target none =
        sym (target_is
        ∙ ap (λ o. cond (signed_as (signature fact.kind) && not (is_deleted facts accepts Always r)) o None) none
        ∙ cond_none _)

    pub no_signature : signature fact.kind ≡ None → None ≡ target_deleted_by facts accepts r
    no_signature none = sym (target_is ∙ ap (λ o. target_where (signed_as o) fact) none)

    -- by whether the delete claim counts
    target_where_signed : (signed : Signed) (target : List ℕ) (counts : Bool) → signature fact.kind ≡ Some signed
        → delete_target fact.kind ≡ Some target
        → counts ≡ (accepted_by_key signed && not (is_deleted facts accepts Always r))
        → target_deleted_by facts accepts r ≡ cond counts (Some target) None
    target_where_signed signed target counts by_key aim so =
        target_is
        ∙ ap (λ o. target_where (signed_as o) fact) by_key
        ∙ ap (λ o. cond (accepted_by_key signed && not (is_deleted facts accepts Always r)) o None) aim
        ∙ ap (λ b. cond b (Some target) None) (sym so)

    pub target_counted : (signed : Signed) (target : List ℕ) → signature fact.kind ≡ Some signed
        → delete_target fact.kind ≡ Some target
        → true ≡ (accepted_by_key signed && not (is_deleted facts accepts Always r))
        → Some target ≡ target_deleted_by facts accepts r
    target_counted signed target by_key aim so = sym (target_where_signed signed target true by_key aim so)

    pub target_uncounted : (signed : Signed) (target : List ℕ) → signature fact.kind ≡ Some signed
        → delete_target fact.kind ≡ Some target
        → false ≡ (accepted_by_key signed && not (is_deleted facts accepts Always r))
        → None ≡ target_deleted_by facts accepts r
    target_uncounted signed target by_key aim so = sym (target_where_signed signed target false by_key aim so)

  pub target_unready : ready_fact facts r ≡ None → None ≡ target_deleted_by facts accepts r
  target_unready none = sym (by (get facts r) refl)
    where
      by : (o : Option Fact) → get facts r ≡ o → target_deleted_by facts accepts r ≡ None
      by None is = ap target_of is
      by (Some fact) is =
          ap target_of is
          ∙ ap (λ b. target_where (b && passes (is_signed facts accepts) (get facts r)) fact)
          (found_unready facts r fact none is)
