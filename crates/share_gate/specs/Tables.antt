-- The tables of a gate, each over the blobs of some refs.
use Rattle.std.specs.Prelude.{◌≡◌, ◌⊎◌, ℕ, ◌&&◌, Bool, false, not, List, [], codes, if◌then◌else◌}
use Rattle.std.specs.Prelude.{Option, Some, None, option_map, option_and_then, unwrap_or}
use Rattle.std.specs.List.{list_any}
use Rattle.std.specs.Str.{bytes_eq}
use Rattle.std.specs.FinMap.{FinMap, get, insert}
use Rattle.blobref.specs.Blobref.{ref_cmp}
use Rattle.blobref.specs.Sets.{HasSameRefs}
use Rattle.claim_verify.specs.Verifier.{Accepts}
use Rattle.schema_date.specs.declared.date.When.TheVariants.{Always}
use Rattle.schema_fact.specs.declared.kinds.What.{What}
use Rattle.schema_fact.specs.declared.kinds.What.TheVariants.{Set, Add, Del, Delete, Multi}
use Rattle.schema_fact.specs.declared.kinds.Kind.{Kind}
use Rattle.schema_fact.specs.declared.kinds.Kind.TheVariants.{Plain, Key, File, Bytes, Directory, StaticSet}
use Rattle.schema_fact.specs.declared.kinds.Kind.TheVariants.{Permanode, Claim, Unread}
use Rattle.schema_json.specs.Facts.{fact_of}
use Rattle.claim_model.specs.Facts.{Content, Facts, facts_of, passes}
use Rattle.claim_model.specs.Genuine.{is_genuine}
use Rattle.claim_model.specs.Deleted.{is_deleted}
use Rattle.share_model.specs.Links.{links_in}
use Rattle.share_model.specs.Shares.{share_at}
use Rattle.share_model.specs.Reach.{has_link}
use Rattle.share_gate.specs.declared.gate.ShareRow.{ShareRow}
use Rattle.share_gate.specs.Gates.{row_of}

abbrev pub LinkRows : Type 0
LinkRows = FinMap ref_cmp (List (List ℕ))

abbrev pub ShareRows : Type 0
ShareRows = FinMap ref_cmp ShareRow

-- ---- links

-- the links of the blob of a ref; none if it isn't held
abbrev pub links_at : Content → List ℕ → List (List ℕ)
links_at held r = unwrap_or (option_map links_in (get held r)) []

-- the rows are the links of the blobs of these refs
abbrev pub AreLinks : Content → List (List ℕ) → LinkRows → Type 0
AreLinks held refs rows =
    (p q : List ℕ) → passes (list_any (bytes_eq q)) (get rows p) ≡ (list_any (bytes_eq p) refs && has_link held p q)

-- a row of these links was put under the ref, if there are some
abbrev pub PutsLinks : LinkRows → LinkRows → List ℕ → List (List ℕ) → Type 0
PutsLinks old new r links =
    ((row : List (List ℕ)) × (HasSameRefs row links × (new ≡ insert old r row))) ⊎ ((links ≡ []) × (new ≡ old))

-- ---- shares

-- a claim of a kind that facts don't know; each share is one
abbrev pub is_unread_claim : Kind → Bool
is_unread_claim Plain = false
is_unread_claim (Key name) = false
is_unread_claim (File name parts) = false
is_unread_claim (Bytes parts) = false
is_unread_claim (Directory name listing) = false
is_unread_claim (StaticSet members) = false
is_unread_claim (Permanode signed) = false
is_unread_claim (Claim signed date what) = false
is_unread_claim (Unread type) = bytes_eq type (codes "claim")

-- the row of the share at a ref
abbrev pub row_at : Content → Accepts → List ℕ → Option ShareRow
row_at held accepts s = option_map (row_of (facts_of fact_of held) accepts) (share_at held s)

-- the rows are the shares at these refs
abbrev pub AreShares : Content → Accepts → List (List ℕ) → ShareRows → Type 0
AreShares held accepts refs rows =
    (s : List ℕ) → get rows s ≡ (if list_any (bytes_eq s) refs then row_at held accepts s else None)

-- this row was put under the ref, if there is one
abbrev pub PutsShare : ShareRows → ShareRows → List ℕ → Option ShareRow → Type 0
PutsShare old new r (Some row) = new ≡ insert old r row
PutsShare old new r None = new ≡ old

-- ---- deletions

abbrev pub what_target : What → Option (List ℕ)
what_target (Set on attr value) = None
what_target (Add on attr value) = None
what_target (Del on attr value) = None
what_target (Delete target) = Some target
what_target (Multi changes) = None

-- the target of a delete claim
abbrev pub delete_target : Kind → Option (List ℕ)
delete_target Plain = None
delete_target (Key name) = None
delete_target (File name parts) = None
delete_target (Bytes parts) = None
delete_target (Directory name listing) = None
delete_target (StaticSet members) = None
delete_target (Permanode signed) = None
delete_target (Claim signed date what) = what_target what
delete_target (Unread type) = None

-- the ref that the blob of a ref deletes: the target of a genuine delete claim that isn't deleted itself
abbrev pub target_deleted_by : Facts → Accepts → List ℕ → Option (List ℕ)
target_deleted_by facts accepts p =
    option_and_then (λ fact.
    if is_genuine facts accepts p && not (is_deleted facts accepts Always p) then delete_target fact.kind else None)
    (get facts p)

-- these are the refs that the blobs of these refs delete
abbrev pub AreDeleted : Facts → Accepts → List (List ℕ) → List (List ℕ) → Type 0
AreDeleted facts accepts refs targets =
    (s : List ℕ)
    → list_any (bytes_eq s) targets ≡ list_any (λ p. passes (bytes_eq s) (target_deleted_by facts accepts p)) refs
