-- The refs that one fact more touches, as a list. The steps that an index takes for the fact are counted by it.
use Rattle.std.specs.Prelude.{ℕ, zero, suc, ◌&&◌, ◌||◌, ◌++◌, Bool, true, false, not, List, [], ◌∷◌, map, filter, flat_map, Option, Some, None, if◌then◌else◌}
use Rattle.std.specs.Str.{bytes_eq}
use Rattle.std.specs.FinMap.{get, insert, keys, entries, from_entries, len}
use Rattle.blobref.specs.Blobref.{ref_cmp}
use Rattle.claim_verify.specs.Verifier.{Accepts}
use Rattle.schema_date.specs.declared.date.When.TheVariants.{Always}
use Rattle.schema_fact.specs.declared.kinds.Fact.{Fact}
use Rattle.schema_fact.specs.declared.kinds.What.{What}
use Rattle.schema_fact.specs.declared.kinds.What.TheVariants.{Set, Add, Del, Delete, Multi}
use Rattle.schema_fact.specs.declared.kinds.Kind.{Kind}
use Rattle.schema_fact.specs.declared.kinds.Kind.TheVariants.{Plain, Key, File, Bytes, Directory, StaticSet, Permanode, Claim, Unread}
use Rattle.schema_fact.specs.declared.changes.Change.{Change}
use Rattle.schema_fact.specs.Changes.{changes_of}
use Rattle.schema_fact.specs.Dependencies.{dependencies}
use Rattle.claim_model.specs.Facts.{Facts, passes, is_permanode}
use Rattle.claim_model.specs.Ready.{is_ready}
use Rattle.claim_model.specs.Genuine.{is_genuine}
use Rattle.claim_model.specs.Claims.{Moment, changes_on}
use Rattle.index_rows.specs.Changes.{keys_alone}
use Rattle.index_rows.specs.Deletes.{target_in}

-- ---- the refs that become ready, and dependencies

-- whether y is ready, and wasn't before
abbrev pub becomes : (List ℕ → Bool) → Facts → List ℕ → Bool
becomes before more y = is_ready more y && not (before y)

-- the refs that are ready, and weren't before
abbrev pub became : (List ℕ → Bool) → Facts → List (List ℕ)
became before more = filter (becomes before more) (keys more)

abbrev pub fact_needs : Option Fact → List (List ℕ)
fact_needs None = []
fact_needs (Some fact) = dependencies fact

-- the refs that the fact of r depends on, once for each place where one is named
abbrev pub needs_of : Facts → List ℕ → List (List ℕ)
needs_of facts r = fact_needs (get facts r)

-- the refs that depend on one that passes, once for each place where it is named
abbrev pub namings : Facts → (List ℕ → Bool) → List (List ℕ)
namings facts test = flat_map (λ e. map (λ d. e.0) (filter test (dependencies e.1))) (entries facts)

-- ---- chains of delete claims

abbrev pub what_is_delete : What → Bool
what_is_delete (Set on attr value) = false
what_is_delete (Add on attr value) = false
what_is_delete (Del on attr value) = false
what_is_delete (Delete target) = true
what_is_delete (Multi changes) = false

abbrev pub is_delete : Kind → Bool
is_delete Plain = false
is_delete (Key name) = false
is_delete (File name parts) = false
is_delete (Bytes parts) = false
is_delete (Directory name listing) = false
is_delete (StaticSet members) = false
is_delete (Permanode signed) = false
is_delete (Claim signed date what) = what_is_delete what
is_delete (Unread name) = false

abbrev pub is_genuine_delete : Facts → Accepts → List ℕ → Bool
is_genuine_delete facts accepts d = is_genuine facts accepts d && passes (λ fact. is_delete fact.kind) (get facts d)

-- y, its target if y is a delete claim that counts, and further targets as long as the last one is such a claim: at
-- most n refs
abbrev pub chain_within : Facts → (List ℕ → Bool) → ℕ → List ℕ → List (List ℕ)
chain_within facts counts zero y = []
chain_within facts counts (suc n) y = y ∷ (if counts y then chain_within facts counts n (target_in facts y) else [])

-- the targets of a delete claim, the first one being y. A delete claim is ready in a later round than its target, so
-- there are at most as many as there are facts
abbrev pub targets_from : Facts → (List ℕ → Bool) → List ℕ → List (List ℕ)
targets_from facts counts y = chain_within facts counts (len facts) y

-- the last ref of a chain that begins with y
abbrev pub last_ref : List ℕ → List (List ℕ) → List ℕ
last_ref y [] = y
last_ref y (x ∷ xs) = last_ref x xs

-- a genuine delete claim, its target, and further targets as long as the last one is a genuine delete claim
abbrev pub chain : Facts → Accepts → List ℕ → List (List ℕ)
chain facts accepts d = d ∷ targets_from facts (is_genuine_delete facts accepts) (target_in facts d)

-- ---- changes

abbrev pub kind_changes : Kind → List Change
kind_changes Plain = []
kind_changes (Key name) = []
kind_changes (File name parts) = []
kind_changes (Bytes parts) = []
kind_changes (Directory name listing) = []
kind_changes (StaticSet members) = []
kind_changes (Permanode signed) = []
kind_changes (Claim signed date what) = changes_of what
kind_changes (Unread name) = []

abbrev pub fact_changes : Option Fact → List Change
fact_changes None = []
fact_changes (Some fact) = kind_changes fact.kind

-- the changes of a claim; none for any other ref
abbrev pub changes_in : Facts → List ℕ → List Change
changes_in facts x = fact_changes (get facts x)

-- the refs that the changes of a claim are on, once for each change
abbrev pub changed_by : Facts → List ℕ → List (List ℕ)
changed_by facts x = map (λ change. change.on) (changes_in facts x)

-- the changes on p of the genuine claims, each under its moment: a claim has as many as it has changes on p
abbrev pub group_of : Facts → Accepts → List ℕ → List (Moment × Change)
group_of facts accepts p =
    flat_map (λ e. changes_on p Always e.0 e.1.kind) (filter (λ e. is_genuine facts accepts e.0) (entries facts))

-- the refs of a list, each once
abbrev pub each_once : List (List ℕ) → List (List ℕ)
each_once rs = keys (from_entries {R = ref_cmp} (keys_alone rs))

-- ---- the refs that are touched

-- r, and the refs that are ready with its fact and weren't without it
abbrev pub is_new : Facts → Facts → List ℕ → List ℕ → Bool
is_new facts more r y = bytes_eq y r || becomes (is_ready facts) more y

abbrev pub new_refs : Facts → Facts → List ℕ → List (List ℕ)
new_refs facts more r = filter (is_new facts more r) (keys more)

-- the genuine delete claims among the new refs
abbrev pub new_deletes : Facts → Facts → Accepts → List ℕ → List (List ℕ)
new_deletes facts more accepts r = filter (is_genuine_delete more accepts) (new_refs facts more r)

-- the last ref of its chain
abbrev pub chain_end : Facts → Accepts → List ℕ → List ℕ
chain_end facts accepts d = last_ref d (chain facts accepts d)

-- the last refs of their chains
abbrev pub chain_ends : Facts → Facts → Accepts → List ℕ → List (List ℕ)
chain_ends facts more accepts r = map (chain_end more accepts) (new_deletes facts more accepts r)

-- the refs whose changes are looked at again, each once: the new permanodes, the refs that end a chain, and those that
-- are changed by a claim that is new or ends a chain
abbrev pub changed_refs : Facts → Facts → Accepts → List ℕ → List (List ℕ)
changed_refs facts more accepts r =
    each_once (filter (λ p. passes (λ fact. is_permanode fact.kind) (get more p)) (new_refs facts more r)
    ++ chain_ends facts more accepts r
    ++ flat_map (changed_by more) (new_refs facts more r ++ chain_ends facts more accepts r))

-- the refs that are touched when the fact of r is added
abbrev pub touched_in : Facts → Facts → Accepts → List ℕ → List (List ℕ)
touched_in facts more accepts r =
    -- each new ref
    new_refs facts more r
    -- each dependency of each new ref, once for each place where it is named
    ++ flat_map (needs_of more) (new_refs facts more r)
    -- each ref that names a new ref among its dependencies, once for each place
    ++ namings more (is_new facts more r)
    -- for each new genuine delete claim its chain
    ++ flat_map (chain more accepts) (new_deletes facts more accepts r)
    -- for each of these refs the claim of each genuine change on it
    ++ flat_map (λ p. map (λ c. c.0.1) (group_of more accepts p)) (changed_refs facts more accepts r)

-- the refs that the fact touches when it is put under r
abbrev pub touched : Facts → Accepts → List ℕ → Fact → List (List ℕ)
touched facts accepts r fact = touched_in facts (insert facts r fact) accepts r
