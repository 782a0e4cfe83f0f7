-- What `multi` means: a key signs a claim of the changes that the input lists (docs/commands.md).
use Rattle.std.specs.Prelude.{◌≡◌, ℕ, true, false, List, [], Option, Some, None, unwrap_or}
use Rattle.blobref.specs.Blobref.{ref_of}
use Rattle.edge_base.specs.Edge.{FaultsRose}
use Rattle.edge_base.specs.declared.edge.Source.{Ghosts as SourceGhosts}
use Rattle.schema_fact.specs.declared.changes.Change.{Change}
use Rattle.schema_fact.specs.declared.kinds.What.TheVariants.{Multi}
use Rattle.schema_json.specs.Facts.{key_blob, change_list_in}
use Rattle.schema_write.specs.Blobs.{claim_payload}
use Rattle.top_frame.specs.declared.status.InputFault.{InputFault}
use Rattle.top_frame.specs.declared.status.InputFault.TheVariants.{TooLong, BadChanges}
use Rattle.top_frame.specs.declared.status.Status.{Status}
use Rattle.top_frame.specs.declared.status.Status.TheVariants as status
use Rattle.top_frame.specs.Frame.{Meaning, Given, reads_first, GaveWhole, IsTooBig}
use Rattle.top_notes.specs.Meanings.{Keys, signed_meaning}

-- the most bytes that a list of changes may have
abbrev pub longest_changes : ℕ
longest_changes = 1048576

abbrev pub unless_listed : Option (List Change) → Option InputFault
unless_listed (Some changes) = None
unless_listed None = Some BadChanges

-- a text that is no list of changes
abbrev pub bad_changes : List ℕ → Option InputFault
bad_changes text = unless_listed (change_list_in text)

-- the payload of a claim of the changes that a text lists
abbrev pub changes_payload : List ℕ → Given → List ℕ
changes_payload name given =
    claim_payload (ref_of (key_blob name)) given.date_text (Multi (unwrap_or (change_list_in given.input) []))

abbrev pub multi_meaning : Keys → List ℕ → Meaning
multi_meaning keys name =
    signed_meaning keys name true false (reads_first longest_changes) TooLong bad_changes (changes_payload name)

-- ---- the step that reads it

-- a text was read that lists these changes
pub record ReadsChanges {S : Type 0} (g : SourceGhosts S) (old new : S) (changes : List Change) : Type 0 where
  pub text : List ℕ
  pub read : GaveWhole longest_changes (g.left old) (g.left new) text
  pub listed : change_list_in text ≡ Some changes

-- a text was read that is no list of changes
pub record ReadsNoChanges {S : Type 0} (g : SourceGhosts S) (old new : S) : Type 0 where
  pub text : List ℕ
  pub read : GaveWhole longest_changes (g.left old) (g.left new) text
  pub unlisted : change_list_in text ≡ None

abbrev pub RefusesListFault : {S : Type 0} → SourceGhosts S → S → S → InputFault → Type 0
RefusesListFault g old new (TooLong size) = IsTooBig size longest_changes (g.left old) (g.left new)
RefusesListFault g old new BadChanges = ReadsNoChanges g old new
RefusesListFault g old new _ = ⊥

-- why no changes were read
abbrev pub RefusesChanges : {S : Type 0} → SourceGhosts S → S → S → Status → Type 0
RefusesChanges g old new status.ReadFault = FaultsRose (g.faults old) (g.faults new)
RefusesChanges g old new (status.BadInput fault) = RefusesListFault g old new fault
RefusesChanges g old new status.NoMemory = Unit {0}
RefusesChanges g old new _ = ⊥
