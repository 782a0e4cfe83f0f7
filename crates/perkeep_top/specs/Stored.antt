-- What `permanode`, `claim` and `delete` stored counts (docs/claims.md).
use Rattle.std.specs.Prelude.{◌≡◌, ℕ, true, List, [], Some, Ok, All}
use Rattle.std.specs.FinMap.{get}
use Rattle.std.specs.List.{list_all}
use Rattle.std.specs.Str.{IsUtf8}
use Rattle.blobref.specs.Blobref.{ref_of}
use Rattle.schema_fact.specs.Dependencies.{target_of}
use Rattle.schema_fact.specs.declared.kinds.Kind.{Kind}
use Rattle.schema_fact.specs.declared.kinds.Kind.TheVariants.{Key, Permanode, Claim}
use Rattle.schema_fact.specs.declared.kinds.Signed.{Signed}
use Rattle.schema_fact.specs.declared.kinds.What.{What}
use Rattle.schema_fact.specs.declared.kinds.What.TheVariants.{Delete}
use Rattle.schema_json.specs.Facts.{key_blob}
use Rattle.schema_write.specs.Blobs.{permanode_payload, claim_payload}
use Rattle.schema_write.specs.Laws.{Says}
use Rattle.claim_model.specs.Facts.{Content}
use Rattle.claim_model.specs.Ready.{is_ready}
use Rattle.claim_model.specs.Genuine.{is_genuine}
use Rattle.pack_disk.specs.Disk.{Tells}
use Rattle.pack_store.specs.Puts.{PutsAll, HoldAll}
use Rattle.perkeep_words.specs.Reading.{command_of}
use Rattle.perkeep_words.specs.declared.reading.Command.{Command}
use Rattle.perkeep_words.specs.declared.reading.Command.TheVariants as command
use Rattle.fact_lines.specs.Blobs.{facts_of_content}
use Rattle.top_notes.specs.Notes.{sealed}
use Rattle.top_frame.specs.declared.status.Status.TheVariants.{Done}
use Rattle.top_frame.specs.Frame.{Given, IsTime, AreRandom}
use Rattle.top_frame.specs.Limits.{limits}
use Rattle.top_notes.specs.Meanings.{Keys, note_blobs, what_of}
use Rattle.top_frame.specs.Outside.{Outside, World}
use Rattle.perkeep_top.specs.Run.{Runs}
use Rattle.perkeep_top.specs.SearchWords.{search_words_of}

-- signed by the key of that name
abbrev pub signed_by : (name payload sig : List ℕ) → Signed
signed_by name payload sig = record { signer = ref_of (key_blob name); payload = payload; sig = sig }

-- A payload that the key signed counts as a blob of this kind. The key's blob says the key's name; the signed one says
-- that it is of the kind, signed by that key; and the keys accept the signature. So among any blobs of which both are,
-- each under its ref, it is genuine, once what it depends on beside the key is ready.
pub record NoteCounts (keys : Keys) (name payload : List ℕ) (kind : Signed → Kind)
    (beside : List (List ℕ)) : Type 0 where
  pub sig : List ℕ
  pub key_says : Says (key_blob name) (Key name)
  pub says : Says (sealed keys.seals name payload) (kind (signed_by name payload sig))
  pub accepted : keys.accepts name payload sig ≡ true
  pub genuine : (content : Content) → get content (ref_of (key_blob name)) ≡ Some (key_blob name)
      → get content (ref_of (sealed keys.seals name payload)) ≡ Some (sealed keys.seals name payload)
      → list_all (is_ready (facts_of_content content)) beside ≡ true
      → is_genuine (facts_of_content content) keys.accepts (ref_of (sealed keys.seals name payload)) ≡ true

module _ {D P S K C R : Type 0} (o : Outside D P S K C R) (keys : Keys) where
  module _ (old new : World D P S K C R) where
    -- the key's blob and the signed one were put, every image holds their refs, and the signed one counts
    pub record StoresNote (name payload : List ℕ) (kind : Signed → Kind) (beside : List (List ℕ)) : Type 0 where
      pub put : Tells (o.disk.packs old.disk) (o.disk.packs new.disk)
          (PutsAll limits (note_blobs keys.seals name payload))
      pub held : HoldAll (o.disk.images new.disk) (note_blobs keys.seals name payload)
      pub counts : NoteCounts keys name payload kind beside

    -- a claim of the clock's time, which says this; a deletion depends on its target too
    abbrev pub StoresClaim : List ℕ → What → Type 0
    StoresClaim name what =
        (given : Given) × IsTime (o.clock.time old.clock) given
        × StoresNote name (claim_payload (ref_of (key_blob name)) given.date_text what)
        (λ signed. Claim signed given.date what) (target_of what)

    -- a permanode of the random bytes of the dice
    abbrev pub StoresPermanode : List ℕ → Type 0
    StoresPermanode name =
        (given : Given) × AreRandom (o.dice.random old.dice) given
        × StoresNote name (permanode_payload (ref_of (key_blob name)) given.random) Permanode []

    -- what each command stored, of those that sign
    abbrev pub StoresAsked : Command → Type 0
    StoresAsked (command.Permanode dir name) = StoresPermanode name
    StoresAsked (command.Claim dir kind r attr value name) = StoresClaim name (what_of kind r attr value)
    StoresAsked (command.Delete dir r name) = StoresClaim name (Delete r)
    StoresAsked _ = Unit {0}

  -- where words that are texts asked for a command, and the run of them ended with all done, what it signed was stored
  -- and counts
  abbrev pub StoredNotesCount : Type 0
  StoredNotesCount = (words : List (List ℕ)) (asked : Command) (old new : World D P S K C R) → All IsUtf8 words
      → command_of words ≡ Some (Ok asked)
      → Runs o keys (search_words_of words) (command_of words) old new Done → StoresAsked old new asked
