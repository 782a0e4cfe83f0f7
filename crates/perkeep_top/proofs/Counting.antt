-- What was signed and stored counts.
use Rattle.std.proofs.Common.{◌≡◌, ◌∙◌, ◌&&◌, ℕ, ℤ, Bool, true, List, [], ◌∷◌, Some, None, length, option_map, codes}
use Rattle.std.proofs.Common.{refl, sym, ap, subst}
use Rattle.std.specs.FinMap.{get}
use Rattle.std.specs.List.{list_all}
use Rattle.blobref.specs.Blobref.{ref_of}
use Rattle.blobref.proofs.Digests.{is_blobref-ref_of}
use Rattle.claim_verify.specs.KeyName.{is_key_name}
use Rattle.schema_fact.specs.Dependencies.{dependencies, target_of}
use Rattle.schema_fact.specs.declared.kinds.Fact.{Fact}
use Rattle.schema_fact.specs.declared.kinds.Kind.{Kind}
use Rattle.schema_fact.specs.declared.kinds.Kind.TheVariants.{Key, Permanode, Claim}
use Rattle.schema_fact.specs.declared.kinds.Signed.{Signed}
use Rattle.schema_fact.specs.declared.kinds.What.{What}
use Rattle.schema_fact.specs.declared.kinds.What.TheVariants.{Delete}
use Rattle.schema_json.specs.Facts.{fact_of, key_blob}
use Rattle.schema_write.specs.Blobs.{permanode_payload, claim_payload, signed}
use Rattle.schema_write.specs.Laws.{Says, MayBeSaid}
use Rattle.schema_write.proofs.ClaimsRead.{permanode_read, claim_read}
use Rattle.schema_write.proofs.Objects.{key_read}
use Rattle.schema_write.proofs.SignedRead.{signed_fits}
use Rattle.claim_model.specs.Facts.{Content, Facts, passes}
use Rattle.claim_model.specs.Ready.{is_ready}
use Rattle.claim_model.specs.Genuine.{key_accepts, signature, is_signed, is_genuine}
use Rattle.claim_model.proofs.Held.{facts_are_read}
use Rattle.claim_model.proofs.Rounds.{ready_is_settled}
use Rattle.perkeep_words.specs.Forms.{texts_at, position_at, text_of}
use Rattle.perkeep_words.specs.Parts.{Part}
use Rattle.perkeep_words.specs.Reading.{IsRight, command_at, change_at}
use Rattle.perkeep_words.specs.declared.reading.Command.{Command}
use Rattle.perkeep_words.specs.declared.table.CommandName.{CommandName}
use Rattle.perkeep_words.specs.declared.table.CommandName.TheVariants as called
use Rattle.perkeep_words.proofs.Fitting.{option_is_key}
use Rattle.fact_lines.specs.Blobs.{facts_of_content}
use Rattle.top_notes.specs.Notes.{sealed, CanBeSigned}
use Rattle.top_notes.proofs.Signing.{sealed_as}
use Rattle.top_frame.specs.declared.status.Status.TheVariants.{Done}
use Rattle.top_frame.specs.Frame.{Ends}
use Rattle.top_notes.specs.Meanings.{Keys, permanode_meaning, claim_meaning, what_of}
use Rattle.top_frame.specs.Outside.{Outside, World}
use Rattle.perkeep_top.specs.Run.{Runs, meaning_of}
use Rattle.perkeep_top.specs.SearchWords.{search_words_of}
use Rattle.perkeep_top.specs.Stored.{signed_by, NoteCounts, StoresClaim, StoresPermanode, StoresAsked, StoredNotesCount}
use Rattle.perkeep_top.proofs.Asked.{AreTexts, asked_is, may_claim, may_delete}

-- what is signed by a key, and depends on it first
record IsSigned (kind : Signed → Kind) (beside : List (List ℕ)) : Type 0 where
  signature_is : (signed : Signed) → signature (kind signed) ≡ Some signed
  depends : (size : ℕ) (signed : Signed) → dependencies (record { size = size; kind = kind signed })
      ≡ signed.signer ∷ beside

claim_signed : (date : ℤ) (what : What) → IsSigned (λ signed. Claim signed date what) (target_of what)
claim_signed date what = record { signature_is = λ signed. refl; depends = λ size signed. refl }

permanode_signed : IsSigned Permanode []
permanode_signed = record { signature_is = λ signed. refl; depends = λ size signed. refl }

-- a blob that stands in a content has its fact there
fact_at : (content : Content) (r blob : List ℕ) (kind : Kind) → get content r ≡ Some blob → Says blob kind
    → get (facts_of_content content) r ≡ Some (record { size = length blob; kind = kind })
fact_at content r blob kind stands says = facts_are_read fact_of content r ∙ ap (option_map fact_of) stands
    ∙ ap Some says

module _ (keys : Keys)
    (accepted : (name payload sig : List ℕ) → keys.seals name payload ≡ Some sig → keys.accepts name payload sig ≡ true)
    (name payload : List ℕ) (kind : Signed → Kind) (beside : List (List ℕ))
    (is_signed_so : IsSigned kind beside) (named : is_key_name name ≡ true) (can : CanBeSigned keys.seals name payload)
    (says : Says (signed payload can.sig) (kind (signed_by name payload can.sig))) where
  abbrev blob : List ℕ
  blob = sealed keys.seals name payload

  abbrev by_key : Signed
  by_key = signed_by name payload can.sig

  blob_says : Says blob (kind by_key)
  blob_says = subst (λ (b : List ℕ). Says b (kind by_key)) (sealed_as keys.seals name payload can.sig can.made) says

  -- in a content in which both stand
  module _ (content : Content) (key_there : get content by_key.signer ≡ Some (key_blob name))
      (blob_there : get content (ref_of blob) ≡ Some blob)
      (rest : list_all (is_ready (facts_of_content content)) beside ≡ true) where
    abbrev facts : Facts
    facts = facts_of_content content

    abbrev all_ready : Fact → Bool
    all_ready fact = list_all (is_ready facts) (dependencies fact)

    key_at : get facts by_key.signer ≡ Some (record { size = length (key_blob name); kind = Key name })
    key_at = fact_at content by_key.signer (key_blob name) (Key name) key_there (key_read name named)

    blob_at : get facts (ref_of blob) ≡ Some (record { size = length blob; kind = kind by_key })
    blob_at = fact_at content (ref_of blob) blob (kind by_key) blob_there blob_says

    key_ready : is_ready facts by_key.signer ≡ true
    key_ready = ready_is_settled facts by_key.signer ∙ ap (passes all_ready) key_at

    blob_ready : is_ready facts (ref_of blob) ≡ true
    blob_ready =
        ready_is_settled facts (ref_of blob) ∙ ap (passes all_ready) blob_at
        ∙ ap (list_all (is_ready facts)) (is_signed_so.depends (length blob) by_key)
        ∙ (λ i. key_ready i && rest i)

    blob_signed : passes (is_signed facts keys.accepts) (get facts (ref_of blob)) ≡ true
    blob_signed =
        ap (passes (is_signed facts keys.accepts)) blob_at
        ∙ ap (passes (λ (s : Signed). passes (λ (signer : Fact). key_accepts keys.accepts s signer.kind)
        (get facts s.signer))) (is_signed_so.signature_is by_key)
        ∙ ap (passes (λ (signer : Fact). key_accepts keys.accepts by_key signer.kind)) key_at
        ∙ accepted name payload can.sig can.made

    blob_genuine : is_genuine facts keys.accepts (ref_of blob) ≡ true
    blob_genuine = λ i. blob_ready i && blob_signed i

  counts : NoteCounts keys name payload kind beside
  counts = record {
    sig = can.sig;
    key_says = key_read name named;
    says = blob_says;
    accepted = accepted name payload can.sig can.made;
    genuine = blob_genuine;
  }

module _ {D P S K C R : Type 0} (o : Outside D P S K C R) (keys : Keys)
    (accepted : (name payload sig : List ℕ) → keys.seals name payload ≡ Some sig → keys.accepts name payload sig ≡ true)
  where
    module _ (old new : World D P S K C R) where
      claim_stored : (name : List ℕ) (what : What) → is_key_name name ≡ true → MayBeSaid what
          → Ends o (claim_meaning keys name what) old new Done → StoresClaim o keys old new name what
      claim_stored name what named may ends =
          let end = ends.ends in
          let time = end.drawn.0 refl in
          let payload = claim_payload (ref_of (key_blob name)) end.given.date_text what in
          let can = end.output.can in (
            end.given,
            time,
            record {
              put = end.put;
              held = end.held;
              counts = counts keys accepted name payload (λ signed. Claim signed end.given.date what) (target_of what)
                  (claim_signed end.given.date what) named can
                  (claim_read (ref_of (key_blob name)) end.given.date end.given.date_text what can.sig
                  (is_blobref-ref_of (key_blob name)) time.range time.text may can.bytes
                  (signed_fits payload can.sig can.bytes can.within));
            },
          )

      permanode_stored : (name : List ℕ) → is_key_name name ≡ true → Ends o (permanode_meaning keys name) old new Done
          → StoresPermanode o keys old new name
      permanode_stored name named ends =
          let end = ends.ends in
          let random = end.drawn.1 refl in
          let payload = permanode_payload (ref_of (key_blob name)) end.given.random in
          let can = end.output.can in (
            end.given,
            random,
            record {
              put = end.put;
              held = end.held;
              counts = counts keys accepted name payload Permanode [] permanode_signed named can
                  (permanode_read (ref_of (key_blob name)) end.given.random can.sig (is_blobref-ref_of (key_blob name))
                  random.sixteen can.bytes);
            },
          )

      asked_stored : (called : CommandName) (parts : List Part) → IsRight (called, parts) → AreTexts (texts_at None parts)
          → Ends o (meaning_of o.disk old.disk keys (command_at called parts)) old new Done
          → StoresAsked o keys old new (command_at called parts)
      asked_stored called.Permanode parts right texts ends =
          permanode_stored (text_of (codes "key") parts)
          (option_is_key (called.Permanode, parts) (codes "key") right (refl, refl)) ends
      asked_stored called.Claim parts right texts ends =
          claim_stored (text_of (codes "key") parts)
          (what_of (change_at 1 parts) (position_at 2 parts) (position_at 3 parts) (position_at 4 parts))
          (option_is_key (called.Claim, parts) (codes "key") right (refl, refl))
          (may_claim parts (change_at 1 parts) right texts) ends
      asked_stored called.Delete parts right texts ends =
          claim_stored (text_of (codes "key") parts) (Delete (position_at 1 parts))
          (option_is_key (called.Delete, parts) (codes "key") right (refl, refl)) (may_delete parts right) ends
      asked_stored called.Put parts right texts ends = tt
      asked_stored called.Get parts right texts ends = tt
      asked_stored called.Stat parts right texts ends = tt
      asked_stored called.List parts right texts ends = tt
      asked_stored called.Search parts right texts ends = tt
      asked_stored called.Words parts right texts ends = tt
      asked_stored called.Query parts right texts ends = tt
      asked_stored called.Multi parts right texts ends = tt
      asked_stored called.Salvage parts right texts ends = tt
      asked_stored called.SearchPack parts right texts ends = tt
      asked_stored called.PutFile parts right texts ends = tt
      asked_stored called.GetFile parts right texts ends = tt
      asked_stored called.Push parts right texts ends = tt
      asked_stored called.Pull parts right texts ends = tt
      asked_stored called.Load parts right texts ends = tt

    pub notes_count : StoredNotesCount o keys
    notes_count words asked old new utf8 is runs =
        let line = asked_is words asked is in
        let ends : Ends o (meaning_of o.disk old.disk keys asked) old new Done = subst
        (λ c. Runs o keys (search_words_of words) c old new Done) is runs in
        subst (λ (a : Command). StoresAsked o keys old new a) line.is
        (asked_stored old new line.line.0 line.line.1 line.right (line.texts utf8)
        (subst (λ (a : Command). Ends o (meaning_of o.disk old.disk keys a) old new Done) (sym line.is) ends))
