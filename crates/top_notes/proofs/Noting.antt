-- How `permanode`, `claim` and `delete` end, from what each step left.
use Rattle.std.proofs.Common.{◌≡◌, ◌⊎◌, inl, inr, ℕ, ℤ, pos, ◌≤◌, ◌<◌, ◌+◌, Bool, true, false, List, [], ◌∷◌}
use Rattle.std.proofs.Common.{length, refl, sym, ap, subst, ◌∙◌, arith}
use Rattle.std.specs.Option.{ForSome}
use Rattle.blobref.specs.Blobref.{ref_of}
use Rattle.edge_base.specs.Edge.{FaultsRose}
use Rattle.edge_base.specs.Shelf.{Blob}
use Rattle.pack_disk.specs.Packs.{Packs}
use Rattle.pack_disk.specs.Runs.{Stays}
use Rattle.pack_store.specs.Archive.{Archive}
use Rattle.pack_store.specs.Puts.{Stands, PutsBlobs}
use Rattle.schema_date.specs.Dates.{IsInRange}
use Rattle.schema_date.specs.DateTexts.{IsDateText}
use Rattle.schema_fact.specs.declared.kinds.What.{What}
use Rattle.schema_json.specs.Facts.{key_blob}
use Rattle.schema_write.specs.Blobs.{permanode_payload, claim_payload}
use Rattle.schema_write.specs.Laws.{AreBytes, longest_schema, signature_length}
use Rattle.schema_write.specs.declared.draft.DraftFault.{DraftFault}
use Rattle.schema_write.specs.declared.draft.DraftFault.TheVariants as draft
use Rattle.top_frame.specs.declared.status.InputFault.TheVariants.{TooLong}
use Rattle.top_frame.specs.declared.status.Status.{Status}
use Rattle.top_frame.specs.declared.status.Status.TheVariants as status
use Rattle.top_frame.specs.Faults.{put_status, draft_status}
use Rattle.top_frame.specs.Frame.{Meaning, Given, IsDrawn, IsQuiet, Ends}
use Rattle.top_frame.specs.Limits.{limits}
use Rattle.top_frame.specs.Outside.{Outside, World, world}
use Rattle.top_frame.specs.Steps.{Finds, NeverRefuses}
use Rattle.top_frame.proofs.Ending.{Begun, begun, Far, Has, far_start, far_drawn, not_drawn, far_asked, far_put}
use Rattle.top_frame.proofs.Ending.{refused, no_memory, unfit, not_put, finished}
use Rattle.top_notes.specs.Meanings.{Keys, note_meaning, claim_meaning, permanode_meaning, unless_held}
use Rattle.top_notes.specs.Notes.{IsNote, IsClaimNote, RefusesClaim, HasText}
use Rattle.top_notes.specs.Storing.{blobs_in, StoreEnds}
use Rattle.top_notes.specs.declared.notes.Note.{Note}

-- a run whose name is held
module _ {D P S K C R : Type 0} (o : Outside D P S K C R)
    (counts_now : (d : D) (t : ℕ) (c : Packs) → t ≤ o.disk.moment d → o.disk.images d c → o.disk.images_since d t c)
    (only_now : (d : D) (c : Packs) → o.disk.images_since d (o.disk.moment d) c → o.disk.images d c)
    (keys : Keys) (name : List ℕ) (held : keys.holds name ≡ true) (b : World D P S K C R) where
  -- the clock or the dice were asked, for what is signed
  module _ (time random : Bool) (payload : Given → List ℕ) (watch : C) (cup : R)
      (untimed : time ≡ false → watch ≡ b.clock) (undiced : random ≡ false → cup ≡ b.dice)
      (clock_later : o.clock.faults b.clock ≤ o.clock.faults watch)
      (dice_later : o.dice.faults b.dice ≤ o.dice.faults cup) where
    abbrev m : Meaning
    m = note_meaning keys name time random payload

    abbrev run : Begun D P S K C R
    run = begun o counts_now only_now m (ap unless_held held) refl b

    abbrev EndsAt : D → K → Status → Type 0
    EndsAt d k end = Ends o m b (world d b.peer b.source k watch cup) end

    ends_as : (d e : D) (k l : K) (end told : Status) → d ≡ e → k ≡ l → end ≡ told → EndsAt e l told → EndsAt d k end
    ends_as d e k l end told same_disk same_sink is w =
        subst (λ (x : D). EndsAt x k end) (sym same_disk)
        (subst (λ (x : K). EndsAt e x end) (sym same_sink) (subst (EndsAt e l) (sym is) w))

    drawn_far : Far run (world b.disk b.peer b.source b.sink watch cup) [] []
    drawn_far = far_drawn run b.source watch cup (far_start run) untimed undiced clock_later dice_later

    -- the clock or the dice failed
    hand_failed : ((time ≡ true) × FaultsRose (o.clock.faults b.clock) (o.clock.faults watch))
        ⊎ ((random ≡ true) × FaultsRose (o.dice.faults b.dice) (o.dice.faults cup))
        → EndsAt b.disk b.sink status.HandFault
    hand_failed rose = not_drawn run b.source watch cup drawn_far [] (refl, refl) refl rose

    module _ (given : Given) (empty : given.input ≡ [])
        (drawn : IsDrawn m (o.clock.time b.clock) (o.dice.random b.dice) given) where
      has : Has run b.source given
      has = record { read = (refl, empty); right = refl; drawn = drawn }

      -- the store wasn't opened
      note_unopened : (e : D) → Stays o.disk b.disk e → o.disk.faults b.disk ≤ o.disk.faults e → (end : Status)
          → Finds o.disk b.disk e NeverRefuses end → EndsAt e b.sink end
      note_unopened e stays later end why =
          refused run refl b.disk e b.source drawn_far stays later given has refl NeverRefuses (λ end w. absurd w) end
          why

      module _ (first : Archive D) (opened : Stays o.disk b.disk first.disk)
          (opened_later : o.disk.faults b.disk ≤ o.disk.faults first.disk) (stands : Stands o.disk limits first) where
        open_far : Far run (world first.disk b.peer b.source b.sink watch cup) [] []
        open_far = far_asked run refl b.disk first.disk b.source drawn_far opened opened_later

        -- no memory was left for the texts
        note_memory : EndsAt first.disk b.sink status.NoMemory
        note_memory =
            no_memory run (world first.disk b.peer b.source b.sink watch cup) [] [] open_far given (m.blobs given) has
            refl refl

        -- the payload is too long
        note_too_long : (len : ℕ) → len ≡ length (payload given) + signature_length → longest_schema < len
            → EndsAt first.disk b.sink (status.BadInput (TooLong len))
        note_too_long len is long =
            unfit run (world first.disk b.peer b.source b.sink watch cup) [] [] open_far given (m.blobs given) has
            refl refl (TooLong len) (refl, is, long)

        puts_some : IsQuiet m → ⊥
        puts_some q = cc (q given)

        -- the blobs of the note were put and its line was written, or not
        note_stored : (note : Note) → IsNote keys.seals name (payload given) note → (d : D) (k : K) (end : Status)
            → StoreEnds o.disk o.sink note first d b.sink k end → EndsAt d k end
        note_stored note is d k end w = by w
          where
            same : blobs_in note ≡ m.blobs given
            same = λ i. (is.signer i, is.key i) ∷ (is.named i, is.blob i) ∷ []

            far : (now : Archive D) (blobs : List Blob) → PutsBlobs o.disk limits first blobs now
                → o.disk.faults first.disk ≤ o.disk.faults now.disk
                → Far run (world now.disk b.peer b.source b.sink watch cup) blobs []
            far now blobs puts later =
                far_put run refl puts_some first now b.source b.sink [] [] open_far stands puts.crash later refl blobs
                puts

            by : StoreEnds o.disk o.sink note first d b.sink k end → EndsAt d k end
            by (inl w) =
                let puts = subst (λ (l : List Blob). PutsBlobs o.disk limits first l w.new) same w.puts in
                ends_as d w.new.disk k k end end w.is refl refl
                (finished run w.new.disk b.source (m.blobs given) (far w.new (m.blobs given) puts w.later) k given
                note.line drawn (refl, empty) refl (record { line = is.lined; can = is.can }) refl end w.wrote
                w.sink_later)
            by (inr w) =
                let s = w.stops in
                ends_as d w.new.disk k b.sink end (put_status w.fault) w.is w.unwritten w.told
                (not_put run refl puts_some s.between w.new b.source b.sink s.gone []
                (far s.between s.gone s.puts s.puts_later) (s.puts.stands stands) s.crash s.later refl given s.next
                s.rest has (sym same ∙ s.cut) refl s.short w.fault s.refused)

  -- ---- a claim, for which the clock was asked

  module _ (what : What) (watch : C) (clock_later : o.clock.faults b.clock ≤ o.clock.faults watch) where
    abbrev claimed : Given → List ℕ
    claimed given = claim_payload (ref_of (key_blob name)) given.date_text what

    abbrev ClaimEnds : D → K → Status → Type 0
    ClaimEnds d k end = Ends o (claim_meaning keys name what) b (world d b.peer b.source k watch b.dice) end

    -- it failed
    pub claim_untimed : FaultsRose (o.clock.faults b.clock) (o.clock.faults watch)
        → ClaimEnds b.disk b.sink status.HandFault
    claim_untimed rose =
        hand_failed true false claimed watch b.dice (λ e. absurd (cc e)) (λ _. refl) clock_later (omega arith)
        (inl (refl, rose))

    module _ (z : ℤ) (range : IsInRange z) (text : HasText z)
        (clock : ForSome (o.clock.time b.clock) (λ time. z ≡ time)) where
      abbrev given_at : List ℕ → Given
      given_at date = record { input = []; date = z; date_text = date; random = []; pulled = []; lacked = 0; had = 0 }

      timed : (date : List ℕ) → IsDateText z date
          → IsDrawn (claim_meaning keys name what) (o.clock.time b.clock) (o.dice.random b.dice) (given_at date)
      timed date written = (λ _. record { range = range; text = written; clock = clock }, λ e. absurd (cc e))

      -- the store wasn't opened
      pub claim_unopened : (e : D) → Stays o.disk b.disk e → o.disk.faults b.disk ≤ o.disk.faults e → (end : Status)
          → Finds o.disk b.disk e NeverRefuses end → ClaimEnds e b.sink end
      claim_unopened e stays later end why =
          note_unopened true false claimed watch b.dice (λ e. absurd (cc e)) (λ _. refl) clock_later (omega arith)
          (given_at text.text) refl (timed text.text text.written) e stays later end why

      module _ (first : Archive D) (opened : Stays o.disk b.disk first.disk)
          (opened_later : o.disk.faults b.disk ≤ o.disk.faults first.disk) (stands : Stands o.disk limits first) where
        -- no note was made
        pub claim_unmade : (fault : DraftFault) → RefusesClaim name z what fault
            → ClaimEnds first.disk b.sink (draft_status fault)
        claim_unmade (draft.TooLong len) w =
            note_too_long true false claimed watch b.dice (λ e. absurd (cc e)) (λ _. refl) clock_later (omega arith)
            (given_at w.asked.date) refl (timed w.asked.date w.asked.written) first opened opened_later stands len
            (w.fault_is.0 ∙ ap (λ (p : List ℕ). length p + signature_length) w.asked.exact)
            (subst (λ n. longest_schema < n) (sym w.fault_is.0) w.fault_is.1)
        claim_unmade draft.NoMemory w =
            note_memory true false claimed watch b.dice (λ e. absurd (cc e)) (λ _. refl) clock_later (omega arith)
            (given_at text.text) refl (timed text.text text.written) first opened opened_later stands

        -- one was made, and stored or not
        pub claim_stored : (note : Note) → IsClaimNote keys.seals name z what note → (d : D) (k : K) (end : Status)
            → StoreEnds o.disk o.sink note first d b.sink k end → ClaimEnds d k end
        claim_stored note is d k end w =
            note_stored true false claimed watch b.dice (λ e. absurd (cc e)) (λ _. refl) clock_later (omega arith)
            (given_at is.date) refl (timed is.date is.written) first opened opened_later stands note is.is d k end w

  -- ---- a permanode, for which the dice were asked

  module _ (cup : R) (dice_later : o.dice.faults b.dice ≤ o.dice.faults cup) where
    abbrev thrown : Given → List ℕ
    thrown given = permanode_payload (ref_of (key_blob name)) given.random

    abbrev PermanodeEnds : D → K → Status → Type 0
    PermanodeEnds d k end = Ends o (permanode_meaning keys name) b (world d b.peer b.source k b.clock cup) end

    -- they failed
    pub permanode_undiced : FaultsRose (o.dice.faults b.dice) (o.dice.faults cup)
        → PermanodeEnds b.disk b.sink status.HandFault
    permanode_undiced rose =
        hand_failed false true thrown b.clock cup (λ _. refl) (λ e. absurd (cc e)) (omega arith) dice_later
        (inr (refl, rose))

    module _ (random : List ℕ) (sixteen : AreBytes 16 random)
        (dice : ForSome (o.dice.random b.dice) (λ drawn. random ≡ drawn)) where
      abbrev threw : Given
      threw = record { input = []; date = pos 0; date_text = []; random = random; pulled = []; lacked = 0; had = 0 }

      diced : IsDrawn (permanode_meaning keys name) (o.clock.time b.clock) (o.dice.random b.dice) threw
      diced = (λ e. absurd (cc e), λ _. record { sixteen = sixteen; dice = dice })

      -- the store wasn't opened
      pub permanode_unopened : (e : D) → Stays o.disk b.disk e → o.disk.faults b.disk ≤ o.disk.faults e
          → (end : Status) → Finds o.disk b.disk e NeverRefuses end → PermanodeEnds e b.sink end
      permanode_unopened e stays later end why =
          note_unopened false true thrown b.clock cup (λ _. refl) (λ e. absurd (cc e)) (omega arith) dice_later threw
          refl diced e stays later end why

      module _ (first : Archive D) (opened : Stays o.disk b.disk first.disk)
          (opened_later : o.disk.faults b.disk ≤ o.disk.faults first.disk) (stands : Stands o.disk limits first) where
        -- no note was made
        pub permanode_unmade : PermanodeEnds first.disk b.sink status.NoMemory
        permanode_unmade =
            note_memory false true thrown b.clock cup (λ _. refl) (λ e. absurd (cc e)) (omega arith) dice_later threw
            refl diced first opened opened_later stands

        -- one was made, and stored or not
        pub permanode_stored : (note : Note)
            → IsNote keys.seals name (permanode_payload (ref_of (key_blob name)) random) note
            → (d : D) (k : K) (end : Status) → StoreEnds o.disk o.sink note first d b.sink k end
            → PermanodeEnds d k end
        permanode_stored note is d k end w =
            note_stored false true thrown b.clock cup (λ _. refl) (λ e. absurd (cc e)) (omega arith) dice_later threw
            refl diced first opened opened_later stands note is d k end w
