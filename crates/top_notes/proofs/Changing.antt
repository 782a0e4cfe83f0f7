-- How `multi` ends: where no changes were read, and as a claim of those that were.
use Rattle.std.proofs.Common.{◌≡◌, inl, ℕ, ◌≤◌, true, false, Option, None, Some, List, [], refl, sym, ap, IfOk, IfErr}
use Rattle.std.proofs.Common.{unwrap_or}
use Rattle.std.specs.Option.{ok_or}
use Rattle.blobref.specs.Blobref.{ref_of}
use Rattle.edge_base.specs.declared.edge.Source.{Ghosts as SourceGhosts}
use Rattle.schema_fact.specs.declared.changes.Change.{Change}
use Rattle.schema_fact.specs.declared.kinds.What.TheVariants.{Multi}
use Rattle.schema_json.specs.Facts.{key_blob, change_list_in}
use Rattle.schema_write.specs.Blobs.{claim_payload}
use Rattle.pack_disk.specs.Packs.{Packs}
use Rattle.top_frame.specs.declared.status.InputFault.TheVariants.{BadRef, BadDate, BadNumber, BadName, TooBig}
use Rattle.top_frame.specs.declared.status.InputFault.TheVariants.{NotAFile, Short, Deep, NoKey, TooLong, BadQuery}
use Rattle.top_frame.specs.declared.status.InputFault.TheVariants.{BadChanges, Words}
use Rattle.top_frame.specs.declared.status.Status.{Status}
use Rattle.top_frame.specs.declared.status.Status.TheVariants as status
use Rattle.top_frame.specs.Frame.{Meaning, Given, GaveWhole, read_too_much, read_wrongly, EndsBy, Ends}
use Rattle.top_notes.specs.Multi.{longest_changes, unless_listed, bad_changes, changes_payload, multi_meaning}
use Rattle.top_notes.specs.Multi.{ReadsChanges, RefusesChanges}
use Rattle.top_notes.specs.Meanings.{Keys, unless_held, claim_meaning}
use Rattle.top_frame.specs.Outside.{Outside, World, world}
use Rattle.top_frame.proofs.Ending.{Begun, begun, Far, far_read}
use Rattle.top_notes.proofs.Sealing.{with_text, signed_after}

-- ---- the step that reads them

module _ {S : Type 0} (g : SourceGhosts S) (old new : S) (text : List ℕ)
    (read : GaveWhole longest_changes (g.left old) (g.left new) text) where
  pub listed_in : (found : Option (List Change)) → found ≡ change_list_in text
      → IfOk (ok_or found (status.BadInput BadChanges)) (ReadsChanges g old new)
  listed_in (Some changes) is = record { text = text; read = read; listed = sym is }
  listed_in None is = tt

  pub unlisted_in : (found : Option (List Change)) → found ≡ change_list_in text
      → IfErr (ok_or found (status.BadInput BadChanges)) (RefusesChanges g old new)
  unlisted_in (Some changes) is = tt
  unlisted_in None is = record { text = text; read = read; unlisted = sym is }

-- ---- a run whose name is held

module _ {D P S K C R : Type 0} (o : Outside D P S K C R)
    (counts_now : (d : D) (t : ℕ) (c : Packs) → t ≤ o.disk.moment d → o.disk.images d c → o.disk.images_since d t c)
    (only_now : (d : D) (c : Packs) → o.disk.images_since d (o.disk.moment d) c → o.disk.images d c)
    (keys : Keys) (name : List ℕ) (held : keys.holds name ≡ true) (b : World D P S K C R) (s : S)
    (later : o.source.faults b.source ≤ o.source.faults s) where
  abbrev m : Meaning
  m = multi_meaning keys name

  fit : m.bad ≡ None
  fit = ap unless_held held

  abbrev between : World D P S K C R
  between = world b.disk b.peer s b.sink b.clock b.dice

  -- no changes were read
  pub unread_changes : (end : Status) → RefusesChanges o.source b.source s end → Ends o m b between end
  unread_changes end why = record { always = far.at.always; ends = by end why }
    where
      run : Begun D P S K C R
      run = begun o counts_now only_now m fit refl b

      far : Far run between [] []
      far = far_read run s (λ e. absurd (cc e)) later

      by : (end : Status) → RefusesChanges o.source b.source s end → EndsBy o m b between end
      by status.ReadFault w = record { unasked = refl; unwritten = refl; unsent = refl; why = (fit, w) }
      by (status.BadInput (TooLong size)) w = read_too_much
          (record { unasked = refl; unwritten = refl; unsent = refl; why = (fit, (size, refl, w)) })
      by (status.BadInput BadChanges) w = read_wrongly
          (record {
            unasked = refl;
            unwritten = refl;
            unsent = refl;
            why = (fit, w.text, w.read, ap unless_listed w.unlisted);
          })
      by status.NoMemory w = inl (record { unasked = refl; unwritten = refl; unsent = refl; why = tt })
      by (status.BadInput BadRef) w = absurd w
      by (status.BadInput BadDate) w = absurd w
      by (status.BadInput BadNumber) w = absurd w
      by (status.BadInput BadName) w = absurd w
      by (status.BadInput (TooBig size)) w = absurd w
      by (status.BadInput (NotAFile r)) w = absurd w
      by (status.BadInput (Short r has wants)) w = absurd w
      by (status.BadInput (Deep r)) w = absurd w
      by (status.BadInput NoKey) w = absurd w
      by (status.BadInput (BadQuery fault)) w = absurd w
      by (status.BadInput (Words fault)) w = absurd w
      by status.Done w = absurd w
      by status.WriteFault w = absurd w
      by status.Disk w = absurd w
      by status.BadWords w = absurd w
      by status.ListenerFault w = absurd w
      by status.HandFault w = absurd w
      by status.Peer w = absurd w
      by (status.BadReply fault) w = absurd w
      by (status.Absent r) w = absurd w
      by (status.Full blobs pack) w = absurd w
      by (status.Damaged want is) w = absurd w

  -- these changes were read, and a claim of them ended
  module _ (text : List ℕ) (read : GaveWhole longest_changes (o.source.left b.source) (o.source.left s) text)
      (changes : List Change) (listed : change_list_in text ≡ Some changes) where
    same_payload : (given : Given) → claim_payload (ref_of (key_blob name)) given.date_text (Multi changes)
        ≡ changes_payload name (with_text text given)
    same_payload given = ap (λ (found : Option (List Change)). claim_payload (ref_of (key_blob name)) given.date_text
        (Multi (unwrap_or found []))) (sym listed)

    pub claimed : (new : World D P S K C R) (end : Status)
        → Ends o (claim_meaning keys name (Multi changes)) between new end → Ends o m b new end
    claimed new end w =
        signed_after o keys name held true false longest_changes TooLong bad_changes (changes_payload name)
        (λ (given : Given). claim_payload (ref_of (key_blob name)) given.date_text (Multi changes))
        text (ap unless_listed listed) same_payload b s later read new end w
