-- How `query` ends where no query was read.
use Rattle.std.proofs.Common.{◌≤◌, inl, ℕ, [], refl}
use Rattle.claim_verify.specs.Verifier.{Accepts}
use Rattle.pack_disk.specs.Packs.{Packs}
use Rattle.top_frame.specs.declared.status.InputFault.TheVariants.{BadRef, BadDate, BadNumber, BadName, TooBig, NotAFile, Short, Deep, NoKey, TooLong, BadQuery, BadChanges, Words}
use Rattle.top_frame.specs.declared.status.Status.{Status}
use Rattle.top_frame.specs.declared.status.Status.TheVariants as status
use Rattle.top_frame.specs.Frame.{Ends, EndsBy, read_too_much, read_wrongly}
use Rattle.top_frame.specs.Outside.{Outside, World, world}
use Rattle.perkeep_top.specs.Query.{query_meaning, RefusesQuery}
use Rattle.top_frame.proofs.Ending.{Begun, begun, Far, far_read}

module _ {D P S K C R : Type 0} (o : Outside D P S K C R)
    (counts_now : (d : D) (t : ℕ) (c : Packs) → t ≤ o.disk.moment d → o.disk.images d c → o.disk.images_since d t c)
    (only_now : (d : D) (c : Packs) → o.disk.images_since d (o.disk.moment d) c → o.disk.images d c) (accepts : Accepts) (b : World D P S K C R) where
  abbrev run : Begun D P S K C R
  run = begun o counts_now only_now (query_meaning accepts) refl refl b

  pub unread_query : (s : S) → o.source.faults b.source ≤ o.source.faults s → (end : Status) → RefusesQuery o.source b.source s end → Ends o (query_meaning accepts) b (world b.disk b.peer s b.sink b.clock b.dice) end
  unread_query s later end why = record { always = far.at.always; ends = by end why }
    where
      far : Far run (world b.disk b.peer s b.sink b.clock b.dice) [] []
      far = far_read run s (λ e. absurd (cc e)) later

      by : (end : Status) → RefusesQuery o.source b.source s end → EndsBy o (query_meaning accepts) b (world b.disk b.peer s b.sink b.clock b.dice) end
      by status.ReadFault w = record { unasked = refl; unwritten = refl; unsent = refl; why = (refl, w) }
      by (status.BadInput (TooLong size)) w = read_too_much (record { unasked = refl; unwritten = refl; unsent = refl; why = (refl, (size, refl, w)) })
      by (status.BadInput (BadQuery fault)) w = read_wrongly (record { unasked = refl; unwritten = refl; unsent = refl; why = (refl, w.text, w.read, w.faulty) })
      by status.NoMemory w = inl (record { unasked = refl; unwritten = refl; unsent = refl; why = tt })
      by (status.BadInput BadRef) w = absurd w
      by (status.BadInput BadDate) w = absurd w
      by (status.BadInput BadNumber) w = absurd w
      by (status.BadInput BadName) w = absurd w
      by (status.BadInput (TooBig size)) w = absurd w
      by (status.BadInput (NotAFile r)) w = absurd w
      by (status.BadInput (Short r has wants)) w = absurd w
      by (status.BadInput (Deep r)) w = absurd w
      by (status.BadInput NoKey) w = absurd w
      by (status.BadInput BadChanges) w = absurd w
      by (status.BadInput (Words fault)) w = absurd w
      by status.Done w = absurd w
      by status.WriteFault w = absurd w
      by status.Disk w = absurd w
      by status.BadWords w = absurd w
      by status.ListenerFault w = absurd w
      by status.HandFault w = absurd w
      by status.Peer w = absurd w
      by (status.BadReply fault) w = absurd w
      by (status.Absent r) w = absurd w
      by (status.Full blobs pack) w = absurd w
      by (status.Damaged want is) w = absurd w
