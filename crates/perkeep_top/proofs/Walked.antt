-- How `get-file` ends, from what reading the file gave.
use Rattle.std.proofs.Common.{◌≡◌, true, ℕ, ◌≤◌, List, [], Option, None, Some, Result, Ok, Err, option_map, refl, sym, ap, subst, ◌∙◌, arith}
use Rattle.std.specs.Option.{ForSome}
use Rattle.edge_base.specs.Edge.{SinkTook}
use Rattle.edge_base.specs.declared.answers.GetFault.TheVariants as getting
use Rattle.file_tree.specs.declared.fault.FileFault.{FileFault}
use Rattle.file_tree.specs.declared.fault.FileFault.TheVariants as file
use Rattle.file_tree.specs.Fetching.{FileRead, is_of_walk, BeginsAs}
use Rattle.file_tree.specs.Reading.{HasRead, FaultCause}
use Rattle.file_tree.proofs.Found.{read_told}
use Rattle.pack_disk.specs.Packs.{Packs}
use Rattle.pack_disk.specs.Runs.{Stays}
use Rattle.pack_store.specs.Archive.{Archive}
use Rattle.pack_store.specs.Calls.{IsReadFrom}
use Rattle.pack_store.specs.Puts.{Stands, PutsBlobs, blobs_of}
use Rattle.pack_store.specs.StoreShelf.{content_of, ContentStands}
use Rattle.top_frame.specs.declared.status.InputFault.TheVariants.{NotAFile, Short, Deep}
use Rattle.top_frame.specs.declared.status.Status.TheVariants as status
use Rattle.top_frame.specs.Faults.{file_status}
use Rattle.top_frame.specs.Frame.{Ends}
use Rattle.perkeep_top.specs.GetFile.{get_file_meaning, walk_of, BeginsFile, RefusesAs, IsRead, store_shelf}
use Rattle.top_frame.specs.Limits.{limits}
use Rattle.top_frame.specs.Outside.{Outside, World, world}
use Rattle.top_frame.proofs.Ending.{Begun, Far, Has, nothing_given, later_rose, far_start, far_asked, far_puts, failed, no_memory, not_written, absent, unfit, damaged, done}
use Rattle.perkeep_top.proofs.Sizes.{none_within}

module _ {D P S K C R : Type 0} (o : Outside D P S K C R)
    (counts_now : (d : D) (t : ℕ) (c : Packs) → t ≤ o.disk.moment d → o.disk.images d c → o.disk.images_since d t c)
    (only_now : (d : D) (c : Packs) → o.disk.images_since d (o.disk.moment d) c → o.disk.images d c)
    (r : List ℕ) (b : World D P S K C R) (store old new : Archive D) (k : K) (same : old ≡ store)
    (store_opened : Stays o.disk b.disk store.disk) (store_later : o.disk.faults b.disk ≤ o.disk.faults store.disk) (store_stands : Stands o.disk limits store) (store_read : IsReadFrom o.disk b.disk store)
    (tells : ContentStands o.disk)
    (nothing : PutsBlobs o.disk old.limits old [] new) (later : o.disk.faults old.disk ≤ o.disk.faults new.disk) (sink_later : o.sink.faults b.sink ≤ o.sink.faults k) where
  opened : Stays o.disk b.disk old.disk
  opened = subst (λ (s : Archive D). Stays o.disk b.disk s.disk) (sym same) store_opened

  opened_later : o.disk.faults b.disk ≤ o.disk.faults old.disk
  opened_later = subst (λ (s : Archive D). o.disk.faults b.disk ≤ o.disk.faults s.disk) (sym same) store_later

  stands : Stands o.disk limits old
  stands = subst (Stands o.disk limits) (sym same) store_stands

  abbrev run : Begun D P S K C R
  run = record { o = o; counts_now = counts_now; only_now = only_now; m = get_file_meaning o.disk b.disk r; fit = refl; alone = refl; b = b }

  abbrev here : World D P S K C R
  here = world new.disk b.peer b.source k b.clock b.dice

  abbrev told : Option Packs
  told = o.disk.packs b.disk

  -- it has come to the end of these bytes
  far : (bytes : List ℕ) → SinkTook (o.sink.written b.sink) (o.sink.written k) bytes → Far run here [] bytes
  far bytes took = far_puts run refl old new b.source b.source b.sink k [] [] [] bytes (far_asked run refl b.disk old.disk b.source (far_start run) opened opened_later) stands
      (subst (λ l. PutsBlobs o.disk l old [] new) stands.limited nothing) (λ _. refl) later (omega arith) sink_later (λ _. refl) took

  has : Has run b.source nothing_given
  has = record { read = (refl, refl); right = refl; drawn = (λ e. absurd (cc e), λ e. absurd (cc e)) }

  content_told : content_of o.disk old ≡ option_map blobs_of told
  content_told = tells old (subst (λ l. Stands o.disk l old) (sym stands.limited) stands) ∙ ap (option_map blobs_of) opened.told

  module _ {T : Type 0} (result : Result T FileFault) (h : HasRead (store_shelf o.disk) old new (o.sink.written b.sink) (o.sink.written k) (FileRead r) result) where
    begins : ForSome told (λ held. BeginsAs h.read (walk_of r held))
    begins held e = read_told (store_shelf o.disk) old new (o.sink.written b.sink) (o.sink.written k) r result h (blobs_of held) (content_told ∙ ap (option_map blobs_of) e)

    -- exactly these bytes were written
    so_far : Far run here [] h.read.bytes
    so_far = far h.read.bytes h.took

    part : BeginsFile r told h.read.bytes
    part held e = (begins held e).front

    ends_as : (stop : Option FileFault) → h.read.stop ≡ stop → is_of_walk stop ≡ true → ForSome told (λ held. walk_of r held ≡ record { bytes = h.read.bytes; stop = stop })
    ends_as stop is whole held e = sym ((begins held e).same (ap is_of_walk is ∙ whole)) ∙ ap (λ s. record { bytes = h.read.bytes; stop = s }) is

    is_read : (stop : Option FileFault) → h.read.stop ≡ stop → IsRead o.disk b.disk r h.read.bytes stop
    is_read stop is = record {
      store = old;
      left = new;
      stays = opened;
      read = subst (IsReadFrom o.disk b.disk) (sym same) store_read;
      stands = stands;
      fetches = h.fetches;
      fetched = h.fetched;
      is = subst (λ (s : Option FileFault). FileRead r h.fetches (record { bytes = h.read.bytes; stop = s })) is h.is;
    }

    refuses : (fault : FileFault) → h.read.stop ≡ Some fault → is_of_walk (Some fault) ≡ true → RefusesAs o.disk b.disk r told h.read.bytes fault
    refuses fault is whole = (ends_as (Some fault) is whole, is_read (Some fault) is)

  pub walked : {T : Type 0} (x : T) → HasRead (store_shelf o.disk) old new (o.sink.written b.sink) (o.sink.written k) (FileRead r) (Ok x) → Ends o (get_file_meaning o.disk b.disk r) b here status.Done
  walked x h =
      let so = so_far (Ok x) h in
      done run here [] h.read.bytes so.at.always so.packs so.held nothing_given has.drawn (refl, refl) refl (ends_as (Ok x) h None h.why refl, is_read (Ok x) h None h.why) refl status.Done h.took

  pub not_walked : {T : Type 0} (fault : FileFault) → HasRead {T = T} (store_shelf o.disk) old new (o.sink.written b.sink) (o.sink.written k) (FileRead r) (Err fault)
      → FaultCause (content_of o.disk old) (o.disk.faults old.disk) (o.disk.faults new.disk) (o.sink.faults b.sink) (o.sink.faults k) fault → Ends o (get_file_meaning o.disk b.disk r) b here (file_status fault)
  not_walked {T = T} fault h w = by fault (so_far {T = T} (Err fault) h) (part {T = T} (Err fault) h) (refuses {T = T} (Err fault) h) (is_read {T = T} (Err fault) h (Some fault) h.why) h.why w
    where
      by : (fault : FileFault) → Far run here [] h.read.bytes → BeginsFile r told h.read.bytes → ((fault : FileFault) → h.read.stop ≡ Some fault → is_of_walk (Some fault) ≡ true → RefusesAs o.disk b.disk r told h.read.bytes fault)
          → IsRead o.disk b.disk r h.read.bytes (Some fault) → h.read.stop ≡ Some fault
          → FaultCause (content_of o.disk old) (o.disk.faults old.disk) (o.disk.faults new.disk) (o.sink.faults b.sink) (o.sink.faults k) fault → Ends o (get_file_meaning o.disk b.disk r) b here (file_status fault)
      by (file.Absent q) so part refuses is why w = absent run here [] h.read.bytes so nothing_given [] has refl part q (refuses (file.Absent q) why refl)
      by (file.NotAFile q) so part refuses is why w = unfit run here [] h.read.bytes so nothing_given [] has refl part (NotAFile q) (refuses (file.NotAFile q) why refl)
      by (file.Short q had wants) so part refuses is why w = unfit run here [] h.read.bytes so nothing_given [] has refl part (Short q had wants) (refuses (file.Short q had wants) why refl)
      by (file.Deep q) so part refuses is why w = unfit run here [] h.read.bytes so nothing_given [] has refl part (Deep q) (refuses (file.Deep q) why refl)
      by file.WriteFault so part refuses is why w = not_written run here [] h.read.bytes so nothing_given [] has refl part refl w
      by (file.Get getting.Disk) so part refuses is why w = failed run here h.read.bytes so.at nothing_given has part (later_rose (o.disk.faults b.disk) (o.disk.faults old.disk) (o.disk.faults new.disk) opened_later w)
      by (file.Get (getting.Damaged want other)) so part refuses is why w =
          damaged run here [] h.read.bytes so nothing_given [] has refl part want other ((w.0, none_within blobs_of told (sym content_told ∙ w.1)), is)
      by (file.Get getting.NoMemory) so part refuses is why w = absurd w
      by file.NoMemory so part refuses is why w = no_memory run here [] h.read.bytes so nothing_given [] has refl part
