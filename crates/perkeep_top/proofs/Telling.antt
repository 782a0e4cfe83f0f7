-- How `salvage` ends, from what was written by then.
use Rattle.std.proofs.Common.{◌≡◌, inr, ℕ, ◌≤◌, List, [], refl, subst}
use Rattle.edge_base.specs.Edge.{FaultsRose, SinkTook}
use Rattle.pack_disk.specs.Packs.{Packs}
use Rattle.pack_disk.specs.Runs.{Stays}
use Rattle.top_frame.specs.declared.status.Status.{Status}
use Rattle.top_frame.specs.declared.status.Status.TheVariants as status
use Rattle.top_frame.specs.Frame.{Ends}
use Rattle.top_frame.specs.Outside.{Outside, World, world}
use Rattle.perkeep_top.specs.Salvaged.{salvage_meaning, IsReport, IsReportFront, Writes, WritesFront, ComesWhileTelling}
use Rattle.top_frame.proofs.Ending.{Begun, Far, Has, nothing_given, far_start, far_told, done, failed, no_memory, not_written}

module _ {D P S K C R : Type 0} (o : Outside D P S K C R)
    (counts_now : (d : D) (t : ℕ) (c : Packs) → t ≤ o.disk.moment d → o.disk.images d c → o.disk.images_since d t c)
    (only_now : (d : D) (c : Packs) → o.disk.images_since d (o.disk.moment d) c → o.disk.images d c)
    (b : World D P S K C R) (e : D) (k : K) (stays : Stays o.disk b.disk e) (still : o.disk.moment e ≡ o.disk.moment b.disk) (later : o.disk.faults b.disk ≤ o.disk.faults e) (sink_later : o.sink.faults b.sink ≤ o.sink.faults k) where
  abbrev run : Begun D P S K C R
  run = record { o = o; counts_now = counts_now; only_now = only_now; m = salvage_meaning; fit = refl; alone = refl; b = b }

  abbrev here : World D P S K C R
  here = world e b.peer b.source k b.clock b.dice

  far : (bytes : List ℕ) → SinkTook (o.sink.written b.sink) (o.sink.written k) bytes → Far run here [] bytes
  far bytes took = far_told run b.disk e b.source b.sink k [] [] bytes (inr (refl, still)) (far_start run) stays later sink_later took

  has : Has run b.source nothing_given
  has = record { read = (refl, refl); right = refl; drawn = (λ e. absurd (cc e), λ e. absurd (cc e)) }

  pub told_all : Writes (IsReport (o.disk.packs b.disk)) (o.sink.written b.sink) (o.sink.written k) → Ends o salvage_meaning b here status.Done
  told_all w = let so = far w.0 w.2 in done run here [] w.0 so.at.always so.packs so.held nothing_given has.drawn (refl, refl) refl w.1 refl status.Done w.2

  module _ (w : WritesFront (IsReport (o.disk.packs b.disk)) (o.sink.written b.sink) (o.sink.written k)) where
    abbrev front : List ℕ
    front = w.2.0

    part : IsReportFront (o.disk.packs b.disk) front
    part = (w.2.1, subst (IsReport (o.disk.packs b.disk)) w.2.2 w.1)

    pub stopped : (end : Status) → ComesWhileTelling (FaultsRose (o.sink.faults b.sink) (o.sink.faults k)) (FaultsRose (o.disk.faults b.disk) (o.disk.faults e)) end → Ends o salvage_meaning b here end
    stopped status.NoMemory why = no_memory run here [] front (far front w.2.3) nothing_given [] has refl part
    stopped status.WriteFault why = not_written run here [] front (far front w.2.3) nothing_given [] has refl part refl why
    stopped status.Disk why = failed run here front (far front w.2.3).at nothing_given has part why
    stopped status.Done why = absurd why
    stopped status.BadWords why = absurd why
    stopped status.ListenerFault why = absurd why
    stopped status.HandFault why = absurd why
    stopped status.Peer why = absurd why
    stopped (status.BadReply fault) why = absurd why
    stopped (status.Absent r) why = absurd why
    stopped (status.BadInput fault) why = absurd why
    stopped status.ReadFault why = absurd why
    stopped (status.Full blobs pack) why = absurd why
    stopped (status.Damaged want is) why = absurd why
