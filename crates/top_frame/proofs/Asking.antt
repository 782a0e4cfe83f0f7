-- How a command ends that asks the store of a disk, and writes its answer at the end.
use Rattle.std.proofs.Common.{ℕ, ◌≤◌, List, [], Option, refl, subst}
use Rattle.pack_disk.specs.Packs.{Packs}
use Rattle.pack_disk.specs.Runs.{Stays}
use Rattle.pack_disk.specs.declared.disk.Disk.{Ghosts as DiskGhosts}
use Rattle.top_frame.specs.declared.status.Status.{Status}
use Rattle.top_frame.specs.declared.status.Status.TheVariants as status
use Rattle.top_frame.specs.Asking.{asking}
use Rattle.top_frame.specs.Frame.{Ends}
use Rattle.top_frame.specs.Outside.{Outside, World, world}
use Rattle.top_frame.specs.Steps.{Finds, NeverRefuses, Writes}
use Rattle.top_frame.proofs.Ending.{Begun, Far, Has, nothing_given, far_start, far_asked, refused, finished}

-- a cause that has another one
pub finds_more : {D : Type 0} (g : DiskGhosts D) (old new : D) (Why More : Status → Type 0) → ((end : Status) → Why end → More end) → (end : Status) → Finds g old new Why end → Finds g old new More end
finds_more g old new Why More f status.Disk w = w
finds_more g old new Why More f status.NoMemory w = w
finds_more g old new Why More f (status.Absent r) w = f (status.Absent r) w
finds_more g old new Why More f (status.Damaged want is) w = f (status.Damaged want is) w
finds_more g old new Why More f status.Done w = absurd w
finds_more g old new Why More f status.BadWords w = absurd w
finds_more g old new Why More f status.ListenerFault w = absurd w
finds_more g old new Why More f status.HandFault w = absurd w
finds_more g old new Why More f status.Peer w = absurd w
finds_more g old new Why More f (status.BadReply fault) w = absurd w
finds_more g old new Why More f (status.BadInput fault) w = absurd w
finds_more g old new Why More f status.ReadFault w = absurd w
finds_more g old new Why More f status.WriteFault w = absurd w
finds_more g old new Why More f (status.Full blobs pack) w = absurd w

module _ {D P S K C R : Type 0} (o : Outside D P S K C R)
    (counts_now : (d : D) (t : ℕ) (c : Packs) → t ≤ o.disk.moment d → o.disk.images d c → o.disk.images_since d t c)
    (only_now : (d : D) (c : Packs) → o.disk.images_since d (o.disk.moment d) c → o.disk.images d c)
    (IsAnswer : Option Packs → List ℕ → Type 0) (Refuses : Option Packs → Status → Type 0) (b : World D P S K C R) where
  abbrev run : Begun D P S K C R
  run = record { o = o; counts_now = counts_now; only_now = only_now; m = asking IsAnswer Refuses; fit = refl; alone = refl; b = b }

  abbrev EndsAt : D → K → Status → Type 0
  EndsAt e k end = Ends o (asking IsAnswer Refuses) b (world e b.peer b.source k b.clock b.dice) end

  has : Has run b.source nothing_given
  has = record { read = (refl, refl); right = refl; drawn = (λ e. absurd (cc e), λ e. absurd (cc e)) }

  -- the store wasn't opened
  pub not_opened : (e : D) → Stays o.disk b.disk e → o.disk.faults b.disk ≤ o.disk.faults e → (end : Status) → Finds o.disk b.disk e NeverRefuses end → EndsAt e b.sink end
  not_opened e stays later end why = refused run refl b.disk e b.source (far_start run) stays later nothing_given has refl NeverRefuses (λ end w. absurd w) end why

  module _ (d : D) (opened : Stays o.disk b.disk d) (opened_later : o.disk.faults b.disk ≤ o.disk.faults d) (e : D) (stays : Stays o.disk d e) (later : o.disk.faults d ≤ o.disk.faults e) where
    open_far : Far run (world d b.peer b.source b.sink b.clock b.dice) [] []
    open_far = far_asked run refl b.disk d b.source (far_start run) opened opened_later

    -- what was asked of it was refused
    pub not_answered : (end : Status) → Finds o.disk d e (Refuses (o.disk.packs d)) end → EndsAt e b.sink end
    not_answered end why = refused run refl d e b.source open_far stays later nothing_given has refl (Refuses (o.disk.packs d))
        (λ end w. subst (λ told. Refuses told end) opened.told w) end why

    -- the answer was written, or not
    pub answered : (bytes : List ℕ) → IsAnswer (o.disk.packs d) bytes → (k : K) (end : Status) → Writes o.sink b.sink k bytes end → o.sink.faults b.sink ≤ o.sink.faults k → EndsAt e k end
    answered bytes is k end writes sink_later = finished run e b.source [] (far_asked run refl d e b.source open_far stays later) k nothing_given bytes has.drawn (refl, refl) refl
        (subst (λ told. IsAnswer told bytes) opened.told is) refl end writes sink_later
