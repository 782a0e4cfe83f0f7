-- How a command ends that copies blobs between the store and the peer: the same for both ways.
use Rattle.std.proofs.Common.{◌≡◌, inl, inr, ℕ, pos, ◌≤◌, Option, None, Some, IfOk, List, [], ◌++◌, refl, sym, ap, subst, ◌∙◌, arith}
use Rattle.std.proofs.lemmas.List.{get_or_append_left, length-append}
use Rattle.std.specs.Option.{option_map}
use Rattle.std.specs.FinMap.{get}
use Rattle.edge_base.specs.Edge.{FaultsRose, SinkTook, SinkTookFront}
use Rattle.edge_base.specs.Shelf.{Blob, Blobs, Keeps}
use Rattle.pack_disk.specs.Packs.{Packs}
use Rattle.pack_disk.specs.Disk.{Tells}
use Rattle.pack_disk.specs.Runs.{Stays}
use Rattle.pack_disk.specs.declared.disk.Disk.{Ghosts as DiskGhosts}
use Rattle.pack_store.specs.Archive.{Archive}
use Rattle.pack_store.specs.Packs.{KeepsAll}
use Rattle.pack_store.specs.Puts.{Stands, PutsAll, HoldAll, blobs_of}
use Rattle.pack_store.specs.StoreShelf.{content_of, ContentStands}
use Rattle.pack_store.proofs.Runs.{told_nothing}
use Rattle.peer_base.specs.declared.peer.Peer.{Ghosts as PeerGhosts}
use Rattle.peer_base.specs.declared.peer.PeerFault.{PeerFault}
use Rattle.peer_base.specs.declared.peer.PeerFault.TheVariants as peer_fault
use Rattle.listed_pages.specs.Answers.{SourceAnswered, TargetAnswered}
use Rattle.sync_core.specs.Copying.{StandIn}
use Rattle.top_frame.specs.declared.status.Status.{Status}
use Rattle.top_frame.specs.declared.status.Status.TheVariants as status
use Rattle.top_frame.specs.Frame.{Exchange, no_peer, pulls, Given, Meaning, IsQuiet, Always, Exchanges, ExchangesSome, Finishes, RefusedLate, EndsEarly, EndsBy}
use Rattle.top_frame.specs.Limits.{limits}
use Rattle.top_frame.specs.Outside.{Outside, World, world}
use Rattle.top_frame.specs.Answers.{Answers}
use Rattle.top_frame.specs.Steps.{Finds, NeverRefuses, Writes}
use Rattle.top_sync.specs.Meanings.{exchanging, copied_line}

-- what a call of a peer that is copied from, or to, answered
pub from_source : {A : Type 0} (g : PeerGhosts A) (old new : A) (e : PeerFault) → SourceAnswered g old new e → Answers g old new e
from_source g old new e (inl listed) = inl listed
from_source g old new e (inr fetched) = inr (inl fetched)

pub from_target : {A : Type 0} (g : PeerGhosts A) (old new : A) (e : PeerFault) → (e ≡ peer_fault.NoMemory → ⊥) → TargetAnswered g old new e → Answers g old new e
from_target g old new e never (inl memory) = absurd (never memory)
from_target g old new e never (inr (inl listed)) = inl listed
from_target g old new e never (inr (inr put)) = inr (inr put)

-- what it holds is what the packs of its disk hold
pub holds : {D : Type 0} (g : DiskGhosts D) (old : D) (s : Archive D) → Stays g old s.disk → Stands g limits s → ContentStands g → content_of g s ≡ option_map blobs_of (g.packs old)
holds g old s opened stands tells =
    tells s (subst (λ l. Stands g l s) (sym stands.limited) stands) ∙ ap (option_map blobs_of) opened.told

pub later_rose : (before between now : ℕ) → before ≤ between → FaultsRose between now → FaultsRose before now
later_rose before between now le rose = omega (arith, le, rose)

-- a disk whose store tells nothing tells nothing
pub untold : (packs : Option Packs) (content : Option Blobs) → content ≡ option_map blobs_of packs → content ≡ None → packs ≡ None
untold None content is none = refl
untold (Some held) content is none = absurd (cc (sym none ∙ is))

pub none_stand : (from : Option Blobs) → StandIn from []
none_stand from held e k d lt = absurd (omega (arith, lt))

pub front_stands : (from : Option Blobs) (gone next : List Blob) → StandIn from (gone ++ next) → StandIn from gone
front_stands from gone next all held e k d lt =
    subst (λ (b : Blob). get held b.0 ≡ Some b.1) (get_or_append_left gone next d k lt) (all held e k d (omega (arith, lt, length-append gone next)))

pub kept_none : (told : Option Blobs) → Keeps told told []
kept_none None = refl
kept_none (Some held) = refl

-- so many were lacking, so many stood there, and these are pulled
abbrev pub given_of : List Blob → ℕ → ℕ → Given
given_of pulled lacked had = record { input = []; date = pos 0; date_text = []; random = []; pulled = pulled; lacked = lacked; had = had }

module _ {D P S K C R : Type 0} (o : Outside D P S K C R) (old : World D P S K C R) (way : Exchange) (blobs : Given → List Blob) where
  abbrev m : Meaning
  m = exchanging way blobs

  abbrev told : Option Packs
  told = o.disk.packs old.disk

  -- the disk, the peer and the sink may have changed
  abbrev pub now_at : D → P → K → World D P S K C R
  now_at d p k = world d p old.source k old.clock old.dice

  pub always : (way ≡ no_peer → ⊥) → (d : D) (p : P) (k : K) → KeepsAll o.disk old.disk d → (IsQuiet m → Stays o.disk old.disk d) → (way ≡ pulls → o.peer.content p ≡ o.peer.content old.peer)
      → o.disk.faults old.disk ≤ o.disk.faults d → o.peer.faults old.peer ≤ o.peer.faults p → o.sink.faults old.sink ≤ o.sink.faults k → Always o m old (now_at d p k)
  always met d p k crash quiet unsent disk_later peer_later sink_later = record {
    crash = crash;
    quiet = quiet;
    unopened = λ e. absurd (cc e);
    unread = λ _. refl;
    untimed = λ _. refl;
    undiced = λ _. refl;
    unmet = λ e. absurd (met e);
    unsent = unsent;
    unmoved = λ e. absurd (cc e);
    peer_later = peer_later;
    disk_later = disk_later;
    source_later = omega arith;
    sink_later = sink_later;
    clock_later = omega arith;
    dice_later = omega arith;
  }

  module _ (d : D) (p : P) (given : Given) (empty : given.input ≡ []) where
    -- it was refused, with nothing written
    pub late : ExchangesSome o m old (now_at d p old.sink) way given → {Why : Given → List ℕ → Type 0} → Why given [] → RefusedLate o m old (now_at d p old.sink) Why
    late some why = record {
      given = given;
      bytes = [];
      fit = refl;
      drawn = (λ e. absurd (cc e), λ e. absurd (cc e));
      read = (refl, empty);
      right = refl;
      exchanged = some;
      written = refl;
      part = refl;
      why = why;
    }

    -- and a front of the blobs was put
    pub stops : ExchangesSome o m old (now_at d p old.sink) way given → (gone rest : List Blob) → blobs given ≡ gone ++ rest → Tells told (o.disk.packs d) (PutsAll limits gone) → HoldAll (o.disk.images d) gone
        → {Why : Given → List ℕ → List Blob → List Blob → Type 0} → Why given [] gone rest → EndsEarly o m old (now_at d p old.sink) Why
    stops some gone rest cut put held why = late some (record { blobs = gone; rest = rest; cut = cut; put = put; held = held; why = why })

    -- all was copied, and the line was written or not
    pub written : (k : K) → Exchanges o m old (now_at d p k) way given → Tells told (o.disk.packs d) (PutsAll limits (blobs given)) → HoldAll (o.disk.images d) (blobs given)
        → (end : Status) → Writes o.sink old.sink k (copied_line given.lacked given.had) end → EndsBy o m old (now_at d p k) end
    written k exchanged put held end writes = by end writes
      where
        finishes : (Wrote : List ℕ → Type 0) → Wrote (copied_line given.lacked given.had) → Finishes o m old (now_at d p k) Wrote
        finishes Wrote wrote = record {
          given = given;
          bytes = copied_line given.lacked given.had;
          fit = refl;
          drawn = (λ e. absurd (cc e), λ e. absurd (cc e));
          read = (refl, empty);
          right = refl;
          exchanged = exchanged;
          output = refl;
          put = put;
          held = held;
          wrote = wrote;
        }

        by : (end : Status) → Writes o.sink old.sink k (copied_line given.lacked given.had) end → EndsBy o m old (now_at d p k) end
        by status.Done w = finishes (SinkTook (o.sink.written old.sink) (o.sink.written k)) w
        by status.WriteFault w = (w.0, inl (finishes (SinkTookFront (o.sink.written old.sink) (o.sink.written k)) w.1))
        by status.NoMemory w = absurd w
        by status.BadWords w = absurd w
        by status.ListenerFault w = absurd w
        by status.HandFault w = absurd w
        by status.Peer w = absurd w
        by (status.BadReply why) w = absurd w
        by (status.Absent r) w = absurd w
        by (status.BadInput fault) w = absurd w
        by status.ReadFault w = absurd w
        by status.Disk w = absurd w
        by (status.Full blobs pack) w = absurd w
        by (status.Damaged want is) w = absurd w

  -- the store wasn't opened
  module _ (e : D) (stays : Stays o.disk old.disk e) where
    pub put_none : Tells told (o.disk.packs e) (PutsAll limits [])
    put_none = subst (λ p. Tells told p (PutsAll limits [])) (sym stays.told) (told_nothing limits told)

    pub unopened : (given : Given) → given.input ≡ [] → ExchangesSome o m old (now_at e old.peer old.sink) way given → (end : Status) → Finds o.disk old.disk e NeverRefuses end
        → EndsBy o m old (now_at e old.peer old.sink) end
    unopened given empty some status.Disk w = late e old.peer given empty some w
    unopened given empty some status.NoMemory w = inr (stops e old.peer given empty some [] (blobs given) refl put_none tt tt)
    unopened given empty some (status.Absent r) w = absurd w
    unopened given empty some (status.Damaged want is) w = absurd w
    unopened given empty some status.ReadFault w = absurd w
    unopened given empty some (status.BadInput fault) w = absurd w
    unopened given empty some status.Done w = absurd w
    unopened given empty some status.WriteFault w = absurd w
    unopened given empty some status.BadWords w = absurd w
    unopened given empty some status.ListenerFault w = absurd w
    unopened given empty some status.HandFault w = absurd w
    unopened given empty some status.Peer w = absurd w
    unopened given empty some (status.BadReply why) w = absurd w
    unopened given empty some (status.Full blobs pack) w = absurd w
