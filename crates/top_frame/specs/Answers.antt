-- What the calls of a peer answered, and how far a sync came.
use Rattle.std.specs.Prelude.{◌⊎◌, ℕ, List, None, Ok, Err}
use Rattle.edge_base.specs.Shelf.{Blob}
use Rattle.peer_base.specs.declared.peer.Peer.{Ghosts}
use Rattle.peer_base.specs.declared.peer.PeerFault.{PeerFault}
use Rattle.peer_base.specs.declared.peer.PeerFault.TheVariants as fault
use Rattle.listed_pages.specs.Answers.{Listed, Fetched, Put}
use Rattle.sync_core.specs.declared.syncing.SyncFault.{SyncFault}
use Rattle.sync_core.specs.Turns.{SyncsAll, SyncsSome}
use Rattle.top_frame.specs.declared.status.ReplyFault.{ReplyFault}
use Rattle.top_frame.specs.declared.status.ReplyFault.TheVariants as reply

module _ {A : Type 0} (g : Ghosts A) (old new : A) where
  -- a call answered with this fault
  abbrev pub Answers : PeerFault → Type 0
  Answers e = Listed g old new (Err e) ⊎ (((r : List ℕ) × Fetched g old new r (Err e)) ⊎ ((blob : Blob) × Put g old new blob (Err e)))

  -- or so that a reply can't be used
  abbrev pub Replies : ReplyFault → Type 0
  Replies reply.Grammar = Answers fault.BadReply
  Replies (reply.Refused number) = Answers (fault.Refused number)
  Replies (reply.Gone r) = Fetched g old new r (Ok None)

-- These blobs were copied: those of the pages before the one at hand, and of the first refs of that one, where the sync stopped at a fault; or
-- all, and these are the counts.
abbrev pub SyncsPart : {A B : Type 0} → Ghosts A → Ghosts B → (source source_now : A) (old new : B) → List Blob → (copied already : ℕ) → Type 0
SyncsPart g h source source_now old new gone copied already =
    ((next : List Blob) × (e : SyncFault) × SyncsSome g h source source_now old new gone next e)
    ⊎ SyncsAll g h source source_now old new gone copied already
