-- What a sync does.
use Rattle.std.specs.Prelude.{◌≡◌, ◌+◌, List, ◌++◌, length, Some}
use Rattle.std.specs.Option.{ForSome}
use Rattle.std.specs.FinMap.{entries}
use Rattle.edge_base.specs.Shelf.{Blob, Blobs}
use Rattle.peer_base.specs.declared.peer.Peer.{Ghosts}
use Rattle.sync_core.specs.declared.syncing.SyncFault.{SyncFault}
use Rattle.sync_core.specs.declared.syncing.Synced.{Synced}
use Rattle.listed_pages.specs.Answers.{IsReached}
use Rattle.sync_core.specs.Copying.{lacking, copied, Copies, Stopped}
use Rattle.sync_core.specs.Turns.{SyncsAll, SyncsSome}

-- what both tell meets it
abbrev pub ForBoth : {A B : Type 0} → Ghosts A → Ghosts B → A → B → (Blobs → Blobs → Type 0) → Type 0
ForBoth g h source target P = ForSome (g.content source) (λ from. ForSome (h.content target) (λ to. P from to))

module _ {A B : Type 0} (g : Ghosts A) (h : Ghosts B) where
  -- Each page of the source was taken: the blobs of the refs that the target didn't list beside it were copied, and
  -- these and the other refs are counted. Where both tell what they hold, these are the blobs of the source that the
  -- target lacked. The target listed its refs, if only once.
  pub record IsSynced (source source_now : A) (old new : B) (synced : Synced) : Type 0 where
    pub gone : List Blob
    pub copies : Copies g h source old new gone
    pub did : SyncsAll g h source source_now old new gone synced.copied synced.already
    pub all : ForBoth g h source old (λ from to. gone ≡ lacking from to)
    pub union : ForBoth g h source old (λ from to. h.content new ≡ Some (copied from to))
    pub copied_is : ForBoth g h source old (λ from to. synced.copied ≡ length (lacking from to))
    pub already_is : ForBoth g h source old (λ from to. synced.copied + synced.already ≡ length (entries from))
    pub reached : IsReached h old new

  -- some pages were taken, and a part of the next one; where both tell, a front of those blobs was copied
  pub record IsStopped (source source_now : A) (old new : B) (e : SyncFault) : Type 0 where
    pub gone : List Blob
    pub next : List Blob
    pub stopped : Stopped g h source source_now old new gone next e
    pub did : SyncsSome g h source source_now old new gone next e
    pub front : ForBoth g h source old (λ from to. (rest : List Blob) × (lacking from to ≡ (gone ++ next) ++ rest))
