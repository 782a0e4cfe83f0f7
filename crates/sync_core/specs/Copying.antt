-- Blobs that are copied from one peer to another.
use Rattle.std.specs.Prelude.{◌≡◌, ℕ, true, not, List, ◌++◌, length, filter, All, Option, None, Some, Ok}
use Rattle.std.specs.Option.{ForSome}
use Rattle.std.specs.FinMap.{entries, get, contains_key}
use Rattle.edge_base.specs.Shelf.{Blob, Blobs, Keeps, with_blobs}
use Rattle.peer_base.specs.Order.{refs_of}
use Rattle.peer_base.specs.declared.peer.Peer.{Ghosts}
use Rattle.peer_base.specs.declared.peer.PeerFault.TheVariants as fault
use Rattle.sync_core.specs.declared.syncing.SyncFault.{SyncFault}
use Rattle.sync_core.specs.declared.syncing.SyncFault.TheVariants.{Source, Target, Gone}
use Rattle.listed_pages.specs.Answers.{Fetched, SourceAnswered, TargetAnswered}
use Rattle.listed_pages.specs.Pages.{Page}
use Rattle.sync_core.specs.Causes.{SourceFault, TargetFault}
use Rattle.sync_core.specs.Turns.{CopiesEach, TakesPage, StopsCopying, StopsAt, ArePut}

-- the blobs of one map whose refs the other lacks, in the order of refs
abbrev pub lacking : Blobs → Blobs → List Blob
lacking from to = filter (λ (blob : Blob). not (contains_key to blob.0)) (entries from)

-- the second map with each blob of the first whose ref it lacks
abbrev pub copied : Blobs → Blobs → Blobs
copied from to = with_blobs to (lacking from to)

-- each stands so where it is copied from, if that is told
abbrev pub StandIn : Option Blobs → List Blob → Type 0
StandIn from blobs = ForSome from (λ held. All (λ (blob : Blob). get held blob.0 ≡ Some blob.1) blobs)

-- these refs stand where it is copied from, if that is told
abbrev pub AreThere : Option Blobs → List (List ℕ) → Type 0
AreThere from refs = ForSome from (λ held. All (λ (r : List ℕ). contains_key held r ≡ true) refs)

module _ {A B : Type 0} (g : Ghosts A) (h : Ghosts B) where
  -- these blobs were copied, and nothing else was put
  pub record Copies (source : A) (old new : B) (gone : List Blob) : Type 0 where
    pub stand : StandIn (g.content source) gone
    pub given : Keeps (h.content old) (h.content new) gone
    pub put : h.puts old gone new

  -- what was put is known but where the target failed
  abbrev pub PutsBut : B → B → List Blob → SyncFault → Type 0
  PutsBut old new gone (Target fault.Failed) = Unit {0}
  PutsBut old new gone _ = h.puts old gone new

  -- why it stopped: the blobs are those that were still to be copied, if any is known
  abbrev pub StopCause : A → A → B → B → List Blob → SyncFault → Type 0
  StopCause source source_now old new rest (Source e) =
      SourceFault (g.content source) (g.faults source) (g.faults source_now) e × SourceAnswered g source source_now e
  StopCause source source_now old new rest (Target e) =
      TargetFault (h.content old) (h.fills new) (h.faults old) (h.faults new) rest e × TargetAnswered h old new e
  StopCause source source_now old new rest (Gone r) = (g.content source ≡ None) × Fetched g source source_now r
      (Ok None)

  -- these blobs were copied, the next one was tried if any is told, and it stopped
  pub record Stopped (source source_now : A) (old new : B) (gone next : List Blob) (e : SyncFault) : Type 0 where
    pub stand : StandIn (g.content source) (gone ++ next)
    pub given : Keeps (h.content old) (h.content new) gone
    pub put : PutsBut old new gone e
    pub why : StopCause source source_now old new next e

  -- ---- the blobs of some refs

  abbrev pub CopiesRefs : A → A → B → B → List (List ℕ) → Type 0
  CopiesRefs source source_now old new refs = (gone : List Blob) × (refs_of gone ≡ refs) × Copies source old new gone
      × CopiesEach g h source old gone source_now new

  pub record CopiesFront (source source_now : A) (old new : B) (refs : List (List ℕ)) (e : SyncFault) : Type 0 where
    pub gone : List Blob
    pub next : List Blob
    pub rest : List (List ℕ)
    pub front : refs ≡ refs_of (gone ++ next) ++ rest
    pub stopped : Stopped source source_now old new gone next e
    pub done : List Blob
    pub tried : List Blob
    pub put : ArePut gone next done tried
    pub stops : StopsCopying g h source source_now old new refs done tried e

  -- ---- the blobs of a page that the target lacks

  pub record CopiesPage (source source_now : A) (old new : B) (after : Option (List ℕ)) (last : List ℕ) (page : Page)
      (count : ℕ) : Type 0 where
    pub gone : List Blob
    pub copies : Copies source old new gone
    pub count_is : count ≡ length gone
    pub are : ForSome (h.content old) (λ held. refs_of gone ≡ filter (λ r. not (contains_key held r)) (refs_of page))
    pub beside : List Page
    pub takes : TakesPage g h source source_now old new after last
        (record { page = page; beside = beside; gone = gone })

  -- where the page was listed by a call before it
  pub record CopiesSome (source source_now : A) (old new : B) (after : Option (List ℕ)) (last : List ℕ) (page : Page)
      (e : SyncFault) : Type 0 where
    pub gone : List Blob
    pub next : List Blob
    pub stopped : Stopped source source_now old new gone next e
    pub are : ForSome (h.content old) (λ held. (rest : List (List ℕ))
        × (filter (λ r. not (contains_key held r)) (refs_of page) ≡ refs_of (gone ++ next) ++ rest))
    pub done : List Blob
    pub tried : List Blob
    pub put : ArePut gone next done tried
    pub stops : (before : A) → g.lists before after 1000 (Ok page) source → StopsAt g h before source_now old new after
        e done tried
