-- What a sync does, call by call, whether or not the peers tell what they hold. The calls stand in the order in which
-- they are made, and each begins in the state that the one before it left.
use Rattle.std.specs.Prelude.{◌≡◌, ℕ, ◌-◌, ◌^◌, min, List, [], ◌∷◌, ◌++◌, length, Option, None, Some, Ok, Err}
use Rattle.std.specs.Option.{is_some}
use Rattle.edge_base.specs.Shelf.{Blob}
use Rattle.peer_base.specs.Order.{refs_of, last_ref}
use Rattle.peer_base.specs.declared.peer.Peer.{Ghosts}
use Rattle.peer_base.specs.declared.peer.PeerFault.{PeerFault}
use Rattle.listed_pages.specs.Pages.{Page, refs_off, ListsUpTo, StopsListing, AsksOnce}
use Rattle.sync_core.specs.declared.syncing.SyncFault.{SyncFault}
use Rattle.sync_core.specs.declared.syncing.SyncFault.TheVariants.{Source, Target, Gone}

-- what was done with one page of the source: the pages that the target listed beside it, and the blobs that were copied
pub record Turn : Type 0 where
  pub page : Page
  pub beside : List Page
  pub gone : List Blob

-- the refs that the source listed
abbrev pub refs_listed : List Turn → List (List ℕ)
refs_listed [] = []
refs_listed (turn ∷ more) = refs_of turn.page ++ refs_listed more

-- the blobs that were copied
abbrev pub blobs_gone : List Turn → List Blob
blobs_gone [] = []
blobs_gone (turn ∷ more) = turn.gone ++ blobs_gone more

-- a number as a u64, or the last u64 where it passes that
abbrev pub counted : ℕ → ℕ
counted n = min n (2 ^ 64 - 1)

-- the counts tell how many blobs were copied, and how many of the refs that were listed weren't
pub record AreCounts (listed : List (List ℕ)) (gone : List Blob) (copied already : ℕ) : Type 0 where
  pub copied_is : copied ≡ counted (length gone)
  pub already_is : already ≡ counted (length listed - length gone)

-- These blobs were put where these were copied and this one was tried: the copied ones, and maybe the one that was
-- tried, though its put was answered with a fault. If it wasn't, it is the next one.
pub record ArePut (gone next done tried : List Blob) : Type 0 where
  pub also : List Blob
  pub gone_are : gone ≡ done ++ also
  pub tried_is : tried ≡ also ++ next

module _ {A B : Type 0} (g : Ghosts A) (h : Ghosts B) where
  -- a blob was fetched from the source, and put to the target
  pub record CopiesBlob (source source_now : A) (old new : B) (blob : Blob) : Type 0 where
    pub fetched : g.fetches source blob.0 (Ok (Some blob.1)) source_now
    pub put : h.keeps old blob (Ok tt) new

  -- each of these was, one after the other
  abbrev pub CopiesEach : A → B → List Blob → A → B → Type 0
  CopiesEach source old [] source_now new = (source_now ≡ source) × (new ≡ old)
  CopiesEach source old (blob ∷ more) source_now new =
      (between : A) × (now : B) × CopiesBlob source between old now blob × CopiesEach between now more source_now new

  -- The target listed what it has from the page's first ref up to its last one, and the blobs of the refs that it
  -- didn't list were copied.
  pub record TakesPage (source source_now : A) (old new : B) (after : Option (List ℕ)) (last : List ℕ)
      (turn : Turn) : Type 0 where
    pub asked : B
    pub beside : ListsUpTo h old after last turn.beside asked
    pub lacking : refs_of turn.gone ≡ refs_off turn.beside turn.page
    pub copies : CopiesEach source asked turn.gone source_now new

  -- the source listed a page, which isn't empty, and it was taken
  pub record TakesTurn (source source_now : A) (old new : B) (after : Option (List ℕ)) (last : List ℕ)
      (turn : Turn) : Type 0 where
    pub listed : A
    pub call : g.lists source after 1000 (Ok turn.page) listed
    pub last_is : last_ref turn.page ≡ Some last
    pub takes : TakesPage listed source_now old new after last turn

  -- one page after the other, each after the last ref of the one before
  abbrev pub TakesTurns : A → B → Option (List ℕ) → List Turn → A → B → Option (List ℕ) → Type 0
  TakesTurns source old after [] source_now new end = (source_now ≡ source) × (new ≡ old) × (end ≡ after)
  TakesTurns source old after (turn ∷ more) source_now new end =
      (between : A) × (now : B) × (last : List ℕ) × TakesTurn source between old now after last turn
      × TakesTurns between now (Some last) more source_now new end

  -- All pages of the source: these, and then an empty one. Where that is the first one, the target is asked for its
  -- first page.
  pub record TakesAll (source source_now : A) (old new : B) (turns : List Turn) : Type 0 where
    pub before : A
    pub between : B
    pub end : Option (List ℕ)
    pub takes : TakesTurns source old None turns before between end
    pub nothing_follows : g.lists before end 1000 (Ok []) source_now
    pub asks : AsksOnce h (is_some end) between new

  -- What a sync did: all pages of the source were taken, these are the blobs that were copied, and these and the other
  -- refs are counted.
  pub record SyncsAll (source source_now : A) (old new : B) (gone : List Blob) (copied already : ℕ) : Type 0 where
    pub turns : List Turn
    pub takes : TakesAll source source_now old new turns
    pub gone_are : gone ≡ blobs_gone turns
    pub counts : AreCounts (refs_listed turns) gone copied already

  -- ---- where it stops

  -- The blob of a ref wasn't copied: it wasn't fetched, or it isn't there, or it was tried and not put.
  abbrev pub StopsBlob : A → A → B → B → List ℕ → List Blob → SyncFault → Type 0
  StopsBlob source source_now old new r tried (Source e) = g.fetches source r (Err e) source_now × (new ≡ old)
      × (tried ≡ [])
  StopsBlob source source_now old new r tried (Gone lost) = g.fetches source r (Ok None) source_now × (new ≡ old)
      × (tried ≡ []) × (lost ≡ r)
  StopsBlob source source_now old new r tried (Target e) =
      (bytes : List ℕ) × g.fetches source r (Ok (Some bytes)) source_now × h.keeps old (r, bytes) (Err e) new
      × (tried ≡ (r, bytes) ∷ [])

  -- of the blobs of these refs some were copied, and the next one wasn't
  pub record StopsCopying (source source_now : A) (old new : B) (refs : List (List ℕ)) (done tried : List Blob)
      (e : SyncFault) : Type 0 where
    pub before : A
    pub between : B
    pub r : List ℕ
    pub rest : List (List ℕ)
    pub refs_are : refs ≡ refs_of done ++ r ∷ rest
    pub copies : CopiesEach source old done before between
    pub stops : StopsBlob before source_now between new r tried e

  -- At the pages that follow a ref: which blobs of the page at hand were copied, and which one was tried.
  pub data StopsAt (source source_now : A) (old new : B) (after : Option (List ℕ)) : SyncFault → List Blob → List Blob
      → Type 0 where
    -- the source didn't list its next page
    at_page : (f : PeerFault) → g.lists source after 1000 (Err f) source_now → new ≡ old
        → StopsAt source source_now old new after (Source f) [] []
    -- the target didn't list its pages beside it
    at_beside : (f : PeerFault) (page : Page) (last : List ℕ) → g.lists source after 1000 (Ok page) source_now
        → last_ref page ≡ Some last
        → StopsListing h old after new f → StopsAt source source_now old new after (Target f) [] []
    -- a blob of it wasn't copied
    at_blob : (e : SyncFault) (page : Page) (beside : List Page) (last : List ℕ) (listed : A) (asked : B)
        (done tried : List Blob)
        → g.lists source after 1000 (Ok page) listed → last_ref page ≡ Some last → ListsUpTo h old after last beside
        asked
        → StopsCopying listed source_now asked new (refs_off beside page) done tried e
        → StopsAt source source_now old new after e done tried
    -- the source has none, and the target, which wasn't asked before, didn't list its first page
    at_end : (f : PeerFault) → after ≡ None → g.lists source after 1000 (Ok []) source_now → h.lists old None 1000
        (Err f) new
        → StopsAt source source_now old new after (Target f) [] []

  -- Where it stopped, some pages were taken whole, and a part of the next one.
  pub record SyncsSome (source source_now : A) (old new : B) (gone next : List Blob) (e : SyncFault) : Type 0 where
    pub turns : List Turn
    pub before : A
    pub between : B
    pub end : Option (List ℕ)
    pub takes : TakesTurns source old None turns before between end
    pub done : List Blob
    pub tried : List Blob
    pub stops : StopsAt before source_now between new end e done tried
    pub put : ArePut gone next (blobs_gone turns ++ done) tried
