-- A store as a peer (docs/sync.md).
use Rattle.std.specs.Prelude.{◌≡◌, ℕ, List, length, Option, Result, Ok, Err, IfOk, IfErr, OnOk}
use Rattle.edge_base.specs.Edge.{FaultsRose}
use Rattle.edge_base.specs.Shelf.{Blob}
use Rattle.edge_base.specs.declared.answers.GetFault.{GetFault}
use Rattle.edge_base.specs.declared.answers.Put.{Put}
use Rattle.edge_base.specs.declared.answers.PutFault.{PutFault}
use Rattle.edge_base.specs.declared.answers.PutFault.TheVariants.{Disk}
use Rattle.pack_disk.specs.declared.disk.Disk.{Ghosts as DiskGhosts}
use Rattle.pack_store.specs.Archive.{Archive, count}
use Rattle.pack_store.specs.Packs.{HeldByAll, KeepsAll}
use Rattle.pack_store.specs.Puts.{HasNoRoom}
use Rattle.pack_store.specs.Putting.{early_answer_own, Answers, Leaves}
use Rattle.pack_store.specs.Reading.{page}
use Rattle.pack_store.specs.StoreShelf.{content_of, PutsStore, FetchesStore}
use Rattle.peer_base.specs.declared.peer.Peer.{Ghosts as PeerGhosts}
use Rattle.peer_base.specs.declared.peer.PeerFault.{PeerFault}
use Rattle.peer_base.specs.declared.peer.PeerFault.TheVariants.{NoMemory}
use Rattle.store_peer.specs.Faults.{IsOfPeer, get_fault, put_fault}

-- what a store answers, as a peer answers it
abbrev pub fetch_answer : Result (Option (List ℕ)) GetFault → Result (Option (List ℕ)) PeerFault
fetch_answer (Ok found) = Ok found
fetch_answer (Err fault) = Err (get_fault fault)

abbrev pub put_answer : Result Put PutFault → Result (Unit {0}) PeerFault
put_answer (Ok done) = Ok tt
put_answer (Err fault) = Err (put_fault fault)

-- A page was listed: that of the rows, unless no memory was left. Nothing is done.
pub record ListsRows {D : Type 0} (old : Archive D) (after : Option (List ℕ)) (limit : ℕ) (answer : Result (List (List ℕ × ℕ)) PeerFault) (new : Archive D) : Type 0 where
  pub found : IfOk answer (λ listed. listed ≡ page after limit old.rows)
  pub fault : IfErr answer (λ e. e ≡ NoMemory)
  pub same : new ≡ old

module _ {D : Type 0} (g : DiskGhosts D) where
  -- A blob was fetched as from the shelf that the store is, and this is its answer.
  pub record FetchesBlob (old : Archive D) (r : List ℕ) (answer : Result (Option (List ℕ)) PeerFault) (new : Archive D) : Type 0 where
    pub told : Result (Option (List ℕ)) GetFault
    pub answers : answer ≡ fetch_answer told
    pub fetches : FetchesStore g old r told new

  -- A blob was put as into the store (`Store::put_own`), and this is its answer. It is neither too long nor under another ref.
  pub record KeepsBlob (old : Archive D) (blob : Blob) (answer : Result (Unit {0}) PeerFault) (new : Archive D) : Type 0 where
    pub told : Result Put PutFault
    pub of_peer : IfErr told IsOfPeer
    pub answers : answer ≡ put_answer told
    pub early : Answers (early_answer_own old blob.0 (length blob.1)) (count old) told
    pub leaves : Leaves g old new blob.0 blob.1 told
    pub held : OnOk told (HeldByAll (g.images new.disk) blob.0)
    pub failed : told ≡ Err Disk → FaultsRose (g.faults old.disk) (g.faults new.disk)
    pub crash : KeepsAll g old.disk new.disk

  -- a store as a peer
  abbrev pub peer_of : PeerGhosts (Archive D)
  peer_of = record {
    content = λ p. content_of g p;
    faults = λ p. g.faults p.disk;
    fills = λ p blob blobs pack. HasNoRoom g p.limits p blob blobs pack;
    follows = λ a b. KeepsAll g a.disk b.disk;
    puts = λ a blobs b. PutsStore g a blobs b;
    lists = λ a after limit answer b. ListsRows a after limit answer b;
    fetches = λ a r answer b. FetchesBlob a r answer b;
    keeps = λ a blob answer b. KeepsBlob a blob answer b;
  }
