-- Blobs that are read ahead of requests (docs/files.md).
use Rattle.std.specs.Prelude.{◌≡◌, ◌≢◌, None, Some}
use Rattle.std.specs.Option.{ForSome}
use Rattle.std.specs.FinMap.{get}
use Rattle.blobref.specs.Blobref.{IsOwnRef}
use Rattle.edge_base.specs.Shelf.{Blob}
use Rattle.pack_disk.specs.declared.disk.Disk.{Ghosts}
use Rattle.pack_store.specs.Archive.{Archive}
use Rattle.pack_store.specs.Rows.{number_of}
use Rattle.pack_store.specs.StoreShelf.{content_of}

-- the ref has arrived, and if the disk tells its packs, these are its bytes
pub record StandsUnder {D : Type 0} (g : Ghosts D) (store : Archive D) (blob : Blob) : Type 0 where
  pub arrived : number_of blob.0 store.rows ≢ None
  pub bytes : ForSome (content_of g store) (λ held. Some blob.1 ≡ get held blob.0)

-- a blob that is held under its own ref
pub record IsHeld {D : Type 0} (g : Ghosts D) (store : Archive D) (blob : Blob) : Type 0 where
  pub own : IsOwnRef blob.0 blob.1
  pub stands : StandsUnder g store blob
