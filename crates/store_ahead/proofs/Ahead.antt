-- What is kept of the blobs that are read ahead.
use Rattle.std.proofs.Common.{◌≡◌, ℕ, Bool, true, false, cond, List, [], ◌∷◌, ◌++◌, Option, Some, take, sym, ap, subst, ◌∙◌}
use Rattle.std.proofs.lemmas.List.Elements.{All-pop, All-push, All-take}
use Rattle.std.proofs.lemmas.List.Sorted.{All-permutation}
use Rattle.std.specs.FinMap.{get}
use Rattle.std.specs.List.{All}
use Rattle.std.specs.List.Sorted.{IsPermutation}
use Rattle.std.specs.Option.{ForSome}
use Rattle.blobref.proofs.Digests.{IsOwnRef-named}
use Rattle.edge_base.specs.Shelf.{Blob, Blobs}
use Rattle.pack_disk.specs.declared.disk.Disk.{Ghosts}
use Rattle.pack_store.specs.Archive.{Archive}
use Rattle.pack_store.specs.Reading.{StaysStill}
use Rattle.pack_store.specs.Rows.{number_of}
use Rattle.pack_store.proofs.StoreShelf.{content_read}
use Rattle.blob_checks.specs.Checks.{IsNamed}
use Rattle.store_ahead.specs.Ahead.{StandsUnder, IsHeld}

module _ {D : Type 0} (g : Ghosts D) where
  still_stands : (old new : Archive D) (blob : Blob) → StaysStill g old new → StandsUnder g old blob → StandsUnder g new blob
  still_stands old new blob still stands = record {
    arrived = λ none. stands.arrived (sym (ap (λ (s : Archive D). number_of blob.0 s.rows) still.value) ∙ none);
    bytes = subst (λ (told : Option Blobs). ForSome told (λ held. Some blob.1 ≡ get held blob.0)) (sym (content_read g old new still)) stands.bytes;
  }

  stood_before : (old new : Archive D) (blob : Blob) → StaysStill g old new → StandsUnder g new blob → StandsUnder g old blob
  stood_before old new blob still stands = record {
    arrived = λ none. stands.arrived (ap (λ (s : Archive D). number_of blob.0 s.rows) still.value ∙ none);
    bytes = subst (λ (told : Option Blobs). ForSome told (λ held. Some blob.1 ≡ get held blob.0)) (content_read g old new still) stands.bytes;
  }

  -- one more was read, and was put behind the others where there was memory
  pub more_stand : (start store : Archive D) (blobs now : List Blob) (blob : Blob) (pushed : Bool) → StaysStill g start store → All (StandsUnder g start) blobs
      → StandsUnder g store blob → now ≡ cond pushed (blobs ++ blob ∷ []) blobs → All (StandsUnder g start) now
  more_stand start store blobs now blob pushed still all one is = subst (All (StandsUnder g start)) (sym is) (go pushed)
    where
      go : (b : Bool) → All (StandsUnder g start) (cond b (blobs ++ blob ∷ []) blobs)
      go true = All-push (StandsUnder g start) blobs blob all (stood_before start store blob still one)
      go false = all

  -- those whose refs were found to be their own, in another order
  pub kept_ahead : (old new : Archive D) (blobs seen cut slice kept : List Blob) (n : ℕ) → StaysStill g old new → seen ≡ blobs → cut ≡ take n blobs → slice ≡ cut
      → All (StandsUnder g old) blobs → All IsNamed (take n seen) → IsPermutation slice kept → All (IsHeld g new) kept
  kept_ahead old new blobs seen cut slice kept n still seen_is cut_is slice_is stand named moved =
      let held : All (IsHeld g new) (take n blobs) = λ k d less. record {
        own = IsOwnRef-named _ _ (subst (λ (l : List Blob). All IsNamed (take n l)) seen_is named k d less);
        stands = still_stands old new _ still (All-take (StandsUnder g old) n blobs stand k d less);
      } in
      All-permutation (IsHeld g new) slice kept moved (subst (All (IsHeld g new)) (sym (slice_is ∙ cut_is)) held)

  -- the last one
  pub last_held : (store now : Archive D) (blobs rest : List Blob) (q r bytes : List ℕ) → store ≡ now → q ≡ r → blobs ≡ rest ++ (q, bytes) ∷ []
      → All (IsHeld g store) blobs → IsHeld g now (r, bytes)
  last_held store now blobs rest q r bytes same asked is held =
      let last : IsHeld g store (q, bytes) = (All-pop (IsHeld g store) blobs rest (Some (q, bytes)) is held).1 in
      subst (λ (s : Archive D). IsHeld g s (r, bytes)) same (subst (λ (x : List ℕ). IsHeld g store (x, bytes)) asked last)
