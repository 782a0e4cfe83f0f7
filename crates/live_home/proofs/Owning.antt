-- A blob of a legal history is under a ref of its bytes.
use Rattle.std.proofs.Common.{◌≡◌, ℕ, true, [], List, slice_get, Some}
use Rattle.blobref.specs.Blobref.{IsOwnRef}
use Rattle.blobref.proofs.Digests.{is_own_ref-true}
use Rattle.histories.specs.declared.stamped.Stamped.{Stamped}
use Rattle.histories.specs.declared.events.StoreEvent.{StoreEvent}
use Rattle.histories.specs.Stores.{StoreLimits, arrivals, is_legal_store}
use Rattle.histories.proofs.Owning.{arrivals_are_own}
use Rattle.home_places.proofs.Owning.{own_after}

pub arrival_own : (limits : StoreLimits) (h : List (Stamped StoreEvent)) (n : ℕ) (r bytes : List ℕ)
    → is_legal_store limits h ≡ true → slice_get (arrivals h) n ≡ Some (r, bytes) → IsOwnRef r bytes
arrival_own limits h n r bytes ok at =
    is_own_ref-true r bytes (own_after [] (arrivals h) n (r, bytes) (arrivals_are_own limits h ok) at)
