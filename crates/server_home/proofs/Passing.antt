-- Passes as they are made.
use Rattle.std.proofs.Common.{◌≡◌, ◌+◌, List, [], ◌∷◌, All, length, sym, ap, subst, ◌∙◌}
use Rattle.std.specs.List.{Contains}
use Rattle.std.proofs.lemmas.List.{length-append}
use Rattle.std.proofs.lemmas.List.Elements.{All-contains, All-push, All-weaker}
use Rattle.claim_verify.specs.Verifier.{Accepts}
use Rattle.pack_disk.specs.declared.disk.Disk.{Ghosts}
use Rattle.histories.specs.declared.events.IndexEvent.{IndexEvent}
use Rattle.home_places.specs.Seats.{StoreSight}
use Rattle.live_home.specs.declared.home.LivePass.{LivePass}
use Rattle.turn_store.specs.declared.store.TurnStore.{TurnStore}
use Rattle.turn_store.specs.declared.store.StoreSeat.{StoreSeat}
use Rattle.snap_index.specs.declared.held.About.{About}
use Rattle.snap_index.specs.declared.seat.SharedIndex.{SharedIndex}
use Rattle.snap_index.specs.declared.seat.SharedSeat.{SharedSeat}
use Rattle.snap_index.specs.Making.{IsFresh}
use Rattle.server_home.specs.Passes.{IsOneOf, HasOneMore, AreOf}
use Rattle.server_home.specs.Opening.{IsNew, ArePasses}

module _ {D B : Type 0} {b : _} (g : Ghosts D) (s : TurnStore D) (v : StoreSight) (seat : B) where
  pub one_more : (seats : List B) (old new : List (LivePass (StoreSeat D b) B)) → Contains seats seat → HasOneMore g s v seat old new
      → All (IsOneOf g s v seats) old → All (IsOneOf g s v seats) new
  one_more seats old new here more are = subst (All (IsOneOf g s v seats)) (sym more.added)
      (All-push (IsOneOf g s v seats) old more.pass are (record { store = more.store; index = subst (Contains seats) (sym more.index) here }))

  pub one_longer : (old new : List (LivePass (StoreSeat D b) B)) → HasOneMore g s v seat old new → length new ≡ length old + 1
  one_longer old new more = ap length more.added ∙ length-append old (more.pass ∷ [])

-- passes of fresh seats of an index are new
pub new_passes : {D V C : Type 0} {b : _} (g : Ghosts D) (accepts : V → Accepts) (s : TurnStore D)
    (i : SharedIndex V C IndexEvent (About V)) (v : StoreSight) (keys : V) (count : _) (seats : List (SharedSeat V C))
    (passes : List (LivePass (StoreSeat D b) (SharedSeat V C))) → length seats ≡ count → All (IsFresh accepts i keys) seats
    → AreOf g s v seats passes → ArePasses g accepts s i v keys count passes
new_passes g accepts s i v keys count seats passes long fresh are = (
  are.0 ∙ long,
  All-weaker (IsOneOf g s v seats) (IsNew g accepts s i v keys) (λ p of. record {
    store = of.store;
    index = All-contains (IsFresh accepts i keys) seats p.index fresh of.index;
  }) passes are.1,
)
