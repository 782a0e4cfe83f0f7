-- Lists of desks whose passes belong to a home.
use Rattle.std.proofs.Common.{◌≡◌, ℕ, List, [], ◌∷◌, All, sym, subst, Some, None}
use Rattle.std.proofs.lemmas.List.Elements.{All-nil, All-cons, All-head, All-tail}
use Rattle.blob_server.specs.declared.desk_list.Desk.{Desk}
use Rattle.blob_server.specs.Desks.{desks_of, desk}
use Rattle.claim_verify.specs.Verifier.{Accepts}
use Rattle.pack_disk.specs.declared.disk.Disk.{Ghosts}
use Rattle.pack_store.specs.declared.limits.Limits.{Limits}
use Rattle.histories.specs.declared.events.IndexEvent.{IndexEvent}
use Rattle.home_places.specs.Seats.{StoreSight}
use Rattle.live_home.specs.declared.home.LiveHome.{LiveHome}
use Rattle.live_home.specs.declared.home.LivePass.{LivePass}
use Rattle.turn_store.specs.declared.store.TurnStore.{TurnStore}
use Rattle.turn_store.specs.declared.store.StoreSeat.{StoreSeat}
use Rattle.snap_index.specs.declared.held.About.{About}
use Rattle.snap_index.specs.declared.seat.SharedIndex.{SharedIndex}
use Rattle.snap_index.specs.declared.seat.SharedSeat.{SharedSeat}
use Rattle.snap_index.specs.SnapSeats.{IsOfSnap}
use Rattle.turn_store.specs.StoreSeats.{IsOfStore}
use Rattle.server_home.specs.Opening.{IsNew, IsOpenHome, arrived}

-- the seats of a desk's pass are of these places
abbrev pub HasOwn : {A B L : Type 0} → (A → Type 0) → (B → Type 0) → Desk (LivePass A B) L → Type 0
HasOwn store index d = store d.pass.store × index d.pass.index

-- of a list that begins with an item
module _ {X : Type 0} (x : X) (xs all : List X) (is : all ≡ x ∷ xs) (P : X → Type 0) (every : All P all) where
  pub first_own : P x
  first_own = All-head P x xs (subst (All P) is every)

  pub rest_own : All P xs
  rest_own = All-tail P x xs (subst (All P) is every)

-- desks have the passes of which they are made
pub desks_own : {P L : Type 0} (belongs : P → Type 0) (passes : List P) (listeners : List L) → All belongs passes
    → All (λ (d : Desk P L). belongs d.pass) (desks_of passes listeners)
desks_own {P} {L} belongs [] listeners own = All-nil (λ (d : Desk P L). belongs d.pass)
desks_own {P} {L} belongs (p ∷ passes) [] own =
    All-cons (λ (d : Desk P L). belongs d.pass) (desk p None) (desks_of passes []) (All-head belongs p passes own)
    (desks_own belongs passes [] (All-tail belongs p passes own))
desks_own {P} {L} belongs (p ∷ passes) (l ∷ listeners) own =
    All-cons (λ (d : Desk P L). belongs d.pass) (desk p (Some l)) (desks_of passes listeners)
    (All-head belongs p passes own) (desks_own belongs passes listeners (All-tail belongs p passes own))

-- new passes belong to their home
pub new_own : {D V C : Type 0} {b : _} (g : Ghosts D) (accepts : V → Accepts) (s : TurnStore D)
    (i : SharedIndex V C IndexEvent (About V)) (v : StoreSight) (keys : V)
    (passes : List (LivePass (StoreSeat D b) (SharedSeat V C))) → All (IsNew g accepts s i v keys) passes
    → All (λ p. IsOfStore g s p.store × IsOfSnap i p.index) passes
new_own g accepts s i v keys passes are k p under = let new = are k p under in (new.store.own, new.index.own)

-- and so do the passes of desks that are made of them
pub new_desks : {D V C L : Type 0} {b : _} {g : Ghosts D} {accepts : V → Accepts} {disk : D} {limits : Limits} {keys : V}
    {count : ℕ} {home : LiveHome (TurnStore D) (SharedIndex V C IndexEvent (About V))}
    {passes : List (LivePass (StoreSeat D b) (SharedSeat V C))} (listeners : List L)
    (desks : List (Desk (LivePass (StoreSeat D b) (SharedSeat V C)) L))
    → IsOpenHome g accepts disk limits keys count home passes → desks ≡ desks_of passes listeners
    → All (HasOwn (IsOfStore g home.store) (IsOfSnap home.index)) desks
new_desks {D} {V} {C} {L} {b} {g} {accepts} {disk} {limits} {keys} {count} {home} {passes} listeners desks opened is =
    subst (All (HasOwn (IsOfStore g home.store) (IsOfSnap home.index))) (sym is)
    (desks_own (λ (p : LivePass (StoreSeat D b) (SharedSeat V C)). IsOfStore g home.store p.store × IsOfSnap home.index p.index)
    passes listeners
    (new_own g accepts home.store home.index (arrived limits opened.blobs) keys passes opened.passes_are.1))
