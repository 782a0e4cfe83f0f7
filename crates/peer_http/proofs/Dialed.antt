-- What is known of a call over ends that are made at the first one.
use Rattle.std.proofs.Common.{◌≡◌, ℕ, List, [], Option, None, Some, Result, Ok, Err, IfOk, IfSome, sym, ap, subst}
use Rattle.blobref.specs.declared.memory.NoMemory.{NoMemory}
use Rattle.edge_base.specs.Edge.{FaultsRose}
use Rattle.peer_base.specs.declared.peer.PeerFault.{PeerFault}
use Rattle.peer_base.specs.declared.peer.PeerFault.TheVariants as fault
use Rattle.peer_http.specs.Dialing.{OnDemand, Takes, IsDialed, count_after}
use Rattle.peer_http.specs.Links.{LinkView, unread}

-- whatever the dialer gave, there is no connection
pub no_ends : {D S K : Type 0} (gives : D → Result (S × K) NoMemory → D → Type 0) (written : K → Option (List ℕ)) (old inside : OnDemand D S K) (dialer_now : D)
    (given : Result (S × K) NoMemory) (error : NoMemory)
    → inside ≡ old → inside.link ≡ None → gives inside.dialer given dialer_now → Takes gives written old.dialer old.link dialer_now (Err error)
no_ends {D} {S} {K} gives written old inside dialer_now given error is none gave =
    subst (λ (o : OnDemand D S K). Takes gives written o.dialer o.link dialer_now (Err error)) is
    (subst (λ (l : Option (LinkView S K)). Takes gives written inside.dialer l dialer_now (Err error)) (sym none) (given, gave))

-- a connection over the ends that the dialer gave, unless there is no memory for it
pub new_ends : {D S K : Type 0} (gives : D → Result (S × K) NoMemory → D → Type 0) (written : K → Option (List ℕ)) (old inside : OnDemand D S K) (dialer_now : D)
    (source : S) (sink : K) (result : Result (LinkView S K) NoMemory)
    → inside ≡ old → inside.link ≡ None → gives inside.dialer (Ok (source, sink)) dialer_now → IfSome (written sink) (λ bytes. bytes ≡ [])
    → IfOk result (λ link. link ≡ unread source sink) → Takes gives written old.dialer old.link dialer_now result
new_ends gives written old inside dialer_now source sink (Err error) is none gave unasked made = no_ends gives written old inside dialer_now (Ok (source, sink)) error is none gave
new_ends {D} {S} {K} gives written old inside dialer_now source sink (Ok link) is none gave unasked made =
    subst (λ (o : OnDemand D S K). Takes gives written o.dialer o.link dialer_now (Ok link)) is
    (subst (λ (l : Option (LinkView S K)). Takes gives written inside.dialer l dialer_now (Ok link)) (sym none) (source, sink, (gave, unasked), made))

-- a call over the connection that was taken, which was put back and counted
pub dialed : {D S K T : Type 0} (gives : D → Result (S × K) NoMemory → D → Type 0) (written : K → Option (List ℕ)) (faults : LinkView S K → ℕ)
    (Calls : LinkView S K → Result T PeerFault → LinkView S K → Type 0) (old mid new : OnDemand D S K) (asked link_now : LinkView S K) (given answer : Result T PeerFault)
    → Takes gives written old.dialer old.link mid.dialer (Ok asked) → mid.faults ≡ old.faults → Calls asked given link_now
    → (given ≡ Err fault.Failed → FaultsRose (faults asked) (faults link_now)) → answer ≡ given
    → new ≡ record { dialer = mid.dialer; link = Some link_now; faults = count_after given mid.faults } → IsDialed gives written faults Calls old answer new
dialed {D} {S} {K} {T} gives written faults Calls old mid new asked link_now given answer takes same called failed e is =
    subst (λ (o : OnDemand D S K). IsDialed gives written faults Calls old answer o) (sym is) (subst (λ (a : Result T PeerFault). IsDialed gives written faults Calls old a back) (sym e) (record {
      asks = (asked, takes, called, failed);
      counted = ap (λ (n : ℕ). count_after given n) same;
    }))
  where
    back : OnDemand D S K
    back = record { dialer = mid.dialer; link = Some link_now; faults = count_after given mid.faults }
