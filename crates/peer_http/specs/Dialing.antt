-- A peer whose connection is made at its first call.
use Rattle.std.specs.Prelude.{◌≡◌, ℕ, List, [], Option, None, Some, Result, Ok, Err, IfSome}
use Rattle.blobref.specs.declared.memory.NoMemory.{NoMemory}
use Rattle.edge_base.specs.Edge.{one_more, FaultsRose}
use Rattle.peer_base.specs.declared.peer.PeerFault.{PeerFault}
use Rattle.peer_base.specs.declared.peer.PeerFault.TheVariants as fault
use Rattle.peer_http.specs.Links.{LinkView, unread}

-- who dials, the connection, where there is one so far, and how often a call failed
pub record OnDemand (D S K : Type 0) : Type 0 where
  pub dialer : D
  pub link : Option (LinkView S K)
  pub faults : ℕ

-- these are ends that the dialer gave in this call, and nothing was written to them before
abbrev pub AreNew : {D S K : Type 0} → (gives : D → Result (S × K) NoMemory → D → Type 0) → (written : K → Option (List ℕ)) → (dialer dialer_now : D) → S → K → Type 0
AreNew gives written dialer dialer_now source sink = gives dialer (Ok (source, sink)) dialer_now × IfSome (written sink) (λ bytes. bytes ≡ [])

-- The connection that is asked is the one that there is. Where there is none it is a new one, of which nothing was read, or there is no
-- memory for one, and whatever the dialer gave is let go, unasked.
abbrev pub Takes : {D S K : Type 0} → (gives : D → Result (S × K) NoMemory → D → Type 0) → (written : K → Option (List ℕ)) → (dialer : D) → Option (LinkView S K) → (dialer_now : D)
    → Result (LinkView S K) NoMemory → Type 0
Takes gives written dialer (Some link) dialer_now (Ok asked) = (asked ≡ link) × (dialer_now ≡ dialer)
Takes gives written dialer (Some link) dialer_now (Err error) = ⊥
Takes {D} {S} {K} gives written dialer None dialer_now (Ok asked) = (source : S) × (sink : K) × AreNew gives written dialer dialer_now source sink × (asked ≡ unread source sink)
Takes {D} {S} {K} gives written dialer None dialer_now (Err error) = (given : Result (S × K) NoMemory) × gives dialer given dialer_now

-- how often a call failed, after one more call
abbrev pub count_after : {T : Type 0} → Result T PeerFault → ℕ → ℕ
count_after (Err fault.Failed) count = one_more count
count_after answer count = count

-- What a call is of the dialer and the connection: it was a call over the connection that was asked, whose count of faults rose where it failed,
-- or there was no memory for one. `Calls` is what it is over a connection, by that before, the answer, and that after it.
abbrev pub AsksBy : {D S K T : Type 0} → (gives : D → Result (S × K) NoMemory → D → Type 0) → (written : K → Option (List ℕ))
    → (faults : LinkView S K → ℕ) → (Calls : LinkView S K → Result T PeerFault → LinkView S K → Type 0) → (dialer : D) → Option (LinkView S K) → Result T PeerFault → (dialer_now : D)
    → Option (LinkView S K) → Type 0
AsksBy {D} {S} {K} gives written faults Calls dialer link answer dialer_now (Some link_now) =
    (asked : LinkView S K) × Takes gives written dialer link dialer_now (Ok asked) × Calls asked answer link_now
    × (answer ≡ Err fault.Failed → FaultsRose (faults asked) (faults link_now))
AsksBy gives written faults Calls dialer link answer dialer_now None = (answer ≡ Err fault.NoMemory) × ((error : NoMemory) × Takes gives written dialer link dialer_now (Err error))

-- and of the count of faults
pub record IsDialed {D S K T : Type 0} (gives : D → Result (S × K) NoMemory → D → Type 0) (written : K → Option (List ℕ))
    (faults : LinkView S K → ℕ) (Calls : LinkView S K → Result T PeerFault → LinkView S K → Type 0) (old : OnDemand D S K) (answer : Result T PeerFault) (new : OnDemand D S K) : Type 0 where
  pub asks : AsksBy gives written faults Calls old.dialer old.link answer new.dialer new.link
  pub counted : new.faults ≡ count_after answer old.faults
