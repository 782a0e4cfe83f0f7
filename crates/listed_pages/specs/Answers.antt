-- Calls of a peer in the course of a run of its calls, by what they answered.
use Rattle.std.specs.Prelude.{◌≡◌, ◌⊎◌, ℕ, List, Option, Result, Ok, Err}
use Rattle.edge_base.specs.Shelf.{Blob}
use Rattle.peer_base.specs.declared.peer.Peer.{Ghosts}
use Rattle.peer_base.specs.declared.peer.PeerFault.{PeerFault}
use Rattle.peer_base.specs.declared.peer.PeerFault.TheVariants as fault

module _ {A : Type 0} (g : Ghosts A) (old new : A) where
  -- between the two, a call of `list` answered so
  pub record Listed (answer : Result (List (List ℕ × ℕ)) PeerFault) : Type 0 where
    pub before : A
    pub now : A
    pub after : Option (List ℕ)
    pub limit : ℕ
    pub begins : g.follows old before
    pub call : g.lists before after limit answer now
    pub ends : g.follows now new

  -- a call of `fetch` for this ref answered so
  pub record Fetched (r : List ℕ) (answer : Result (Option (List ℕ)) PeerFault) : Type 0 where
    pub before : A
    pub now : A
    pub begins : g.follows old before
    pub call : g.fetches before r answer now
    pub ends : g.follows now new

  -- a call of `put` for this blob answered so
  pub record Put (blob : Blob) (answer : Result (Unit {0}) PeerFault) : Type 0 where
    pub before : A
    pub now : A
    pub begins : g.follows old before
    pub call : g.keeps before blob answer now
    pub ends : g.follows now new

  -- it listed a page
  abbrev pub IsReached : Type 0
  IsReached = (page : List (List ℕ × ℕ)) × Listed (Ok page)

  -- a peer that is copied from answered with this fault
  abbrev pub SourceAnswered : PeerFault → Type 0
  SourceAnswered e = Listed (Err e) ⊎ ((r : List ℕ) × Fetched r (Err e))

  -- a peer that is copied to did, or no memory was left
  abbrev pub TargetAnswered : PeerFault → Type 0
  TargetAnswered e = (e ≡ fault.NoMemory) ⊎ (Listed (Err e) ⊎ ((blob : Blob) × Put blob (Err e)))
