-- What a round does with a hub and its peers, one peer after the other, whether or not they tell what they hold.
use Rattle.std.specs.Prelude.{◌≡◌, ℕ, ◌+◌, List, [], ◌∷◌, ◌++◌, length}
use Rattle.peer_base.specs.declared.peer.Peer.{Ghosts}
use Rattle.sync_core.specs.Syncing.{IsSynced, IsStopped}
use Rattle.sync_core.specs.Turns.{counted}
use Rattle.sync_core.specs.declared.syncing.SyncFault.{SyncFault}
use Rattle.sync_core.specs.declared.syncing.Synced.{Synced}

module _ {A P : Type 0} where
  -- R holds of the hub before and after each peer's turn, of that peer before and after it, and of a number. Each turn begins with the hub as the
  -- turn before left it; the total is the sum of the numbers.
  abbrev pub InTurn : (A → A → P → P → ℕ → Type 0) → A → A → (old now : List P) → ℕ → Type 0
  InTurn R hub hub_now [] [] total = (hub_now ≡ hub) × (total ≡ 0)
  InTurn R hub hub_now [] (q ∷ qs) total = ⊥
  InTurn R hub hub_now (p ∷ ps) [] total = ⊥
  InTurn R hub hub_now (p ∷ ps) (q ∷ qs) total =
      (between : A) × (n : ℕ) × (rest : ℕ) × R hub between p q n × InTurn R between hub_now ps qs rest × (total ≡ n + rest)

  -- and that total is counted, as far as a u64 reaches
  abbrev pub CountsTurns : (A → A → P → P → ℕ → Type 0) → A → A → (old now : List P) → ℕ → Type 0
  CountsTurns R hub hub_now old now n = (total : ℕ) × InTurn R hub hub_now old now total × (n ≡ counted total)

  -- the peers before this place had their turns, S holds of the turn of the one there, and the others are as before
  pub record StopsInTurn (R : A → A → P → P → ℕ → Type 0) (S : A → A → P → P → Type 0) (hub hub_now : A) (old now : List P) (k : ℕ) : Type 0 where
    pub front : List P
    pub front_now : List P
    pub peer : P
    pub peer_now : P
    pub rest : List P
    pub old_is : old ≡ front ++ peer ∷ rest
    pub now_is : now ≡ front_now ++ peer_now ∷ rest
    pub place : length front ≡ k
    pub mid : A
    pub total : ℕ
    pub before : InTurn R hub mid front front_now total
    pub stops : S mid hub_now peer peer_now

module _ {A P : Type 0} (g : Ghosts A) (h : Ghosts P) where
  -- the peer was copied to the hub, and so many blobs were
  abbrev pub Gives : A → A → P → P → ℕ → Type 0
  Gives hub hub_now peer peer_now n = (synced : Synced) × IsSynced h g peer peer_now hub hub_now synced × (n ≡ synced.copied)

  abbrev pub StopsGiving : SyncFault → A → A → P → P → Type 0
  StopsGiving e hub hub_now peer peer_now = IsStopped h g peer peer_now hub hub_now e

  -- the hub was copied to the peer, and so many blobs were
  abbrev pub Takes : A → A → P → P → ℕ → Type 0
  Takes hub hub_now peer peer_now n = (synced : Synced) × IsSynced g h hub hub_now peer peer_now synced × (n ≡ synced.copied)

  abbrev pub StopsTaking : SyncFault → A → A → P → P → Type 0
  StopsTaking e hub hub_now peer peer_now = IsStopped g h hub hub_now peer peer_now e
