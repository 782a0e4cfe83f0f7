-- What desks are seen as, and what serving leaves of each.
use Rattle.std.specs.Prelude.{◌≡◌, ◌+◌, ◌-◌, ◌^◌, ◌<◌, ◌≤◌, ◌⊎◌, ℕ, Bool, true, false, Option, Some, None}
use Rattle.std.specs.Option.{option_map}
use Rattle.edge_base.specs.Edge.{FaultsRose}
use Rattle.home_places.specs.Passes.{Sight}
use Rattle.blob_http.specs.Serving.{Longer}
use Rattle.blob_server.specs.declared.desk_list.Desk.{Desk}

-- how many connections a listener gave, and how often it failed
pub record Counts : Type 0 where
  pub accepted : ℕ
  pub faults : ℕ

-- what the pass is seen as, what the listener counts, where there is one, and whether an accept failed
pub record Stand : Type 0 where
  pub sight : Sight
  pub counts : Option Counts
  pub failed : Bool

abbrev pub counts_of : {L : Type 0} (accepted faults : L → ℕ) → L → Counts
counts_of accepted faults l = record { accepted = accepted l; faults = faults l }

module _ {P L : Type 0} (sight : P → Sight) (accepted faults : L → ℕ) where
  abbrev pub stand_of : Desk P L → Stand
  stand_of d = record {
    sight = sight d.pass;
    counts = option_map (counts_of accepted faults) d.listener;
    failed = d.failed;
  }

-- a listener's last count of connections
abbrev pub last_count : ℕ
last_count = 2 ^ 64 - 1

-- the listener gave as many connections as were taken, or stands at the last count
abbrev pub IsGiven : ℕ → ℕ → ℕ → Type 0
IsGiven before now taken = (now ≡ before + taken) ⊎ (now ≡ last_count)

-- how many connections were taken without one being given: the one at which the accept failed
abbrev pub lost : Bool → ℕ
lost true = 1
lost false = 0

-- What a worker leaves of its listener. It ended since none was left to take, or since an accept failed.
pub record Gives (before now : Counts) (failed : Bool) (taken dry : ℕ) : Type 0 where
  pub later : before.faults ≤ now.faults
  pub most : now.accepted ≤ before.accepted + taken
  pub all : (given : ℕ) × (taken ≡ given + lost failed) × IsGiven before.accepted now.accepted given
  pub done : failed ≡ false → 0 < dry
  pub fails : failed ≡ true → FaultsRose before.faults now.faults

-- of a desk: an indexer takes nothing, and doesn't fail
abbrev pub GivesBy : Option Counts → Option Counts → Bool → ℕ → ℕ → Type 0
GivesBy None None failed taken dry = (failed ≡ false) × (taken ≡ 0) × (dry ≡ 0)
GivesBy None (Some now) failed taken dry = ⊥
GivesBy (Some before) None failed taken dry = ⊥
GivesBy (Some before) (Some now) failed taken dry = Gives before now failed taken dry

-- what is left of a desk that took so many connections, and so often found none left
pub record Attends (v w : Stand) (taken dry : ℕ) : Type 0 where
  pub longer : Longer v.sight w.sight
  pub gives : GivesBy v.counts w.counts w.failed taken dry
