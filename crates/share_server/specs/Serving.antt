-- How serving shares ends, and from what the gate is made.
use Rattle.std.specs.Prelude.{◌≡◌, ◌≢◌, ◌⊎◌, ℕ, ◌+◌, ◌-◌, ◌^◌, List, map, Option, None}
use Rattle.std.specs.FinMap.{from_entries}
use Rattle.edge_base.specs.Edge.{FaultsRose}
use Rattle.edge_base.specs.Shelf.{Blobs}
use Rattle.edge_base.specs.declared.answers.GetFault.{GetFault}
use Rattle.edge_base.specs.declared.answers.GetFault.TheVariants as getting
use Rattle.schema_json.specs.Facts.{fact_of}
use Rattle.claim_model.specs.Facts.{Entry, facts_of}
use Rattle.share_gate.specs.Building.{HasRefs}
use Rattle.top_frame.specs.declared.status.Status.{Status}
use Rattle.top_frame.specs.declared.status.Status.TheVariants as status

-- the refs of facts, in their order
abbrev pub refs_of : List Entry → List (List ℕ)
refs_of = map (λ (e : Entry). e.0)

-- these are the facts of these blobs, each with its ref
pub record IsListing (listed : List Entry) (held : Blobs) : Type 0 where
  pub refs : HasRefs (refs_of listed) held
  pub facts : from_entries listed ≡ facts_of fact_of held

-- why no gate was made
abbrev pub GateFault : {T : Type 0} → Option T → (before now : ℕ) → GetFault → Type 0
GateFault told before now getting.Disk = FaultsRose before now
GateFault told before now (getting.Damaged want is) = (is ≢ want) × (told ≡ None)
GateFault told before now getting.NoMemory = Unit {0}

-- so many connections were accepted, unless the count is at its maximum
abbrev pub IsAccepted : ℕ → (before now : ℕ) → Type 0
IsAccepted connections before now = (now ≡ before + connections) ⊎ (now ≡ 2 ^ 64 - 1)

-- How it ended: by the counts of accepted connections and of the listener's faults, and by those of the disk, which
-- tells its packs or doesn't.
abbrev pub Ends : {T : Type 0} → ℕ → (accepted accepted' listened listened' : ℕ) → Option T → (read read' : ℕ)
    → Status → Type 0
Ends connections accepted accepted' listened listened' told read read' status.Done =
    IsAccepted connections accepted accepted'
Ends connections accepted accepted' listened listened' told read read' status.ListenerFault =
    FaultsRose listened listened'
Ends connections accepted accepted' listened listened' told read read' status.Disk =
    FaultsRose read read' × (accepted' ≡ accepted)
Ends connections accepted accepted' listened listened' told read read' (status.Damaged want is) =
    (is ≢ want) × (told ≡ None) × (accepted' ≡ accepted)
Ends connections accepted accepted' listened listened' told read read' status.NoMemory = accepted' ≡ accepted
Ends connections accepted accepted' listened listened' told read read' status.BadWords = ⊥
Ends connections accepted accepted' listened listened' told read read' (status.Absent r) = ⊥
Ends connections accepted accepted' listened listened' told read read' (status.BadInput fault) = ⊥
Ends connections accepted accepted' listened listened' told read read' status.ReadFault = ⊥
Ends connections accepted accepted' listened listened' told read read' status.WriteFault = ⊥
Ends connections accepted accepted' listened listened' told read read' status.Peer = ⊥
Ends connections accepted accepted' listened listened' told read read' (status.BadReply fault) = ⊥
Ends connections accepted accepted' listened listened' told read read' status.HandFault = ⊥
Ends connections accepted accepted' listened listened' told read read' (status.Full blobs pack) = ⊥
