-- How serving ends, and what it leaves of the desks.
use Rattle.std.specs.Prelude.{◌≡◌, ◌+◌, ◌<◌, ◌≤◌, ◌⊎◌, ◌&&◌, not, if◌then◌else◌, ℕ, List, [], ◌∷◌, Bool, true, false}
use Rattle.std.specs.Prelude.{nat_eq, Option, Some, None, Result, Ok, Err}
use Rattle.std.specs.List.{sum_by, list_any, AllZip}
use Rattle.edge_base.specs.Edge.{FaultsRose}
use Rattle.edge_base.specs.declared.answers.GetFault.{GetFault}
use Rattle.edge_base.specs.declared.answers.GetFault.TheVariants as unread
use Rattle.home_places.specs.Passes.{Sight, Settles}
use Rattle.blob_http.specs.Serving.{Longer}
use Rattle.top_frame.specs.declared.status.Status.{Status}
use Rattle.top_frame.specs.declared.status.Status.TheVariants as status
use Rattle.blob_server.specs.Stands.{Counts, Stand, last_count, lost, Attends}
use Rattle.blob_server.specs.Counting.{Attended}

-- counts of faults don't fall; and where an accept failed, that of the listener rose
abbrev pub Counted : Option Counts → Option Counts → Bool → Type 0
Counted None None failed = failed ≡ false
Counted None (Some now) failed = ⊥
Counted (Some before) None failed = ⊥
Counted (Some before) (Some now) failed =
    (before.faults ≤ now.faults) × (failed ≡ true → FaultsRose before.faults now.faults)

-- what is left of each desk
pub record Tended (v w : Stand) : Type 0 where
  pub longer : Longer v.sight w.sight
  pub counted : Counted v.counts w.counts w.failed

abbrev pub accepted_of : Option Counts → ℕ
accepted_of None = 0
accepted_of (Some counts) = counts.accepted

abbrev pub is_worker : Option Counts → Bool
is_worker None = false
is_worker (Some counts) = true

-- how many connections all listeners gave
abbrev pub accepted_in : List Stand → ℕ
accepted_in = sum_by (λ (s : Stand). accepted_of s.counts)

abbrev pub has_worker : List Stand → Bool
has_worker = list_any (λ (s : Stand). is_worker s.counts)

abbrev pub has_failed : List Stand → Bool
has_failed = list_any (λ (s : Stand). s.failed)

-- how many accepts failed, of which each ended its worker
abbrev pub failed_in : List Stand → ℕ
failed_in = sum_by (λ (s : Stand). lost s.failed)

-- a worker went on until none was left to accept
abbrev pub is_steady : Stand → Bool
is_steady s = is_worker s.counts && not s.failed

abbrev pub has_steady : List Stand → Bool
has_steady = list_any is_steady

-- a listener stands at the last count
abbrev pub is_at_last : List Stand → Bool
is_at_last = list_any (λ (s : Stand). nat_eq (accepted_of s.counts) last_count)

-- a desk whose pass was settled
abbrev pub settled : Stand → Sight → Stand
settled desk now = record { sight = now; counts = desk.counts; failed = desk.failed }

-- the first pass was settled, with this answer, and nothing else was done
pub record SettlesFirst (result : Result (Unit {0}) GetFault) (before after : List Stand) : Type 0 where
  pub first : Stand
  pub now : Sight
  pub rest : List Stand
  pub before_is : before ≡ first ∷ rest
  pub after_is : after ≡ settled first now ∷ rest
  pub settles : Settles result first.sight now

-- all that the first pass had seen arrive was inserted, and nothing else was done, so no connection was accepted
abbrev pub FirstSettled : List Stand → List Stand → Type 0
FirstSettled [] begun = begun ≡ []
FirstSettled (v ∷ vs) begun = SettlesFirst (Ok tt) (v ∷ vs) begun

-- The first pass was settled. From there on the connections were served, at most so many.
pub record AreServed (connections : ℕ) (before after : List Stand) : Type 0 where
  pub begun : List Stand
  pub settled : FirstSettled before begun
  pub tended : AllZip Tended begun after
  pub most : accepted_in after ≤ accepted_in before + connections

-- where there is a worker, all connections were accepted, unless a listener stands at the last count
abbrev pub AllAccepted : ℕ → List Stand → List Stand → Type 0
AllAccepted connections before after = has_worker before ≡ true
    → (accepted_in after ≡ accepted_in before + connections) ⊎ (is_at_last after ≡ true)

-- A failed accept ends its own worker alone, and takes one connection with it: where another worker goes on, all others
-- were accepted, unless a listener stands at the last count.
abbrev pub OthersGoOn : ℕ → List Stand → List Stand → Type 0
OthersGoOn connections before after = has_steady after ≡ true
    → (accepted_in after + failed_in after ≡ accepted_in before + connections) ⊎ (is_at_last after ≡ true)

-- what is left, by the answer
abbrev pub Ends : ℕ → List Stand → List Stand → Status → Type 0
Ends connections before after status.Done = AreServed connections before after × (has_failed after ≡ false)
    × AllAccepted connections before after
Ends connections before after status.ListenerFault = AreServed connections before after × (has_failed after ≡ true)
    × OthersGoOn connections before after
Ends connections before after status.Disk = SettlesFirst (Err unread.Disk) before after
Ends connections before after (status.Damaged want is) = SettlesFirst (Err (unread.Damaged want is)) before after
Ends connections before after status.NoMemory = SettlesFirst (Err unread.NoMemory) before after
Ends connections before after status.BadWords = ⊥
Ends connections before after (status.Absent r) = ⊥
Ends connections before after (status.BadInput fault) = ⊥
Ends connections before after status.ReadFault = ⊥
Ends connections before after status.WriteFault = ⊥
Ends connections before after status.Peer = ⊥
Ends connections before after (status.BadReply fault) = ⊥
Ends connections before after status.HandFault = ⊥
Ends connections before after (status.Full blobs pack) = ⊥

-- the desks served settled passes, and what a hand with every part knows of the connections
pub record Serves (connections : ℕ) (before after : List Stand) (result : Status) : Type 0 where
  pub taken : ℕ
  pub dry : ℕ
  pub attended : Attended Attends before after taken dry
  pub most : taken ≤ connections
  pub all : 0 < dry → taken ≡ connections
  pub answer : result ≡ (if has_failed after then status.ListenerFault else status.Done)
