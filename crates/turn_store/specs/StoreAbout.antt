-- The parts of a store that no turn changes.
use Rattle.std.specs.Prelude.{◌≡◌, ℕ, List, Bool, true, false, ◌&&◌, Option, Some, None}
use Rattle.std.specs.List.{list_all}
use Rattle.std.proofs.lemmas.Bool.{and_from}
use Rattle.histories.specs.declared.stamped.Stamped.{Stamped}
use Rattle.histories.specs.declared.events.StoreEvent.{StoreEvent}
use Rattle.histories.specs.History.{events}
use Rattle.histories.specs.Stores.{StoreLimits, is_legal_store}
use Rattle.pack_disk.specs.declared.disk.Disk.{Ghosts}
use Rattle.pack_store.specs.Archive.{Archive}
use Rattle.store_history.specs.Represents.{limits_of, is_told, may_stand, StoreRepresents}
use Rattle.turn_store.specs.declared.store.StoreAbout.{StoreAbout}

-- those of a store whose disk had counted so many faults when it was put into the lock
abbrev pub about_of : {D : Type 0} → Ghosts D → ℕ → Archive D → StoreAbout
about_of g made s =
    record { blobs = (limits_of s).blobs; last_pack = (limits_of s).last_pack; tells = is_told g s; made = made }

-- the limits among them
abbrev pub limits_in : StoreAbout → StoreLimits
limits_in a = record { blobs = a.blobs; last_pack = a.last_pack }

-- The history is legal within the limits. Its faults were counted after the store was put into the lock, and if the
-- disk tells, there is no damage in it.
abbrev pub is_legal_within : StoreAbout → List (Stamped StoreEvent) → Bool
is_legal_within a h = is_legal_store (limits_in a) h && list_all (may_stand a.made a.tells) (events h)

-- each history that a store stands for is legal in this sense
pub legal_within : {D : Type 0} (g : Ghosts D) (made : ℕ) (s : Archive D) (h : List (Stamped StoreEvent))
    → StoreRepresents g made s h → is_legal_within (about_of g made s) h ≡ true
legal_within g made s h tells = and_from _ _ tells.legal tells.stands

-- what a seat knows of them; each seat of a lock knows them
abbrev pub about_seen : Option StoreAbout → StoreAbout
about_seen None = record { blobs = 0; last_pack = 0; tells = false; made = 0 }
about_seen (Some a) = a

abbrev pub limits_seen : Option StoreAbout → StoreLimits
limits_seen o = limits_in (about_seen o)
