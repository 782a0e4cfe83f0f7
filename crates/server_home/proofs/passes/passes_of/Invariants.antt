use Rattle.std.proofs.Common.{◌≡◌, ◌+◌, All, length}
use Rattle.std.specs.List.{Contains}
use Rattle.turn_store.specs.StoreSeats.{IsOfStore, store_sight}
use Rattle.server_home.specs.Passes.{IsOneOf}
use Rattle.server_home.proofs.passes.passes_of.Given as goal

abbrev pub invariant-seats : goal.invariant-seats
invariant-seats g l =
    IsOfStore g.D.Disk l.store l.store_seat
    × (store_sight l.store_seat ≡ store_sight l.fn.store_seat)
    × All (Contains l.fn.seats.items) l.left.items
    × All (IsOneOf g.D.Disk l.store (store_sight l.fn.store_seat) l.fn.seats.items) l.passes.items
    × (length l.passes.items + length l.left.items ≡ length l.fn.seats.items)

abbrev pub decreases-seats : goal.decreases-seats
decreases-seats g l = length l.left.items
