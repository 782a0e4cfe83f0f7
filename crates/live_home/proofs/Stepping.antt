-- A step of a worker.
use Rattle.std.proofs.Common.{◌≡◌, ℕ, ◌+◌, ◌<◌, length, refl, sym, subst, arith, Option, Some, Result, Ok, Err}
use Rattle.blobref.specs.declared.memory.NoMemory.{NoMemory}
use Rattle.edge_base.specs.declared.answers.GetFault.{GetFault}
use Rattle.edge_base.specs.declared.answers.GetFault.TheVariants as unread
use Rattle.histories.specs.History.{stamped}
use Rattle.histories.specs.Stores.{arrivals}
use Rattle.histories.specs.StoreCalls.{CountSpec}
use Rattle.histories.specs.IndexCalls.{TakeSpec, ReturnSpec}
use Rattle.histories.proofs.Prefixes.{prefix_length}
use Rattle.histories.proofs.Standing.{arrivals_prefix}
use Rattle.home_places.specs.Seats.{StoreSight, IndexSight, StoreTurn, IndexTurn}
use Rattle.home_places.specs.Passes.{Sight}
use Rattle.home_places.specs.Working.{Takes, TakesAnd, GivesBack, Fails, Refuses}
use Rattle.live_home.specs.Sights.{sight_at}

-- what a take answered
abbrev pub taken_as : (arrived : ℕ) (x y : IndexSight) (taken answer : Result (Option ℕ) NoMemory) → taken ≡ answer
    → IndexTurn (λ before entry. TakeSpec arrived before taken entry) x y → IndexTurn (λ before entry. TakeSpec arrived before answer entry) x y
taken_as arrived x y taken answer is = subst (λ (r : Result (Option ℕ) NoMemory). IndexTurn (λ before entry. TakeSpec arrived before r entry) x y) is

module _ (arrived : ℕ) (v w : StoreSight) (x y : IndexSight) (count : StoreTurn (λ before entry. CountSpec before arrived entry) v w) where
  pub took : (taken : Result (Option ℕ) NoMemory) → IndexTurn (λ before entry. TakeSpec arrived before taken entry) x y
      → Takes arrived taken (sight_at v x) (sight_at w y)
  took taken take = record {
    middle = sight_at w x;
    count = record { turn = count; index = refl; spent = refl };
    take = record { turn = take; store = refl; spent = refl };
  }

  -- a number that was taken has arrived
  pub taken_arrived : (n : ℕ) → IndexTurn (λ before entry. TakeSpec arrived before (Ok (Some n)) entry) x y → n < length (arrivals w.history)
  taken_arrived n take =
      let low = take.ran.said.0.low in
      let so_many = count.ran.said.0 in
      let le = prefix_length (arrivals count.ran.before) (arrivals w.history) (arrivals_prefix count.ran.before w.history (stamped (count.ran.ticket + 1) count.ran.entry, sym count.ran.added)) in
      omega (arith, low, so_many, le)

  pub took_and : (n : ℕ) (done : Sight → Sight → Type 0) (end : Sight) → IndexTurn (λ before entry. TakeSpec arrived before (Ok (Some n)) entry) x y
      → done (sight_at w y) end → TakesAnd n done (sight_at v x) end
  took_and n done end take rest = record { arrivals = arrived; middle = sight_at w y; takes = took (Ok (Some n)) take; rest = rest }

  pub took_none : (error : NoMemory) → IndexTurn (λ before entry. TakeSpec arrived before (Err error) entry) x y → Refuses unread.NoMemory (sight_at v x) (sight_at w y)
  took_none error take = Refuses.NoTake arrived error refl (took (Err error) take)

  -- what was taken and not indexed is given back
  pub gave_back : (n : ℕ) (fault : GetFault) (u : StoreSight) (z z' : IndexSight) → IndexTurn (λ before entry. TakeSpec arrived before (Ok (Some n)) entry) x y
      → Fails fault (sight_at w y) (sight_at u z) → IndexTurn (λ before entry. ReturnSpec n before entry) z z' → Refuses fault (sight_at v x) (sight_at u z')
  gave_back n fault u z z' take fails back = Refuses.Back n (took_and n (GivesBack n fault) (sight_at u z') take
      (record { middle = sight_at u z; fails = fails; back = record { turn = back; store = refl; spent = refl } }))
