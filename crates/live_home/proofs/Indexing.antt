-- The blob of one number is read and its fact inserted.
use Rattle.std.proofs.Common.{◌≡◌, ℕ, ◌+◌, ◌<◌, Bool, true, false, List, [], ◌∷◌, length, slice_get, refl, ap, sym, subst, arith, Option, Some, None, Result, Ok, Err}
use Rattle.std.specs.Option.{option_map}
use Rattle.blobref.specs.Blobref.{IsOwnRef}
use Rattle.blobref.specs.declared.memory.NoMemory.{NoMemory}
use Rattle.edge_base.specs.declared.answers.GetFault.{GetFault}
use Rattle.edge_base.specs.declared.answers.GetFault.TheVariants as unread
use Rattle.edge_base.specs.declared.answers.Inserted.{Inserted}
use Rattle.schema_fact.specs.declared.kinds.Fact.{Fact}
use Rattle.schema_json.specs.Facts.{fact_of}
use Rattle.histories.specs.declared.events.IndexEvent.TheVariants.{Insert}
use Rattle.histories.specs.History.{events, stamped}
use Rattle.histories.specs.Stores.{Blob, arrivals}
use Rattle.histories.specs.StoreCalls.{ArrivalSpec, IsRead}
use Rattle.histories.specs.IndexCalls.{InsertSpec}
use Rattle.histories.proofs.Prefixes.{prefix_get, prefix_length, prefix_self}
use Rattle.histories.proofs.Growing.{grew_none, ran_grew}
use Rattle.histories.proofs.Standing.{arrivals_prefix}
use Rattle.home_places.specs.Seats.{StoreSight, IndexSight, IsStoreSight, StoreTurn, IndexTurn, StoreGrew, IndexGrew}
use Rattle.home_places.specs.Passes.{IsTrouble, Caused, Agrees}
use Rattle.home_places.specs.Working.{Indexes, Fails}
use Rattle.live_home.specs.Sights.{sight_at}
use Rattle.live_home.proofs.Owning.{arrival_own}
use Rattle.live_home.proofs.Entries.{arrival_trouble, fails_caused}

read_own : (tells : Bool) (r own bytes : List ℕ) → IsOwnRef r own → IsRead tells r own bytes → IsOwnRef r bytes
read_own true r own bytes is same = subst (IsOwnRef r) (sym same) is
read_own false r own bytes is own' = own'

module _ (tells : Bool) (n : ℕ) (v w : StoreSight) (x : IndexSight) where
  abbrev reads : Result (Option (List ℕ × List ℕ)) GetFault → Type 0
  reads result = StoreTurn (λ before entry. ArrivalSpec tells n before result entry) v w

  abbrev pub store_grew : (result : Result (Option (List ℕ × List ℕ)) GetFault) → reads result → StoreGrew IsTrouble v w
  store_grew result turn = ran_grew (λ before t entry. ArrivalSpec tells n (arrivals before) result entry) IsTrouble v.history w.history v.turns w.turns
      (λ before t e says. arrival_trouble tells n (arrivals before) result e says) turn.ran

  abbrev pub index_same : IndexGrew (λ e. ⊥) x x
  index_same = grew_none (λ e. ⊥) x.history x.turns

  -- the blob wasn't read
  pub one_unread : (fault : GetFault) → reads (Err fault) → Fails fault (sight_at v x) (sight_at w x)
  one_unread fault turn = record {
    store = store_grew (Err fault) turn;
    cause = subst (Caused fault ((turn.ran.ticket + 1) ∷ [])) (sym turn.ran.added)
        (fails_caused tells (option_map (λ (b : Blob). b.0) (slice_get (arrivals turn.ran.before) n)) fault turn.ran.before (turn.ran.ticket + 1) turn.ran.entry turn.ran.said);
    index = index_same;
    shown = prefix_self x.shown;
    limits = turn.limits;
    accepts = refl;
    spent = refl;
  }

  -- there was no memory for its fact
  pub one_unsaid : (result : Result (Option (List ℕ × List ℕ)) GetFault) → reads result → Fails unread.NoMemory (sight_at v x) (sight_at w x)
  one_unsaid result turn = record {
    store = store_grew result turn;
    cause = tt;
    index = index_same;
    shown = prefix_self x.shown;
    limits = turn.limits;
    accepts = refl;
    spent = refl;
  }

  -- a number below what was seen has arrived
  pub none_left : reads (Ok None) → n < length (arrivals v.history) → ⊥
  none_left turn lt =
      let le = prefix_length (arrivals v.history) (arrivals turn.ran.before) (arrivals_prefix v.history turn.ran.before turn.ran.longer) in
      let past = turn.ran.said.0 in
      absurd (omega arith)

  module _ (found : List ℕ × List ℕ) (fact : Fact) (turn : reads (Ok (Some found))) (y : IndexSight) where
    -- or for its row
    pub one_uninserted : (error : NoMemory) → IndexTurn (λ before entry. InsertSpec n found.0 fact before (Err error) entry) x y
        → Fails unread.NoMemory (sight_at v x) (sight_at w y)
    one_uninserted error put = record {
      store = store_grew (Ok (Some found)) turn;
      cause = tt;
      index = ran_grew (λ before t entry. InsertSpec n found.0 fact (events before) (Err error) entry) (λ e. ⊥) x.history y.history x.turns y.turns
          (λ before t e says. absurd (cc says)) put.ran;
      shown = put.shown;
      limits = turn.limits;
      accepts = put.accepts;
      spent = refl;
    }

    agrees : IsStoreSight w → fact ≡ fact_of found.1 → Agrees (arrivals w.history) (Insert n found.0 fact)
    agrees legal is =
        let told = turn.ran.said.0 in
        let later = arrivals_prefix turn.ran.before w.history (stamped (turn.ran.ticket + 1) turn.ran.entry, sym turn.ran.added) in
        let here : slice_get (arrivals w.history) n ≡ Some (found.0, told.0) = prefix_get (arrivals turn.ran.before) (arrivals w.history) n (found.0, told.0) later told.1 in
        (found.1, ap (option_map (λ (b : Blob). b.0)) here, read_own tells found.0 told.0 found.1 (arrival_own w.limits w.history n found.0 told.0 legal.legal here) told.2, is)

    pub one_indexed : (answer : Inserted) → IsStoreSight w → fact ≡ fact_of found.1 → IndexTurn (λ before entry. InsertSpec n found.0 fact before (Ok answer) entry) x y
        → Indexes tells n answer (sight_at v x) (sight_at w y)
    one_indexed answer legal is put = record {
      middle = sight_at w x;
      found = found;
      fact = fact;
      arrival = record { turn = turn; index = refl; spent = refl };
      agrees = agrees legal is;
      insert = record { turn = put; store = refl; spent = refl };
    }
