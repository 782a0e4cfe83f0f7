-- What a pass tells: what it has seen, and the answer to a query.
use Rattle.std.proofs.Common.{◌≡◌, ℕ, inl, List, length, refl, ap, sym, subst, ◌∙◌, Bool, Result, IfOk}
use Rattle.std.specs.FinMap.{from_entries}
use Rattle.blobref.specs.declared.memory.NoMemory.{NoMemory}
use Rattle.claim_verify.specs.Verifier.{Accepts}
use Rattle.search_query.specs.declared.query.Query.{Query}
use Rattle.search_eval.specs.Answer.{answer}
use Rattle.claim_model.specs.Facts.{Facts}
use Rattle.histories.specs.declared.stamped.Stamped.{Stamped}
use Rattle.histories.specs.declared.events.IndexEvent.{IndexEvent}
use Rattle.histories.specs.Indexes.{inserts, indexed}
use Rattle.histories.proofs.Prefixes.{prefix_self}
use Rattle.home_core.specs.State.{CoreState, IsSound}
use Rattle.home_core.specs.Steps.{indexed_facts}
use Rattle.home_places.specs.Passes.{Searches, Counts}
use Rattle.core_home.specs.declared.turns.Turns.{Turns}
use Rattle.core_home.specs.Keeping.{IsKept, store_of, index_of}
use Rattle.core_home.specs.Sights.{alone}
use Rattle.core_home.proofs.Counting.{indexed_below}
use Rattle.core_home.proofs.Blobs.{arrivals_of}
use Rattle.core_home.proofs.Numbers.{facts_are, inserts_length}

module _ (s : CoreState) (ts : List ℕ) (us : List Turns) (stores indexes : ℕ) (kept : IsKept ts us s stores indexes) (a : Accepts) (spent : Bool) where
  abbrev pub rows : List (Stamped IndexEvent)
  rows = index_of s.store us s.indexed

  -- the facts shown are those indexed
  shown_facts : IsSound s → indexed (inserts rows) ≡ indexed_facts s
  shown_facts sound = ap from_entries (facts_are s.store us s.indexed kept.each_insert
      (indexed_below s sound))

  pub searches : (query : Query) (result : Result (List (List ℕ)) NoMemory) → IsSound s → IfOk result (λ refs. refs ≡ answer (indexed_facts s) a query)
      → Searches query result (alone a (store_of ts s.store) stores rows indexes spent) (alone a (store_of ts s.store) stores rows indexes spent)
  searches query result sound says = record {
    search = record {
      history = refl;
      turns = refl;
      shown = prefix_self (inserts rows);
      answer = subst (λ (facts : Facts). IfOk result (λ refs. refs ≡ answer facts a query)) (sym (shown_facts sound)) says;
      accepts = refl;
    };
    store = refl;
    stays = inl refl;
  }

  pub counts : (puts numbers : ℕ) → puts ≡ length s.store → numbers ≡ length s.indexed
      → Counts (alone a (store_of ts s.store) stores rows indexes spent) (puts, numbers)
  counts puts numbers blobs ids = record {
    puts = blobs ∙ sym (ap length (arrivals_of ts s.store kept.each_put));
    inserts = ids ∙ sym (inserts_length s.store us s.indexed kept.each_insert);
  }
