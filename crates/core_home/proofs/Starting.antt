-- What a pass begins with.
use Rattle.std.proofs.Common.{◌≡◌, ℕ, zero, suc, true, false, List, [], ◌∷◌, map, length, replicate, refl, ap, sym, subst, ◌∙◌}
use Rattle.claim_verify.specs.Verifier.{Accepts}
use Rattle.histories.specs.declared.stamped.Stamped.{Stamped}
use Rattle.histories.specs.declared.events.StoreEvent.{StoreEvent}
use Rattle.histories.specs.declared.events.StoreEvent.TheVariants as store
use Rattle.histories.specs.declared.events.IndexEvent.{IndexEvent}
use Rattle.histories.specs.History.{stamp, rises}
use Rattle.histories.specs.Stores.{Blob}
use Rattle.histories.proofs.Rising.{rises_start, within_start}
use Rattle.home_core.specs.State.{CoreState, IsSound}
use Rattle.core_home.specs.declared.turns.Turns.{Turns}
use Rattle.core_home.specs.Keeping.{IsKept, is_within, from_the_start, store_from, store_of, insert_of, index_of}
use Rattle.core_home.specs.Starts.{puts_from, first_sight}
use Rattle.core_home.specs.Sights.{alone}
use Rattle.core_home.proofs.Turning.{within_from}
use Rattle.core_home.proofs.Counting.{indexed_once}
use Rattle.core_home.proofs.Blobs.{store_legal}
use Rattle.core_home.proofs.Numbers.{index_legal}

store_starts : (n : ℕ) (bs : List Blob) → store_from n (replicate (length bs) 0) bs ≡ map (stamp 0) (puts_from n bs)
store_starts n [] = refl
store_starts n (b ∷ bs) = ap (λ (z : List (Stamped StoreEvent)). stamp 0 (store.Put n b.0 b.1) ∷ z) (store_starts (suc n) bs)

index_starts : (bs : List Blob) (ns : List ℕ) → index_of bs (replicate (length ns) from_the_start) ns ≡ map (stamp 0) (map (insert_of bs) ns)
index_starts bs [] = refl
index_starts bs (n ∷ ns) = ap (λ (z : List (Stamped IndexEvent)). stamp 0 (insert_of bs n) ∷ z) (index_starts bs ns)

length_replicate : {A : Type 0} (n : ℕ) (x : A) → length (replicate n x) ≡ n
length_replicate zero x = refl
length_replicate (suc n) x = ap suc (length_replicate n x)

module _ (s : CoreState) (ts : List ℕ) (us : List Turns) (puts : ts ≡ replicate (length s.store) 0) (rows : us ≡ replicate (length s.indexed) from_the_start) where
  blobs : store_of ts s.store ≡ map (stamp 0) (puts_from 0 s.store)
  blobs = ap (λ (z : List ℕ). store_of z s.store) puts ∙ store_starts 0 s.store

  numbers : index_of s.store us s.indexed ≡ map (stamp 0) (map (insert_of s.store) s.indexed)
  numbers = ap (λ (z : List Turns). index_of s.store z s.indexed) rows ∙ index_starts s.store s.indexed

  pub starts_kept : s.hand ≡ [] → IsSound s → IsKept ts us s 0 0
  starts_kept none sound = record {
    each_put = ap length puts ∙ length_replicate (length s.store) 0;
    each_insert = ap length rows ∙ length_replicate (length s.indexed) from_the_start;
    none_in_hand = none;
    store_legal = store_legal ts s.store sound.arrivals;
    store_rises = subst (λ (h : List (Stamped StoreEvent)). rises 0 h ≡ true) (sym blobs) (rises_start (puts_from 0 s.store));
    store_within = subst (λ (h : List (Stamped StoreEvent)). is_within 0 h ≡ true) (sym blobs)
        (within_from 0 (map (stamp 0) (puts_from 0 s.store)) (within_start (puts_from 0 s.store)));
    index_legal = index_legal s.store us s.indexed (indexed_once s sound);
    index_rises = subst (λ (h : List (Stamped IndexEvent)). rises 0 h ≡ true) (sym numbers) (rises_start (map (insert_of s.store) s.indexed));
    index_within = subst (λ (h : List (Stamped IndexEvent)). is_within 0 h ≡ true) (sym numbers)
        (within_from 0 (map (stamp 0) (map (insert_of s.store) s.indexed)) (within_start (map (insert_of s.store) s.indexed)));
  }

  pub starts_seen : (a : Accepts) → alone a (store_of ts s.store) 0 (index_of s.store us s.indexed) 0 false ≡ first_sight a s
  starts_seen a = λ i. alone a (blobs i) 0 (numbers i) 0 false
