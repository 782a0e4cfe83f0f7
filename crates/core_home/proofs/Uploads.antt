-- An upload.
use Rattle.std.proofs.Common.{◌≡◌, ℕ, ◌+◌, Bool, true, cond, List, [], ◌∷◌, ◌++◌, length, length-append, refl, ap, sym, subst, ◌∙◌, arith, Option, Some, None, Result, Ok, Err, is_none}
use Rattle.std.proofs.lemmas.List.{append-nil}
use Rattle.edge_base.specs.declared.answers.Put.{Put}
use Rattle.edge_base.specs.declared.answers.Put.TheVariants.{Stored, Already}
use Rattle.edge_base.specs.declared.answers.PutFault.{PutFault}
use Rattle.claim_verify.specs.Verifier.{Accepts}
use Rattle.histories.specs.declared.stamped.Stamped.{Stamped}
use Rattle.histories.specs.declared.events.StoreEvent.{StoreEvent}
use Rattle.histories.specs.declared.events.StoreEvent.TheVariants as store
use Rattle.histories.specs.declared.events.IndexEvent.{IndexEvent}
use Rattle.histories.specs.History.{stamped, rises}
use Rattle.histories.specs.Stores.{Blob, arrivals}
use Rattle.histories.specs.StoreCalls.{put_settled, PutAnswers, PutSpec}
use Rattle.histories.specs.Indexes.{is_legal_index}
use Rattle.home_core.specs.State.{CoreState, IsSound}
use Rattle.home_core.specs.Steps.{put_blob}
use Rattle.home_places.specs.Passes.{StoreTurned}
use Rattle.home_core.proofs.Putting.{put_blob_longer}
use Rattle.core_home.specs.declared.turns.Turns.{Turns}
use Rattle.core_home.specs.Keeping.{IsKept, no_limits, is_within, store_of, index_of}
use Rattle.core_home.specs.Answers.{put_entry, after_put, after_upload}
use Rattle.core_home.specs.Sights.{alone}
use Rattle.core_home.proofs.Turning.{turn_within, turn_rises, store_turn}
use Rattle.core_home.proofs.Counting.{AreBelow, indexed_below}
use Rattle.core_home.proofs.Blobs.{arrivals_of, store_push, store_legal}
use Rattle.core_home.proofs.Numbers.{index_same}

module _ (said bytes : List ℕ) where
  was_fresh : (blobs : List Blob) (n : ℕ) (o : Option (Result Put PutFault)) → put_settled said bytes blobs ≡ o
      → PutAnswers no_limits said bytes blobs o (Ok (Stored n)) (Some (store.Put n said bytes)) → (put_settled said bytes blobs ≡ None) × (n ≡ length blobs)
  was_fresh blobs n (Some a) is says = let never : Some (store.Put n said bytes) ≡ None = says.1 in absurd (cc never)
  was_fresh blobs n None is says = (is, says.1)

  module _ (t : ℕ) (ts : List ℕ) (us : List Turns) (s : CoreState) where
    put_stands : (n : ℕ) → PutSpec no_limits said bytes s.store (Ok (Stored n)) (Some (store.Put n said bytes)) → put_blob (said, bytes) s.store ≡ s.store ++ (said, bytes) ∷ []
    put_stands n says = ap (λ (o : Option (Result Put PutFault)). cond (is_none o) (s.store ++ (said, bytes) ∷ []) s.store)
        (was_fresh s.store n (put_settled said bytes s.store) refl says).0

    pub upload_adds : (r : Result Put PutFault) → length ts ≡ length s.store → PutSpec no_limits said bytes s.store r (put_entry said bytes r)
        → store_of (after_put t r ts) (after_upload said bytes r s).store ≡ store_of ts s.store ++ stamped t (put_entry said bytes r)
    upload_adds (Ok (Stored n)) e says = ap (store_of (ts ++ t ∷ [])) (put_stands n says)
        ∙ store_push ts s.store t (said, bytes) n e (was_fresh s.store n (put_settled said bytes s.store) refl says).1
    upload_adds (Ok (Already n)) e says = sym (append-nil (store_of ts s.store))
    upload_adds (Err f) e says = sym (append-nil (store_of ts s.store))

    upload_lengths : (r : Result Put PutFault) → length ts ≡ length s.store → PutSpec no_limits said bytes s.store r (put_entry said bytes r)
        → length (after_put t r ts) ≡ length (after_upload said bytes r s).store
    upload_lengths (Ok (Stored n)) e says =
        let one = length-append ts (t ∷ []) in
        let other = length-append s.store ((said, bytes) ∷ []) in
        let whole = ap length (put_stands n says) in
        omega (arith, e, one, other, whole)
    upload_lengths (Ok (Already n)) e says = e
    upload_lengths (Err f) e says = e

    pub upload_index : (r : Result Put PutFault) → AreBelow (length s.store) s.indexed
        → index_of (after_upload said bytes r s).store us (after_upload said bytes r s).indexed ≡ index_of s.store us s.indexed
    upload_index (Ok (Stored n)) below = index_same s.store (put_blob (said, bytes) s.store) us s.indexed (put_blob_longer (said, bytes) s.store) below
    upload_index (Ok (Already n)) below = refl
    upload_index (Err f) below = refl

    same_hand : (r : Result Put PutFault) → (after_upload said bytes r s).hand ≡ s.hand
    same_hand (Ok (Stored n)) = refl
    same_hand (Ok (Already n)) = refl
    same_hand (Err f) = refl

    same_numbers : (r : Result Put PutFault) → (after_upload said bytes r s).indexed ≡ s.indexed
    same_numbers (Ok (Stored n)) = refl
    same_numbers (Ok (Already n)) = refl
    same_numbers (Err f) = refl

    module _ (stores indexes : ℕ) (r : Result Put PutFault) (kept : IsKept ts us s stores indexes) (sound : IsSound s)
        (says : PutSpec no_limits said bytes s.store r (put_entry said bytes r)) (ts' : List ℕ) (s' : CoreState)
        (put : ts' ≡ after_put t r ts) (step : s' ≡ after_upload said bytes r s) (next : t ≡ stores + 1) where
      adds : store_of ts' s'.store ≡ store_of ts s.store ++ stamped (stores + 1) (put_entry said bytes r)
      adds = (λ i. store_of (put i) (step i).store) ∙ (upload_adds r kept.each_put says
          ∙ ap (λ (n : ℕ). store_of ts s.store ++ stamped n (put_entry said bytes r)) next)

      index : index_of s'.store us s'.indexed ≡ index_of s.store us s.indexed
      index = (λ i. index_of (step i).store us (step i).indexed) ∙ upload_index r (indexed_below s sound)

      -- the pass stays as each is
      pub upload_kept : IsSound s' → IsKept ts' us s' t indexes
      upload_kept sound' = record {
        each_put = ap length put ∙ (upload_lengths r kept.each_put says ∙ ap (λ (x : CoreState). length x.store) (sym step));
        each_insert = kept.each_insert ∙ ap length (sym (ap (λ (x : CoreState). x.indexed) step ∙ same_numbers r));
        none_in_hand = ap (λ (x : CoreState). x.hand) step ∙ (same_hand r ∙ kept.none_in_hand);
        store_legal = store_legal ts' s'.store sound'.arrivals;
        store_rises = subst (λ (h : List (Stamped StoreEvent)). rises 0 h ≡ true) (sym adds) (turn_rises stores (store_of ts s.store) (put_entry said bytes r) kept.store_within kept.store_rises);
        store_within = subst (λ (n : ℕ). is_within n (store_of ts' s'.store) ≡ true) (sym next)
            (subst (λ (h : List (Stamped StoreEvent)). is_within (stores + 1) h ≡ true) (sym adds) (turn_within stores (store_of ts s.store) (put_entry said bytes r) kept.store_within));
        index_legal = subst (λ (g : List (Stamped IndexEvent)). is_legal_index g ≡ true) (sym index) kept.index_legal;
        index_rises = subst (λ (g : List (Stamped IndexEvent)). rises 0 g ≡ true) (sym index) kept.index_rises;
        index_within = subst (λ (g : List (Stamped IndexEvent)). is_within indexes g ≡ true) (sym index) kept.index_within;
      }

      -- and it was one turn of the store
      pub upload_turn : (a a' : Accepts) (spent spent' : Bool) → a' ≡ a → spent' ≡ spent
          → StoreTurned (λ before entry. PutSpec no_limits said bytes before r entry)
          (alone a (store_of ts s.store) stores (index_of s.store us s.indexed) indexes spent)
          (alone a' (store_of ts' s'.store) t (index_of s'.store us s'.indexed) indexes spent')
      upload_turn a a' spent spent' keys stays =
          subst (λ (x : Accepts). StoreTurned (λ before entry. PutSpec no_limits said bytes before r entry)
          (alone a (store_of ts s.store) stores (index_of s.store us s.indexed) indexes spent)
          (alone x (store_of ts' s'.store) t (index_of s'.store us s'.indexed) indexes spent')) (sym keys)
          (store_turn a (λ before entry. PutSpec no_limits said bytes before r entry) (store_of ts s.store) (store_of ts' s'.store) stores t (put_entry said bytes r)
          (index_of s.store us s.indexed) (index_of s'.store us s'.indexed) indexes spent spent' kept.store_within kept.store_rises adds next index stays
          (subst (λ (b : List Blob). PutSpec no_limits said bytes b r (put_entry said bytes r)) (sym (arrivals_of ts s.store kept.each_put)) says))
