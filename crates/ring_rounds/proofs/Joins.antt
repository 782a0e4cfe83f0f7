-- Rounds over a hub and peers that all tell what they hold.
use Rattle.std.proofs.Common.{◌≡◌, ◌⊎◌, inl, inr, ℕ, zero, suc, ◌+◌, ◌-◌, ◌<◌, List, [], ◌∷◌, ◌++◌, length, take, fold, map, get_or, get_or-drop, Option, Some, None, refl, sym, ap, subst, ◌∙◌, arith, append_assoc}
use Rattle.std.proofs.lemmas.List.{take-map}
use Rattle.std.proofs.lemmas.Option.{slice_get_within, get_or_from_slice_get}
use Rattle.std.specs.Option.{option_or}
use Rattle.std.specs.FinMap.{get}
use Rattle.edge_base.specs.Shelf.{Blob, Blobs, with_blobs}
use Rattle.edge_base.specs.ShelfLaws.{with_blobs-append}
use Rattle.peer_base.specs.declared.peer.Peer.{Ghosts}
use Rattle.sync_core.specs.Copying.{lacking, copied}
use Rattle.sync_core.specs.declared.syncing.SyncFault.{SyncFault}
use Rattle.replica_ring.specs.Rings.{at, join, join_of}
use Rattle.replica_ring.proofs.Joining.{rounds_join}
use Rattle.replica_ring.proofs.Maps.{get_join, given_keeps}
use Rattle.ring_rounds.specs.declared.rounds.RingFault.{RingFault}
use Rattle.ring_rounds.specs.declared.rounds.RingFault.TheVariants.{Gather, Scatter}
use Rattle.ring_rounds.specs.Joins.{AreJoined, TellsBetween, AreBetween, JoinsAll, StaysBetween}
use Rattle.ring_rounds.specs.Maps.{IsFront, taken_up_told, gathered, StopsAt, AreRound, AreStopped}
use Rattle.ring_rounds.specs.Rounds.{IsRound, GatherStops, RoundStops}
use Rattle.ring_rounds.proofs.Places.{mapped_at, mapped_length}

abbrev Told : Type 0
Told = List (Option Blobs)

-- what the first map has, the second has too
abbrev Has : Blobs → Blobs → Type 0
Has a b = (r bytes : List ℕ) → get a r ≡ Some bytes → get b r ≡ Some bytes

-- ---- maps

first_kept : (a b : Option (List ℕ)) (bytes : List ℕ) → ((x : List ℕ) → a ≡ Some x → b ≡ Some x) → b ≡ Some bytes → option_or a b ≡ Some bytes
first_kept None b bytes w e = e
first_kept (Some x) b bytes w e = sym (w x refl) ∙ e

join_has : (a b : Blobs) → Has a (join a b)
join_has a b r bytes e = given_keeps a (lacking b a) r bytes e

-- one that has all of another is in the join with it
later_has : (a b : Blobs) → Has a b → Has b (join a b)
later_has a b w r bytes e = get_join a b r ∙ first_kept (get a r) (get b r) bytes (λ x k. w r x k) e

part_has : (from to : Blobs) (gone next rest : List Blob) → lacking from to ≡ (gone ++ next) ++ rest → Has (with_blobs to gone) (join to from)
part_has from to gone next rest is r bytes e =
    ap (λ l. get (with_blobs to l) r) (is ∙ append_assoc gone next rest) ∙ ap (λ m. get m r) (with_blobs-append to gone (next ++ rest))
    ∙ given_keeps (with_blobs to gone) (next ++ rest) r bytes e

fold_has : (ms : List Blobs) (h : Blobs) → Has h (fold join h ms)
fold_has [] h r bytes e = e
fold_has (m ∷ ms) h r bytes e = fold_has ms (join h m) r bytes (join_has h m r bytes e)

-- what a hub has when it took up the map at a place, it has at the end
reaches : (ms : List Blobs) (h : Blobs) (k : ℕ) → k < length ms → Has (join (fold join h (take k ms)) (at ms k)) (fold join h ms)
reaches [] h k lt = absurd (omega (arith, lt))
reaches (m ∷ ms) h zero lt = fold_has ms (join h m)
reaches (m ∷ ms) h (suc k) lt = reaches ms (join h m) k (omega (arith, lt))

hub_has : (h : Blobs) (ms : List Blobs) → Has h (join_of (h ∷ ms))
hub_has h ms = join_has h (join_of ms)

-- ---- what is told

told_at : (ms : List Blobs) (i : ℕ) → i < length ms → get_or (map Some ms) i None ≡ Some (at ms i)
told_at [] i lt = absurd (omega (arith, lt))
told_at (m ∷ ms) zero lt = refl
told_at (m ∷ ms) (suc i) lt = told_at ms i (omega (arith, lt))

pointwise : (f : Blobs → Blobs) (ms : List Blobs) (now : Told) → length now ≡ length ms → ((i : ℕ) → i < length ms → get_or now i None ≡ Some (f (at ms i)))
    → now ≡ map (λ m. Some (f m)) ms
pointwise f [] [] e h = refl
pointwise f [] (x ∷ now) e h = absurd (omega (arith, e))
pointwise f (m ∷ ms) [] e h = absurd (omega (arith, e))
pointwise f (m ∷ ms) (x ∷ now) e h =
    let first = h 0 (omega arith) in
    let more = pointwise f ms now (omega (arith, e)) (λ i lt. h (suc i) (omega (arith, lt))) in
    (λ j. first j ∷ more j)

fold_told : (h : Blobs) (n : ℕ) (ms : List Blobs) → (count : ℕ) × (fold taken_up_told (Some (h, n)) (map Some ms) ≡ Some (fold join h ms, count))
fold_told h n [] = (n, refl)
fold_told h n (m ∷ ms) = fold_told (copied m h) (n + length (lacking m h)) ms

module _ (hub : Option Blobs) (old : Told) (h : Blobs) (ms : List Blobs) (is : hub ≡ Some h) (told : old ≡ map Some ms) where
  size : length old ≡ length ms
  size = ap length told ∙ mapped_length Some ms

  old_at : (i : ℕ) → i < length ms → get_or old i None ≡ Some (at ms i)
  old_at i lt = ap (λ l. get_or l i None) told ∙ told_at ms i lt

  gathered_all : gathered hub old ≡ Some (fold join h ms, (fold_told h 0 ms).0)
  gathered_all = (λ j. gathered (is j) (told j)) ∙ (fold_told h 0 ms).1

  gathered_front : (k : ℕ) → gathered hub (take k old) ≡ Some (fold join h (take k ms), (fold_told h 0 (take k ms)).0)
  gathered_front k = (λ j. gathered (is j) (take k (told j))) ∙ ap (gathered (Some h)) (take-map Some k ms) ∙ (fold_told h 0 (take k ms)).1

  -- what was told is as before
  stays : (i : ℕ) (now : Option Blobs) → i < length ms → now ≡ get_or old i None → TellsBetween (join_of (h ∷ ms)) (at ms i) now
  stays i now lt same = (at ms i, same ∙ old_at i lt, record { keeps = λ r bytes e. e; within = join_has (at ms i) (join_of (h ∷ ms)) })

  given : (i : ℕ) (now : Option Blobs) → now ≡ Some (join (at ms i) (join_of (h ∷ ms))) → TellsBetween (join_of (h ∷ ms)) (at ms i) now
  given i now same = (join (at ms i) (join_of (h ∷ ms)), same, record { keeps = join_has (at ms i) (join_of (h ∷ ms)); within = λ r bytes e. e })

  hub_whole : (now : Option Blobs) → now ≡ Some (fold join h ms) → TellsBetween (join_of (h ∷ ms)) h now
  hub_whole now same = (join_of (h ∷ ms), same ∙ ap Some (rounds_join.gathered h ms), record { keeps = hub_has h ms; within = later_has h (join_of (h ∷ ms)) (hub_has h ms) })

  joined : (hub_now : Option Blobs) (now : Told) (n : ℕ) → AreRound hub hub_now old now n → AreJoined (join_of (h ∷ ms)) hub_now ms now
  joined hub_now now n round =
      let done = round (fold join h ms, (fold_told h 0 ms).0) gathered_all in
      record {
        hub = done.0 ∙ ap Some (rounds_join.gathered h ms);
        peers = pointwise (λ m. join m (join_of (h ∷ ms))) ms now (done.1.0.size ∙ size)
            (λ i lt. done.1.0.given i (subst (λ n. i < n) (sym size) lt) (fold join h ms) refl (at ms i) (old_at i lt)
            ∙ ap (λ (all : Blobs). Some (join (at ms i) all)) (rounds_join.gathered h ms));
        refs = λ i lt r. rounds_join.given (h ∷ ms) (suc i) r;
      }

  between_done : (hub_now : Option Blobs) (now : Told) → AreJoined (join_of (h ∷ ms)) hub_now ms now → AreBetween (join_of (h ∷ ms)) h hub_now ms now
  between_done hub_now now j = record {
    hub = hub_whole hub_now (j.hub ∙ ap Some (sym (rounds_join.gathered h ms)));
    size = ap length j.peers ∙ mapped_length (λ m. Some (join m (join_of (h ∷ ms)))) ms;
    peers = λ i lt. given i (get_or now i None) (ap (λ l. get_or l i None) j.peers ∙ mapped_or ms i lt);
  }
    where
      mapped_or : (xs : List Blobs) (i : ℕ) → i < length xs → get_or (map (λ m. Some (join m (join_of (h ∷ ms)))) xs) i None ≡ Some (join (at xs i) (join_of (h ∷ ms)))
      mapped_or [] i lt = absurd (omega (arith, lt))
      mapped_or (x ∷ xs) zero lt = refl
      mapped_or (x ∷ xs) (suc i) lt = mapped_or xs i (omega (arith, lt))

  between_gather : (hub_now : Option Blobs) (now : Told) (k : ℕ) (gone next : List Blob) → now ≡ old → k < length ms
      → IsFront gone next (at ms k) (fold join h (take k ms)) hub_now → AreBetween (join_of (h ∷ ms)) h hub_now ms now
  between_gather hub_now now k gone next same lt front = record {
    hub = (
      with_blobs mid gone,
      front.1,
      record {
        keeps = λ r bytes e. given_keeps mid gone r bytes (fold_has (take k ms) h r bytes e);
        within = λ r bytes e. later_has h (join_of (h ∷ ms)) (hub_has h ms) r bytes
            (ap (λ m. get m r) (sym (rounds_join.gathered h ms)) ∙ reaches ms h k lt r bytes (part_has (at ms k) mid gone next front.0.0 front.0.1 r bytes e));
      },
    );
    size = ap length same ∙ size;
    peers = λ i less. stays i (get_or now i None) less (ap (λ l. get_or l i None) same);
  }
    where
      mid : Blobs
      mid = fold join h (take k ms)

  between_scatter : (hub_now : Option Blobs) (now : Told) (k : ℕ) (gone next : List Blob) → AreStopped hub hub_now k old now gone next
      → AreBetween (join_of (h ∷ ms)) h hub_now ms now
  between_scatter hub_now now k gone next stopped = record {
    hub = hub_whole hub_now done.0;
    size = done.1.size ∙ size;
    peers = λ i lt. by i lt (order i k);
  }
    where
      done : (hub_now ≡ Some (fold join h ms)) × StopsAt (Some (fold join h ms)) k old now gone next
      done = stopped (fold join h ms, (fold_told h 0 ms).0) gathered_all

      order : (i k : ℕ) → (i < k) ⊎ ((i ≡ k) ⊎ (k < i))
      order zero zero = inr (inl refl)
      order zero (suc k) = inl (omega arith)
      order (suc i) zero = inr (inr (omega arith))
      order (suc i) (suc k) = step (order i k)
        where
          step : (i < k) ⊎ ((i ≡ k) ⊎ (k < i)) → (suc i < suc k) ⊎ ((suc i ≡ suc k) ⊎ (suc k < suc i))
          step (inl less) = inl (omega (arith, less))
          step (inr (inl same)) = inr (inl (ap suc same))
          step (inr (inr more)) = inr (inr (omega (arith, more)))

      by : (i : ℕ) → i < length ms → (i < k) ⊎ ((i ≡ k) ⊎ (k < i)) → TellsBetween (join_of (h ∷ ms)) (at ms i) (get_or now i None)
      by i lt (inl less) = given i (get_or now i None)
          (done.1.given i less (fold join h ms) refl (at ms i) (old_at i lt) ∙ ap (λ (all : Blobs). Some (join (at ms i) all)) (rounds_join.gathered h ms))
      by i lt (inr (inl same)) =
          let front = done.1.front (fold join h ms) refl (at ms i) (ap (λ n. get_or old n None) (sym same) ∙ old_at i lt) in (
            with_blobs (at ms i) gone,
            ap (λ n. get_or now n None) same ∙ front.1,
            record {
              keeps = given_keeps (at ms i) gone;
              within = λ r bytes e. ap (λ (all : Blobs). get (join (at ms i) all) r) (sym (rounds_join.gathered h ms))
                  ∙ part_has (fold join h ms) (at ms i) gone next front.0.0 front.0.1 r bytes e;
            },
          )
      by i lt (inr (inr more)) = stays i (get_or now i None) lt
          (let there : suc k + (i - suc k) ≡ i = omega (arith, more) in
          ap (λ n. get_or now n None) (sym there) ∙ sym (get_or-drop (suc k) now (i - suc k) None) ∙ ap (λ l. get_or l (i - suc k) None) done.1.rest
          ∙ get_or-drop (suc k) old (i - suc k) None ∙ ap (λ n. get_or old n None) there)

-- ---- rounds

module _ {A P : Type 0} (g : Ghosts A) (p : Ghosts P) where
  pub round_joins : (hub hub_now : A) (old now : List P) (n : ℕ) → IsRound g p hub hub_now old now n → JoinsAll (g.content hub) (g.content hub_now) (map p.content old) (map p.content now)
  round_joins hub hub_now old now n round h ms is told = joined (g.content hub) (map p.content old) h ms is told (g.content hub_now) (map p.content now) n round.maps

  pub round_between : (hub hub_now : A) (old now : List P) (n : ℕ) → IsRound g p hub hub_now old now n → StaysBetween (g.content hub) (g.content hub_now) (map p.content old) (map p.content now)
  round_between hub hub_now old now n round h ms is told =
      between_done (g.content hub) (map p.content old) h ms is told (g.content hub_now) (map p.content now) (round_joins hub hub_now old now n round h ms is told)

  gather_between : (hub hub_now : A) (old now : List P) (k : ℕ) (e : SyncFault) → map p.content now ≡ map p.content old → GatherStops g p hub hub_now old now k e
      → StaysBetween (g.content hub) (g.content hub_now) (map p.content old) (map p.content now)
  gather_between hub hub_now old now k e same s h ms is told =
      let within : k < length old = slice_get_within old k s.peer s.at in
      let lt : k < length ms = subst (λ n. k < n) (sym (mapped_length p.content old) ∙ size (g.content hub) (map p.content old) h ms is told) within in
      let here : p.content s.peer ≡ Some (at ms k) =
      ap p.content (sym (get_or_from_slice_get old k s.peer s.peer s.at)) ∙ sym (mapped_at p.content old k s.peer None within) ∙ old_at (g.content hub) (map p.content old) h ms is told k lt in
      between_gather (g.content hub) (map p.content old) h ms is told (g.content hub_now) (map p.content now) k s.gone s.next same lt
      (s.maps (fold join h (take k ms), (fold_told h 0 (take k ms)).0) (gathered_front (g.content hub) (map p.content old) h ms is told k) (at ms k) here)

  pub stops_between : (hub hub_now : A) (old now : List P) (fault : RingFault) → RoundStops g p hub hub_now old now fault → StaysBetween (g.content hub) (g.content hub_now) (map p.content old) (map p.content now)
  stops_between hub hub_now old now (Gather k e) s h ms is told = gather_between hub hub_now old now k e s.0 s.2 h ms is told
  stops_between hub hub_now old now (Scatter k e) s h ms is told =
      between_scatter (g.content hub) (map p.content old) h ms is told (g.content hub_now) (map p.content now) k s.gone s.next s.maps
