-- Blobs that a seat read ahead.
use Rattle.std.proofs.Common.{◌≡◌, ℕ, suc, ◌+◌, ⊎_elim, List, [], ◌∷◌, length, take, drop, Bool, true, false, Option, Some, None, IfSome, IfNone, Ok, refl, sym, ap, subst, ◌∙◌, arith, slice_get, slice_index_or}
use Rattle.std.specs.Option.{option_map}
use Rattle.std.proofs.lemmas.List.{get_or-take, get_or-drop, length-take, length-drop}
use mathlib.Core.List.{IsPrefix}
use Rattle.blobref.specs.Blobref.{IsOwnRef}
use Rattle.pack_store.proofs.Held.{some_same}
use Rattle.histories.specs.declared.stamped.Stamped.{Stamped}
use Rattle.histories.specs.declared.events.StoreEvent.{StoreEvent}
use Rattle.histories.specs.History.{stamped, IsLonger, Ran}
use Rattle.histories.specs.Stores.{Blob, arrivals}
use Rattle.histories.specs.StoreCalls.{ArrivalSpec, IsRead}
use Rattle.histories.proofs.Prefixes.{prefix_get, prefix_self, prefix_trans}
use Rattle.histories.proofs.Standing.{arrivals_prefix}
use Rattle.home_places.specs.Seats.{StoreSight, StoreTurn}
use Rattle.store_history.specs.Together.{AllFrom, AreOwn, IsReadAt}
use Rattle.store_history.proofs.Several.{from_all}
use Rattle.turn_store.specs.Ahead.{IsArrival}

-- ---- one blob

module _ (t : Bool) (n : ℕ) (b : Blob) where
  -- it may be answered also where more blobs have arrived
  pub arrival_stays : (xs ys : List Blob) → IsPrefix xs ys → IsArrival t xs n b → IsArrival t ys n b
  arrival_stays xs ys p known = ((named (slice_get xs n) refl known.0.0, λ is. prefix_get xs ys n b p (known.0.1 is)), known.1)
    where
      named : (o : Option Blob) → slice_get xs n ≡ o → option_map (λ (a : Blob). a.0) o ≡ Some b.0 → option_map (λ (a : Blob). a.0) (slice_get ys n) ≡ Some b.0
      named None at is = absurd (cc is)
      named (Some a) at is = ap (option_map (λ (a : Blob). a.0)) (prefix_get xs ys n a p at) ∙ is

  read_as : (told : Bool) (a : Blob) → (told ≡ true → Some a ≡ Some b) → IsOwnRef b.0 b.1 → IsRead told b.0 a.1 b.1
  read_as true a is own = ap (λ (x : Blob). x.1) (some_same b a (sym (is refl)))
  read_as false a is own = own

  pub arrival_says : (before : List Blob) → IsArrival t before n b → ArrivalSpec t n before (Ok (Some b)) None
  arrival_says before known = (go (slice_get before n) refl known.0.0, tt)
    where
      go : (o : Option Blob) → slice_get before n ≡ o → option_map (λ (a : Blob). a.0) o ≡ Some b.0 → (own : List ℕ) × (slice_get before n ≡ Some (b.0, own)) × IsRead t b.0 own b.1
      go None at is = absurd (cc is)
      go (Some a) at is =
          let same : a.0 ≡ b.0 = some_same a.0 b.0 is in
          (a.1, at ∙ (λ i. Some (same i, a.1)), read_as t a (λ told. sym at ∙ known.0.1 told) known.1)

-- ---- those that a seat holds

module _ (t : Bool) where
  pub ahead_stays : (xs ys : List Blob) (n : ℕ) (blobs : List Blob) → IsPrefix xs ys → AllFrom (IsArrival t xs) n blobs → AllFrom (IsArrival t ys) n blobs
  ahead_stays xs ys n blobs p all = from_all (IsArrival t xs) (IsArrival t ys) n blobs (λ m b. arrival_stays t m b xs ys p) all

  -- the first one is of the next number, and the others follow it
  pub first_ahead : (xs : List Blob) (n number : ℕ) (b : Blob) (blobs : List Blob) → number ≡ n → AllFrom (IsArrival t xs) n (b ∷ blobs) → IsArrival t xs number b
  first_ahead xs n number b blobs is all = subst (λ (m : ℕ). IsArrival t xs m b) (omega (arith, is)) (all 0 b (omega arith))

  pub rest_ahead : (xs : List Blob) (n number : ℕ) (b : Blob) (blobs : List Blob) → number ≡ n → AllFrom (IsArrival t xs) n (b ∷ blobs) → AllFrom (IsArrival t xs) (number + 1) blobs
  rest_ahead xs n number b blobs is all i d less =
      subst (λ (m : ℕ). IsArrival t xs m (slice_index_or blobs i d)) (omega (arith, is)) (all (suc i) d (omega (arith, less)))

  pub none_ahead : (xs : List Blob) (n : ℕ) (blobs : List Blob) → blobs ≡ [] → AllFrom (IsArrival t xs) n blobs
  none_ahead xs n blobs is i d less = absurd (let none = ap length is in omega (arith, less, none))

  -- those that were read behind the one that was asked for, and have their own refs
  pub known_ahead : (before : List Blob) (n : ℕ) (all others : List Blob) → AllFrom (IsReadAt t before) n all → others ≡ take (length others) (drop 1 all) → AreOwn others
      → AllFrom (IsArrival t before) (n + 1) others
  known_ahead before n all others read is own i d less =
      let long = ap length is ∙ length-take (length others) (drop 1 all) in
      let at : slice_index_or others i d ≡ slice_index_or all (1 + i) d = ap (λ l. slice_index_or l i d) is ∙ get_or-take (length others) (drop 1 all) i d less ∙ get_or-drop 1 all i d in
      let here = read (1 + i) d (omega (arith, less, long, length-drop 1 all)) in (
        subst (λ (b : Blob). IsReadAt t before (n + 1 + i) b) (sym at) (subst (λ (m : ℕ). IsReadAt t before m (slice_index_or all (1 + i) d)) (omega arith) here),
        own i d less,
      )

  -- the longer of two histories begins with what either seat had seen
  pub longer_ahead : (x y z : List (Stamped StoreEvent)) (n : ℕ) (blobs : List Blob) → IsLonger x y z → AllFrom (IsArrival t (arrivals x)) n blobs → AllFrom (IsArrival t (arrivals z)) n blobs
  longer_ahead x y z n blobs longer all =
      let to : IsPrefix x z → AllFrom (IsArrival t (arrivals z)) n blobs = λ p. ahead_stays (arrivals x) (arrivals z) n blobs (arrivals_prefix x z p) all in
      ⊎_elim (λ (s : (z ≡ x) × IsPrefix y x). to (subst (IsPrefix x) (sym s.0) (prefix_self x))) (λ (s : (z ≡ y) × IsPrefix x y). to (subst (IsPrefix x) (sym s.0) s.1)) longer

-- ---- turns

-- what is said of a turn, and of what its seat had seen before it, says something else
pub turn_says : (says means : List Blob → Option StoreEvent → Type 0) (v w : StoreSight) → ((before : List Blob) (entry : Option StoreEvent) → IsPrefix (arrivals v.history) before → says before entry → means before entry)
    → StoreTurn says v w → StoreTurn means v w
turn_says says means v w so turn = record {
  ran = record {
    before = turn.ran.before;
    ticket = turn.ran.ticket;
    entry = turn.ran.entry;
    longer = turn.ran.longer;
    said = so (arrivals turn.ran.before) turn.ran.entry (arrivals_prefix v.history turn.ran.before turn.ran.longer) turn.ran.said;
    added = turn.ran.added;
    drawn = turn.ran.drawn;
    within = turn.ran.within;
    others = turn.ran.others;
    owned = turn.ran.owned;
    later = turn.ran.later;
    rising = turn.ran.rising;
  };
  limits = turn.limits;
}

-- after the turn its seat has seen what stood before it
pub turn_seen : (says : List Blob → Option StoreEvent → Type 0) (v w : StoreSight) (turn : StoreTurn says v w) → IsPrefix (arrivals turn.ran.before) (arrivals w.history)
turn_seen says v w turn = arrivals_prefix turn.ran.before w.history (stamped (turn.ran.ticket + 1) turn.ran.entry, sym turn.ran.added)

-- ---- what a seat holds, as it goes on

pub ran_seen : {says : List (Stamped StoreEvent) → ℕ → Option StoreEvent → Type 0} (s s' : List (Stamped StoreEvent)) (ts ts' : List ℕ) → Ran says s ts s' ts' → IsPrefix s s'
ran_seen s s' ts ts' ran = prefix_trans s ran.before s' ran.longer (stamped (ran.ticket + 1) ran.entry, sym ran.added)

pub held_on : (t t' : Bool) (s s' : List (Stamped StoreEvent)) (n : ℕ) (blobs : List Blob) → t' ≡ t → IsPrefix s s' → AllFrom (IsArrival t (arrivals s)) n blobs → AllFrom (IsArrival t' (arrivals s')) n blobs
held_on t t' s s' n blobs same p all = subst (λ (x : Bool). AllFrom (IsArrival x (arrivals s')) n blobs) (sym same) (ahead_stays t (arrivals s) (arrivals s') n blobs (arrivals_prefix s s' p) all)

pub held_same : (t t' : Bool) (s s' : List (Stamped StoreEvent)) (n : ℕ) (blobs : List Blob) → t' ≡ t → s' ≡ s → AllFrom (IsArrival t (arrivals s)) n blobs → AllFrom (IsArrival t' (arrivals s')) n blobs
held_same t t' s s' n blobs same is all = held_on t t' s s' n blobs same (subst (IsPrefix s) (sym is) (prefix_self s)) all

pub held_as : (t t' : Bool) (xs : List Blob) (n n' : ℕ) (blobs blobs' : List Blob) → t' ≡ t → n' ≡ n → blobs' ≡ blobs → AllFrom (IsArrival t xs) n blobs → AllFrom (IsArrival t' xs) n' blobs'
held_as t t' xs n n' blobs blobs' same number is all =
    subst (λ (x : Bool). AllFrom (IsArrival x xs) n' blobs') (sym same) (subst (λ (m : ℕ). AllFrom (IsArrival t xs) m blobs') (sym number) (subst (AllFrom (IsArrival t xs) n) (sym is) all))

-- the first one was taken out, or none is left
pub taken_ahead : (t : Bool) (xs : List Blob) (last number last' : ℕ) (blobs rest : List Blob) (o : Option Blob) → last' ≡ number → IfSome o (λ b. (number ≡ last + 1) × (blobs ≡ b ∷ rest)) → IfNone o (rest ≡ [])
    → AllFrom (IsArrival t xs) (last + 1) blobs → AllFrom (IsArrival t xs) (last' + 1) rest
taken_ahead t xs last number last' blobs rest None now taken none all = none_ahead t xs (last' + 1) rest none
taken_ahead t xs last number last' blobs rest (Some b) now taken none all =
    held_as t t xs (number + 1) (last' + 1) rest rest refl (ap (λ (m : ℕ). m + 1) now) refl (rest_ahead t xs (last + 1) number b rest taken.0 (subst (AllFrom (IsArrival t xs) (last + 1)) taken.1 all))
