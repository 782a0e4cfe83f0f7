-- What was answered stays so as the histories grow.
use Rattle.std.proofs.Common.{◌≡◌, ℕ, ◌≤◌, List, [], ◌∷◌, ◌++◌, take, Bool, Contains, refl, ap, sym, subst, ◌∙◌, arith}
use Rattle.std.proofs.Common.{append_assoc, inl, inr, true, false, ◌||◌, eqb, All}
use Rattle.std.specs.List.{flat_map}
use Rattle.std.proofs.lemmas.List.{append-nil}
use Rattle.std.proofs.lemmas.Bool.{eq-eqb}
use Rattle.std.proofs.lemmas.List.Elements.{Contains-append_left, All-nil, All-cons, All-head, All-tail}
use mathlib.Core.List.{IsPrefix}
use Rattle.claim_verify.specs.Verifier.{Accepts}
use Rattle.histories.specs.declared.stamped.Stamped.{Stamped}
use Rattle.histories.specs.declared.events.StoreEvent.{StoreEvent}
use Rattle.histories.specs.History.{has, own, AheadOf}
use Rattle.histories.specs.Stores.{Blob, arrivals}
use Rattle.histories.specs.declared.events.Insertion.{Insertion}
use Rattle.histories.proofs.Prefixes.{prefix_self, prefix_trans, prefix_length}
use Rattle.histories.proofs.Growing.{has_front, has_rest}
use Rattle.histories.proofs.Rising.{ahead_none, ahead_chain, ahead_less}
use Rattle.histories.proofs.Standing.{arrivals_prefix, take_stays}
use Rattle.home_places.specs.Passes.{Sight}
use Rattle.blob_http.specs.declared.entries.Answered.{Answered}
use Rattle.blob_http.specs.declared.entries.Outcome.{Outcome}
use Rattle.blob_http.specs.declared.entries.Outcome.TheVariants.{Defined, Memory, Disk, Full, Damaged}
use Rattle.blob_http.specs.declared.operations.Operation.{Operation}
use Rattle.blob_http.specs.declared.operations.Operation.TheVariants as operation
use Rattle.http_exchange.specs.Asked.{Asked, Whole, Front, Head}
use Rattle.blob_http.specs.Serving.{IsShown, LooksAt}
use Rattle.blob_http.specs.Serving.{IsReply, HasCauseIn, IsAnswered, Longer, Answer, AnswerHolds, Climbs, Owns}

contains_stays : {A : Type 0} (xs ys : List A) (x : A) → IsPrefix xs ys → Contains xs x → Contains ys x
contains_stays xs ys x p c = subst (λ (z : List _). Contains z x) p.1 (Contains-append_left xs p.0 x c)

cause_stays : (turns : List ℕ) (h k : List (Stamped StoreEvent)) (o : Outcome) → IsPrefix h k → HasCauseIn turns h o
    → HasCauseIn turns k o
cause_stays turns h k Defined p c = tt
cause_stays turns h k Memory p c = tt
cause_stays turns h k Disk p c = (c.0, c.1, c.2, contains_stays h k _ p c.3)
cause_stays turns h k (Full blobs pack) p c = (c.0, c.1, contains_stays h k _ p c.2)
cause_stays turns h k (Damaged want is) p c = (c.0, c.1, contains_stays h k _ p c.2)

pub has_one : (t : ℕ) → has (t ∷ []) t ≡ true
has_one t = or_left (eqb t t) (eq-eqb t t refl)
  where
    or_left : (a : Bool) → a ≡ true → (a || false) ≡ true
    or_left true e = refl
    or_left false e = e

-- what was shown begins the longer history too, and what joins it comes later
shown_stays : (h k : List (Stamped StoreEvent)) (blobs : List Blob) (turns : List ℕ) → IsPrefix h k
    → AheadOf turns h k → IsShown h blobs turns → IsShown k blobs turns
shown_stays h k blobs turns p later is = record {
  turn = is.turn;
  further = is.further;
  first = is.first;
  seen = is.seen;
  begins = prefix_trans is.seen h k is.begins p;
  before = is.before;
  joined = λ n lt. ahead_chain n is.seen h k (is.joined n lt) (ahead_less n is.turn h k (omega (arith, lt))
      (later is.turn (subst (λ (ts : List ℕ). has ts is.turn ≡ true) (sym is.first)
      (has_front (is.turn ∷ []) is.further is.turn (has_one is.turn)))));
  arrived = is.arrived;
}

looks_stay : (h k : List (Stamped StoreEvent)) (blobs : List Blob) (q : Operation) (turns : List ℕ) → IsPrefix h k
    → AheadOf turns h k → LooksAt h blobs q turns → LooksAt k blobs q turns
looks_stay h k blobs (operation.Refused why allow) turns p later is = tt
looks_stay h k blobs (operation.Blob r) turns p later is = shown_stays h k blobs turns p later is
looks_stay h k blobs (operation.Stat refs) turns p later is = shown_stays h k blobs turns p later is
looks_stay h k blobs (operation.Refs page) turns p later is = shown_stays h k blobs turns p later is
looks_stay h k blobs (operation.Search query) turns p later is = shown_stays h k blobs turns p later is

reply_stays : (tells : Bool) (accepts : Accepts) (h k : List (Stamped StoreEvent)) (blobs : List Blob)
    (g : List Insertion) (asked : Asked) (kept : ℕ) (turns : List ℕ) (added : List (Stamped StoreEvent))
    (outcome : Outcome) (text : List ℕ) → IsPrefix h k → AheadOf turns h k
    → IsReply tells accepts h blobs g asked kept turns added outcome text
    → IsReply tells accepts k blobs g asked kept turns added outcome text
reply_stays tells accepts h k blobs g (Whole r) kept turns added outcome text p later (inl upload) = inl upload
reply_stays tells accepts h k blobs g (Whole r) kept turns added outcome text p later (inr is) =
    let q = is.2 in inr (is.0, is.1, (q.0, q.1, q.2, looks_stay h k blobs q.0 turns p later q.3))
reply_stays tells accepts h k blobs g (Front b after) kept turns added outcome text p later is = is
reply_stays tells accepts h k blobs g (Head end) kept turns added outcome text p later is = is

-- the lemma that the loop rests on
pub answered_stays : (tells : Bool) (accepts : Accepts) (h k : List (Stamped StoreEvent)) (f g : List Insertion)
    (asked : Asked) (entry : Answered) (text turns : List ℕ) (added : List (Stamped StoreEvent))
    → IsPrefix h k → AheadOf turns h k → IsPrefix f g → IsAnswered tells accepts h f asked entry text turns added
    → IsAnswered tells accepts k g asked entry text turns added
answered_stays tells accepts h k f g asked entry text turns added p later q a =
    let n = entry.store_count in
    let m = entry.index_count in
    let blobs : take n (arrivals k) ≡ take n (arrivals h) =
    take_stays (arrivals h) (arrivals k) n (arrivals_prefix h k p) a.store_within in
    let rows : take m g ≡ take m f = take_stays f g m q a.index_within in
    record {
      store_within = let l = prefix_length (arrivals h) (arrivals k)
          (arrivals_prefix h k p) in let s = a.store_within in omega arith;
      index_within = let l = prefix_length f g q in let s = a.index_within in omega arith;
      replied = subst (λ (z : List Blob). IsReply tells accepts k z
          (take m g) asked entry.kept turns added entry.outcome text) (sym blobs)
          (subst (λ (z : List Insertion). IsReply tells accepts k
          (take n (arrivals h)) z asked entry.kept turns added entry.outcome text) (sym rows)
          (reply_stays tells accepts h k (take n (arrivals h)) (take m f) asked entry.kept turns added entry.outcome
          text p later a.replied));
      cause = cause_stays turns h k entry.outcome p a.cause;
      placed = a.placed;
    }

pub holds_stays : (tells : Bool) (accepts : Accepts) (h k : List (Stamped StoreEvent)) (f g : List Insertion)
    (a : Answer)
    → IsPrefix h k → AheadOf a.turns h k → IsPrefix f g → AnswerHolds tells accepts h f a
    → AnswerHolds tells accepts k g a
holds_stays tells accepts h k f g a p later q is =
    answered_stays tells accepts h k f g a.asked a.entry a.text a.turns a.added p later q is

-- what was answered stays so, where what joins comes after the turns of all answers
pub all_stay : (tells : Bool) (accepts : Accepts) (h k : List (Stamped StoreEvent)) (f g : List Insertion)
    (answers : List Answer)
    → IsPrefix h k → AheadOf (flat_map (λ (a : Answer). a.turns) answers) h k → IsPrefix f g
    → All (AnswerHolds tells accepts h f) answers → All (AnswerHolds tells accepts k g) answers
all_stay tells accepts h k f g [] p later q each = All-nil (AnswerHolds tells accepts k g)
all_stay tells accepts h k f g (a ∷ rest) p later q each =
    let others = flat_map (λ (b : Answer). b.turns) rest in
    All-cons (AnswerHolds tells accepts k g) a rest
    (holds_stays tells accepts h k f g a p (λ n e. later n (has_front a.turns others n e)) q
    (All-head (AnswerHolds tells accepts h f) a rest each))
    (all_stay tells accepts h k f g rest p (λ n e. later n (has_rest a.turns others n e)) q
    (All-tail (AnswerHolds tells accepts h f) a rest each))

pub longer_none : (v : Sight) → Longer v v
longer_none v = record {
  store = prefix_self v.store.history;
  turns = prefix_self v.store.turns;
  later = λ n e. ahead_none n v.store.history;
  index = prefix_self v.index.history;
  shown = prefix_self v.index.shown;
  limits = refl;
  accepts = refl;
}

pub longer_chain : (v w x : Sight) → Longer v w → Longer w x → Longer v x
longer_chain v w x p q = record {
  store = prefix_trans v.store.history w.store.history x.store.history p.store q.store;
  turns = prefix_trans v.store.turns w.store.turns x.store.turns p.turns q.turns;
  later = λ n e. ahead_chain n v.store.history w.store.history x.store.history (p.later n e)
      (q.later n (subst (λ (ts : List ℕ). has ts n ≡ true) p.turns.1 (has_front v.store.turns p.turns.0 n e)));
  index = prefix_trans v.index.history w.index.history x.index.history p.index q.index;
  shown = prefix_trans v.index.shown w.index.shown x.index.shown p.shown q.shown;
  limits = q.limits ∙ p.limits;
  accepts = q.accepts ∙ p.accepts;
}

-- nothing was added
pub owns_none : (v : Sight) → Owns v v []
owns_none v = sym (append-nil (own v.store.turns v.store.history))

-- what was added, and what was added then
pub owns_chain : (v w x : Sight) (xs ys : List (Stamped StoreEvent)) → Owns v w xs → Owns w x ys → Owns v x (xs ++ ys)
owns_chain v w x xs ys p q =
    q ∙ ap (λ (z : List (Stamped StoreEvent)). z ++ ys) p ∙ append_assoc (own v.store.turns v.store.history) xs ys

-- one more entry, whose counts are at or above what was seen before it
pub climbs_more : (m n : ℕ) (rest : List Answer) (p q : ℕ) (a : Answer) (r s : ℕ) → Climbs m n rest p q
    → p ≤ a.entry.store_count → q ≤ a.entry.index_count → a.entry.store_count ≤ r → a.entry.index_count ≤ s
    → Climbs m n (rest ++ a ∷ []) r s
climbs_more m n [] p q a r s c lp lq lr ls = (let x = c.0 in omega arith, let y = c.1 in omega arith, (lr, ls))
climbs_more m n (b ∷ rest) p q a r s c lp lq lr ls =
    (c.0, c.1, climbs_more b.entry.store_count b.entry.index_count rest p q a r s c.2 lp lq lr ls)

-- the same entries, where more was seen since
pub climbs_stay : (m n : ℕ) (rest : List Answer) (p q r s : ℕ) → Climbs m n rest p q → p ≤ r → q ≤ s
    → Climbs m n rest r s
climbs_stay m n [] p q r s c lr ls = (let x = c.0 in omega arith, let y = c.1 in omega arith)
climbs_stay m n (b ∷ rest) p q r s c lr ls =
    (c.0, c.1, climbs_stay b.entry.store_count b.entry.index_count rest p q r s c.2 lr ls)
