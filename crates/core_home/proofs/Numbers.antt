-- Indexed numbers as a history.
use Rattle.std.proofs.Common.{◌≡◌, ℕ, zero, suc, ◌+◌, ◌<◌, ◌≤◌, Bool, true, false, not, ◌&&◌, ◌||◌, cond, nat_eq, List, [], ◌∷◌, ◌++◌, map, length, slice_get, append_assoc, refl, ap, sym, subst, ◌∙◌, arith, Option, Some, None}
use Rattle.std.specs.Option.{unwrap_or}
use Rattle.std.specs.List.{cons_option}
use Rattle.std.proofs.lemmas.Bool.{and_from}
use Rattle.std.proofs.lemmas.Option.{slice_get-get_or, unwrap_or-slice_get}
use mathlib.Core.List.{IsPrefix}
use Rattle.claim_model.specs.Facts.{Entry}
use Rattle.schema_json.specs.Facts.{fact_of}
use Rattle.histories.specs.declared.stamped.Stamped.{Stamped}
use Rattle.histories.specs.declared.events.IndexEvent.{IndexEvent}
use Rattle.histories.specs.declared.events.IndexEvent.TheVariants.{Take, Insert, Return}
use Rattle.histories.specs.History.{events, stamp, is_legal_after}
use Rattle.histories.specs.Stores.{Blob}
use Rattle.histories.specs.declared.events.Insertion.{Insertion}
use Rattle.histories.specs.Indexes.{inserts, has_number, is_inserted, in_hand, in_hand_after, waits_in, may_join_index, is_legal_index}
use Rattle.histories.proofs.Standing.{inserted_is}
use Rattle.home_core.specs.State.{has, times}
use Rattle.home_core.specs.Steps.{blobs_at, entry_of}
use Rattle.home_core.proofs.Times.{times_append}
use Rattle.core_home.specs.declared.turns.Turns.{Turns}
use Rattle.core_home.specs.Keeping.{blob_at, insert_of, take_of, index_of}
use Rattle.core_home.proofs.Counting.{AreBelow, times_first, not_there}

-- ---- longer lists

get_front : (bs rest : List Blob) (n : ℕ) → n < length bs → slice_get (bs ++ rest) n ≡ slice_get bs n
get_front [] rest n lt = absurd (omega (arith, lt))
get_front (b ∷ bs) rest zero lt = refl
get_front (b ∷ bs) rest (suc n) lt = get_front bs rest n (omega (arith, lt))

insert_front : (bs rest : List Blob) (n : ℕ) → n < length bs → insert_of (bs ++ rest) n ≡ insert_of bs n
insert_front bs rest n lt = ap (λ (o : Option Blob). Insert n (unwrap_or o ([], [])).0 (fact_of (unwrap_or o ([], [])).1)) (get_front bs rest n lt)

front_same : (bs rest : List Blob) (ts : List Turns) (ns : List ℕ) → AreBelow (length bs) ns → index_of (bs ++ rest) ts ns ≡ index_of bs ts ns
front_same bs rest [] ns below = refl
front_same bs rest (t ∷ ts) [] below = refl
front_same bs rest (t ∷ ts) (n ∷ ns) below =
    ap (λ (e : IndexEvent). take_of t.taken n ++ stamp t.inserted e ∷ index_of (bs ++ rest) ts ns) (insert_front bs rest n below.0)
    ∙ ap (λ (z : List (Stamped IndexEvent)). take_of t.taken n ++ stamp t.inserted (insert_of bs n) ∷ z) (front_same bs rest ts ns below.1)

-- blobs that arrive leave the history of the index
pub index_same : (bs cs : List Blob) (ts : List Turns) (ns : List ℕ) → IsPrefix bs cs → AreBelow (length bs) ns → index_of cs ts ns ≡ index_of bs ts ns
index_same bs cs ts ns p below = ap (λ (z : List Blob). index_of z ts ns) (sym p.1) ∙ front_same bs p.0 ts ns below

-- numbers that are indexed come behind the others
pub index_append : (bs : List Blob) (ts us : List Turns) (ns ms : List ℕ) → length ts ≡ length ns
    → index_of bs (ts ++ us) (ns ++ ms) ≡ index_of bs ts ns ++ index_of bs us ms
index_append bs [] us [] ms e = refl
index_append bs [] us (n ∷ ns) ms e = absurd (omega (arith, e))
index_append bs (t ∷ ts) us [] ms e = absurd (omega (arith, e))
index_append bs (t ∷ ts) us (n ∷ ns) ms e =
    ap (λ (z : List (Stamped IndexEvent)). take_of t.taken n ++ stamp t.inserted (insert_of bs n) ∷ z) (index_append bs ts us ns ms (omega (arith, e)))
    ∙ sym (append_assoc (take_of t.taken n) (stamp t.inserted (insert_of bs n) ∷ index_of bs ts ns) (index_of bs us ms))

-- ---- what the Inserts are

taken_inserts : (o : Option ℕ) (n : ℕ) (h : List (Stamped IndexEvent)) → inserts (take_of o n ++ h) ≡ inserts h
taken_inserts None n h = refl
taken_inserts (Some t) n h = refl

-- the Inserts are of the indexed numbers
pub numbers_are : (bs : List Blob) (ts : List Turns) (ns : List ℕ) → length ts ≡ length ns → (m : ℕ) → has_number m (inserts (index_of bs ts ns)) ≡ has m ns
numbers_are bs [] [] e m = refl
numbers_are bs [] (n ∷ ns) e m = absurd (omega (arith, e))
numbers_are bs (t ∷ ts) [] e m = absurd (omega (arith, e))
numbers_are bs (t ∷ ts) (n ∷ ns) e m =
    ap (has_number m) (taken_inserts t.taken n (stamp t.inserted (insert_of bs n) ∷ index_of bs ts ns))
    ∙ ap (λ (b : Bool). nat_eq n m || b) (numbers_are bs ts ns (omega (arith, e)) m)

pub inserts_length : (bs : List Blob) (ts : List Turns) (ns : List ℕ) → length ts ≡ length ns → length (inserts (index_of bs ts ns)) ≡ length ns
inserts_length bs [] [] e = refl
inserts_length bs [] (n ∷ ns) e = absurd (omega (arith, e))
inserts_length bs (t ∷ ts) [] e = absurd (omega (arith, e))
inserts_length bs (t ∷ ts) (n ∷ ns) e =
    ap length (taken_inserts t.taken n (stamp t.inserted (insert_of bs n) ∷ index_of bs ts ns)) ∙ ap suc (inserts_length bs ts ns (omega (arith, e)))

abbrev entry_in : Insertion → Entry
entry_in i = (i.r, i.fact)

-- a number below the count of blobs has one
pub blob_there : (bs : List Blob) (n : ℕ) → n < length bs → slice_get bs n ≡ Some (blob_at bs n)
blob_there bs n lt = slice_get-get_or bs n ([], []) lt ∙ ap (λ (b : Blob). Some b) (sym (unwrap_or-slice_get bs n ([], [])))

-- with the refs and the facts of their blobs
pub facts_are : (bs : List Blob) (ts : List Turns) (ns : List ℕ) → length ts ≡ length ns → AreBelow (length bs) ns
    → map entry_in (inserts (index_of bs ts ns)) ≡ map entry_of (blobs_at bs ns)
facts_are bs [] [] e below = refl
facts_are bs [] (n ∷ ns) e below = absurd (omega (arith, e))
facts_are bs (t ∷ ts) [] e below = absurd (omega (arith, e))
facts_are bs (t ∷ ts) (n ∷ ns) e below =
    ap (map entry_in) (taken_inserts t.taken n (stamp t.inserted (insert_of bs n) ∷ index_of bs ts ns))
    ∙ (ap (λ (z : List Entry). entry_of (blob_at bs n) ∷ z) (facts_are bs ts ns (omega (arith, e)) below.1)
    ∙ sym (ap (λ (o : Option Blob). map entry_of (cons_option o (blobs_at bs ns))) (blob_there bs n below.0)))

-- ---- what waits

in_hand_append : (held : Bool) (m : ℕ) (xs ys : List IndexEvent) → in_hand_after held m (xs ++ ys) ≡ in_hand_after (in_hand_after held m xs) m ys
in_hand_append held m [] ys = refl
in_hand_append held m (Take n ∷ xs) ys = in_hand_append (nat_eq n m || held) m xs ys
in_hand_append held m (Insert n r fact ∷ xs) ys = in_hand_append (not (nat_eq n m) && held) m xs ys
in_hand_append held m (Return n ∷ xs) ys = in_hand_append (not (nat_eq n m) && held) m xs ys

let_go : (b : Bool) → (not b && (b || false)) ≡ false
let_go true = refl
let_go false = refl

not_held : (b : Bool) → (not b && false) ≡ false
not_held true = refl
not_held false = refl

held_by : (o : Option ℕ) (bs : List Blob) (t n m : ℕ) (h : List (Stamped IndexEvent)) → in_hand_after false m (events h) ≡ false
    → in_hand_after false m (events (take_of o n ++ stamp t (insert_of bs n) ∷ h)) ≡ false
held_by None bs t n m h rest = subst (λ (b : Bool). in_hand_after b m (events h) ≡ false) (sym (not_held (nat_eq n m))) rest
held_by (Some u) bs t n m h rest = subst (λ (b : Bool). in_hand_after b m (events h) ≡ false) (sym (let_go (nat_eq n m))) rest

-- no number is in hand
pub none_held : (bs : List Blob) (ts : List Turns) (ns : List ℕ) (m : ℕ) → in_hand m (events (index_of bs ts ns)) ≡ false
none_held bs [] ns m = refl
none_held bs (t ∷ ts) [] m = refl
none_held bs (t ∷ ts) (n ∷ ns) m = held_by t.taken bs t.inserted n m (index_of bs ts ns) (none_held bs ts ns m)

pub inserted_has : (bs : List Blob) (ts : List Turns) (ns : List ℕ) → length ts ≡ length ns → (m : ℕ) → is_inserted m (events (index_of bs ts ns)) ≡ has m ns
inserted_has bs ts ns e m = inserted_is m (index_of bs ts ns) ∙ numbers_are bs ts ns e m

waits_by : (a b : Bool) → b ≡ false → cond a false (not b) ≡ not a
waits_by true b e = refl
waits_by false b e = ap not e

-- a number waits where it isn't indexed
pub waits_are : (bs : List Blob) (ts : List Turns) (ns : List ℕ) → length ts ≡ length ns → (m : ℕ) → waits_in (events (index_of bs ts ns)) m ≡ not (has m ns)
waits_are bs ts ns e m =
    waits_by (is_inserted m (events (index_of bs ts ns))) (in_hand m (events (index_of bs ts ns))) (none_held bs ts ns m) ∙ ap not (inserted_has bs ts ns e m)

-- ---- the history is legal

abbrev NoneHeld : List IndexEvent → Type 0
NoneHeld xs = (m : ℕ) → in_hand m xs ≡ false

abbrev AreInserted : List IndexEvent → List ℕ → Type 0
AreInserted xs ns = (m : ℕ) → is_inserted m xs ≡ has m ns

or_assoc : (a b c : Bool) → (a || (b || c)) ≡ ((a || b) || c)
or_assoc true b c = refl
or_assoc false b c = refl

inserted_append : (m : ℕ) (xs ys : List IndexEvent) → is_inserted m (xs ++ ys) ≡ (is_inserted m xs || is_inserted m ys)
inserted_append m [] ys = refl
inserted_append m (Take n ∷ xs) ys = inserted_append m xs ys
inserted_append m (Insert n r fact ∷ xs) ys = ap (λ (b : Bool). nat_eq n m || b) (inserted_append m xs ys) ∙ or_assoc (nat_eq n m) (is_inserted m xs) (is_inserted m ys)
inserted_append m (Return n ∷ xs) ys = inserted_append m xs ys

has_append : (m : ℕ) (xs ys : List ℕ) → has m (xs ++ ys) ≡ (has m xs || has m ys)
has_append m [] ys = refl
has_append m (n ∷ xs) ys = ap (λ (b : Bool). nat_eq n m || b) (has_append m xs ys) ∙ or_assoc (nat_eq n m) (has m xs) (has m ys)

more_inserted : (before : List IndexEvent) (done : List ℕ) (bs : List Blob) (n : ℕ) → AreInserted before done → AreInserted (before ++ insert_of bs n ∷ []) (done ++ n ∷ [])
more_inserted before done bs n are m =
    inserted_append m before (insert_of bs n ∷ []) ∙ (ap (λ (b : Bool). b || (nat_eq n m || false)) (are m) ∙ sym (has_append m done (n ∷ [])))

or_false : (b : Bool) → (b || false) ≡ b
or_false true = refl
or_false false = refl

taken_not_inserted : (before : List IndexEvent) (done : List ℕ) (n : ℕ) → AreInserted before done → AreInserted (before ++ Take n ∷ []) done
taken_not_inserted before done n are m = inserted_append m before (Take n ∷ []) ∙ (or_false (is_inserted m before) ∙ are m)

free_inserted : (before : List IndexEvent) (bs : List Blob) (n : ℕ) → NoneHeld before → NoneHeld (before ++ insert_of bs n ∷ [])
free_inserted before bs n free m = in_hand_append false m before (insert_of bs n ∷ []) ∙ (ap (λ (b : Bool). not (nat_eq n m) && b) (free m) ∙ not_held (nat_eq n m))

free_taken : (before : List IndexEvent) (bs : List Blob) (n : ℕ) → NoneHeld before → NoneHeld ((before ++ Take n ∷ []) ++ insert_of bs n ∷ [])
free_taken before bs n free m =
    in_hand_append false m (before ++ Take n ∷ []) (insert_of bs n ∷ [])
    ∙ (ap (λ (b : Bool). not (nat_eq n m) && b) (in_hand_append false m before (Take n ∷ []) ∙ ap (λ (b : Bool). nat_eq n m || b) (free m)) ∙ let_go (nat_eq n m))

module _ (bs : List Blob) where
  -- what is to follow is legal behind any entries that insert the same numbers and hold none
  abbrev GoesOn : List ℕ → List (Stamped IndexEvent) → Type 0
  GoesOn done h = (before : List IndexEvent) → AreInserted before done → NoneHeld before → is_legal_after may_join_index before (events h) ≡ true

  legal_step : (o : Option ℕ) (t n : ℕ) (done : List ℕ) (h : List (Stamped IndexEvent)) → has n done ≡ false → GoesOn (done ++ n ∷ []) h
      → GoesOn done (take_of o n ++ stamp t (insert_of bs n) ∷ h)
  legal_step None t n done h new rest before are free =
      and_from (not (is_inserted n before)) (is_legal_after may_join_index (before ++ insert_of bs n ∷ []) (events h)) (ap not (are n ∙ new))
      (rest (before ++ insert_of bs n ∷ []) (more_inserted before done bs n are) (free_inserted before bs n free))
  legal_step (Some u) t n done h new rest before are free =
      let taken = before ++ Take n ∷ [] in
      let are' = taken_not_inserted before done n are in
      and_from (waits_in before n) (is_legal_after may_join_index taken (insert_of bs n ∷ events h))
      (waits_by (is_inserted n before) (in_hand n before) (free n) ∙ ap not (are n ∙ new))
      (and_from (not (is_inserted n taken)) (is_legal_after may_join_index (taken ++ insert_of bs n ∷ []) (events h)) (ap not (are' n ∙ new))
      (rest (taken ++ insert_of bs n ∷ []) (more_inserted taken done bs n are') (free_taken before bs n free)))

  legal_behind : (ts : List Turns) (ns done : List ℕ) → ((m : ℕ) → times m done + times m ns ≤ 1) → GoesOn done (index_of bs ts ns)
  legal_behind [] ns done once before are free = refl
  legal_behind (t ∷ ts) [] done once before are free = refl
  legal_behind (t ∷ ts) (n ∷ ns) done once before are free =
      legal_step t.taken t.inserted n done (index_of bs ts ns)
      (not_there n done (let o = once n in let f = times_first n ns in omega (arith, o, f)))
      (legal_behind ts ns (done ++ n ∷ []) (λ m. let o = once m in let a = times_append m done (n ∷ []) in let s = split m in omega (arith, o, a, s))) before are free
    where
      split : (m : ℕ) → times m (n ∷ ns) ≡ times m (n ∷ []) + times m ns
      split m = times_append m (n ∷ []) ns

  -- numbers that stand there once are a legal history
  pub index_legal : (ts : List Turns) (ns : List ℕ) → ((m : ℕ) → times m ns ≤ 1) → is_legal_index (index_of bs ts ns) ≡ true
  index_legal ts ns once = legal_behind ts ns [] (λ m. let o = once m in omega (arith, o)) [] (λ m. refl) (λ m. refl)
