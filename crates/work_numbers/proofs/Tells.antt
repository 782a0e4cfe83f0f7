-- Which histories the numbers stand for after each change.
use Rattle.std.proofs.Common.{◌≡◌, ℕ, ◌+◌, length, Bool, true, false, not, ◌&&◌, ◌||◌, cond, nat_eq, List, [], ◌∷◌, ◌++◌, Option, Some, None, Result, Ok, Err, refl, sym, ap, subst, ◌∙◌}
use Rattle.std.proofs.lemmas.List.{append-nil, length-append}
use Rattle.std.specs.FinMap.{contains_key, empty, insert, remove}
use Rattle.blobref.specs.declared.memory.NoMemory.{NoMemory}
use Rattle.schema_fact.specs.declared.kinds.Fact.{Fact}
use Rattle.histories.specs.declared.stamped.Stamped.{Stamped}
use Rattle.histories.specs.declared.events.IndexEvent.{IndexEvent}
use Rattle.histories.specs.declared.events.IndexEvent.TheVariants.{Take, Insert, Return}
use Rattle.histories.specs.History.{events, stamped, is_legal_after}
use Rattle.histories.specs.IndexCalls.{TakeSpec, LackingSpec}
use Rattle.histories.specs.declared.events.Insertion.{Insertion}
use Rattle.histories.specs.Indexes.{inserts, in_hand, in_hand_after, is_inserted, may_join_index, waits_in}
use Rattle.histories.proofs.Legality.{legal_more}
use Rattle.histories.proofs.Rising.{events_more}
use Rattle.histories.proofs.Standing.{inserts_append}
use Rattle.work_numbers.specs.Working.{Working, InsertedNumbers, TakenNumbers, has_inserted, has_in_hand, is_held, is_waiting, with_taken, with_noted, FindsBelow, Takes}
use Rattle.work_numbers.specs.Telling.{NumbersTell, return_entry, take_entry}
use Rattle.work_numbers.proofs.Numbers.{has_given, has_none, held_given, held_none, held_taken}
use Rattle.work_numbers.proofs.Entries.{inserted_append, hand_append, or_turned}

pub tells_fresh : (w : Working) → w.numbers ≡ empty → w.count ≡ 0 → w.taken ≡ empty → NumbersTell w []
tells_fresh w numbers count taken = record {
  legal = refl;
  inserted = λ n. ap (λ (s : InsertedNumbers). contains_key s n) numbers ∙ has_none (Unit {0}) n;
  count = count;
  hand = λ n. ap (λ (t : TakenNumbers). is_held t n) taken ∙ held_none n;
}

-- nothing is added
pub tells_same : (w : Working) (h : List (Stamped IndexEvent)) (turn : ℕ) → NumbersTell w h → NumbersTell w (h ++ stamped turn None)
tells_same w h turn t = subst (NumbersTell w) (sym (append-nil h)) t

pub kept_same : (old new : Working) → new ≡ old → (h : List (Stamped IndexEvent)) (turn : ℕ) → NumbersTell old h → NumbersTell new (h ++ stamped turn None)
kept_same old new is h turn t = subst (λ (w : Working). NumbersTell w (h ++ stamped turn None)) (sym is) (tells_same old h turn t)

-- a number waits in the history where it does in the index
pub waits_alike : (w : Working) (h : List (Stamped IndexEvent)) → NumbersTell w h → (n : ℕ) → waits_in (events h) n ≡ is_waiting w n
waits_alike w h t n = by (has_inserted w n) (is_inserted n (events h)) (has_in_hand w n) (in_hand n (events h)) (t.inserted n) (t.hand n)
  where
    by : (a b c d : Bool) → a ≡ b → c ≡ d → cond b false (not d) ≡ (not a && not c)
    by true true c d e f = refl
    by true false c d e f = absurd (cc e)
    by false true c d e f = absurd (cc e)
    by false false c d e f = ap not (sym f)

module _ (old new : Working) (h : List (Stamped IndexEvent)) (turn : ℕ) (t : NumbersTell old h) where
  -- an entry that may join the history, and what it makes of the facts and numbers
  joins : (e : IndexEvent) → may_join_index (events h) e ≡ true
      → ((n : ℕ) → has_inserted new n ≡ (is_inserted n (events h) || is_inserted n (e ∷ [])))
      → new.count ≡ length (inserts (h ++ stamped turn (Some e)))
      → ((n : ℕ) → has_in_hand new n ≡ in_hand_after (in_hand n (events h)) n (e ∷ []))
      → NumbersTell new (h ++ stamped turn (Some e))
  joins e may inserted count hand = record {
    legal = subst (λ (es : List IndexEvent). is_legal_after may_join_index [] es ≡ true) (sym more) (legal_more may_join_index [] (events h) e t.legal may);
    inserted = λ n. inserted n ∙ sym (inserted_append n (events h) (e ∷ [])) ∙ sym (ap (is_inserted n) more);
    count = count;
    hand = λ n. hand n ∙ sym (hand_append n false (events h) (e ∷ [])) ∙ sym (ap (in_hand n) more);
  }
    where
      more : events (h ++ stamped turn (Some e)) ≡ events h ++ e ∷ []
      more = events_more turn h (Some e)

  -- the Inserts with those of an entry more
  inserts_more : (e : IndexEvent) → inserts (h ++ stamped turn (Some e)) ≡ inserts h ++ inserts (stamped turn (Some e))
  inserts_more e = inserts_append h (stamped turn (Some e))

  -- an entry that is no Insert leaves them
  inserts_stay : (e : IndexEvent) → inserts (stamped turn (Some e)) ≡ [] → inserts h ≡ inserts (h ++ stamped turn (Some e))
  inserts_stay e none = sym (append-nil (inserts h)) ∙ sym (ap (λ (g : List Insertion). inserts h ++ g) none) ∙ sym (inserts_more e)

  count_stays : (e : IndexEvent) → inserts (stamped turn (Some e)) ≡ [] → new.count ≡ old.count → new.count ≡ length (inserts (h ++ stamped turn (Some e)))
  count_stays e none same = same ∙ t.count ∙ ap length (inserts_stay e none)

  or_none : (b : Bool) → b ≡ (b || false)
  or_none true = refl
  or_none false = refl

  -- a number was taken
  pub tells_take : (n : ℕ) → is_waiting old n ≡ true → new ≡ with_taken old n → NumbersTell new (h ++ stamped turn (Some (Take n)))
  tells_take n waits is = joins (Take n) (waits_alike old h t n ∙ waits)
      (λ m. ap (λ (w : Working). has_inserted w m) is ∙ t.inserted m ∙ or_none (is_inserted m (events h)))
      (count_stays (Take n) refl (ap (λ (w : Working). w.count) is))
      (λ m. ap (λ (w : Working). has_in_hand w m) is ∙ held_given old.taken n true m ∙ by (nat_eq n m) (has_in_hand old m) (in_hand m (events h)) (t.hand m))
    where
      by : (b c d : Bool) → c ≡ d → cond b true c ≡ (b || d)
      by true c d e = refl
      by false c d e = e

  -- a number was given back
  pub tells_return : (n : ℕ) → has_in_hand old n ≡ true → ((m : ℕ) → has_inserted new m ≡ has_inserted old m) → new.count ≡ old.count → new.taken ≡ insert old.taken n false
      → NumbersTell new (h ++ stamped turn (Some (Return n)))
  tells_return n held inserted count taken = joins (Return n) (sym (t.hand n) ∙ held)
      (λ m. inserted m ∙ t.inserted m ∙ or_none (is_inserted m (events h)))
      (count_stays (Return n) refl count)
      (λ m. ap (λ (k : TakenNumbers). is_held k m) taken ∙ held_given old.taken n false m ∙ by (nat_eq n m) (has_in_hand old m) (in_hand m (events h)) (t.hand m))
    where
      by : (b c d : Bool) → c ≡ d → cond b false c ≡ (not b && d)
      by true c d e = refl
      by false c d e = e

  -- what giving it back answers is true
  pub returned_kept : (n : ℕ) (r : Bool) → r ≡ true → has_in_hand old n ≡ true → ((m : ℕ) → has_inserted new m ≡ has_inserted old m)
      → new.count ≡ old.count → new.taken ≡ insert old.taken n false → NumbersTell new (h ++ stamped turn (return_entry r n))
  returned_kept n r is held inserted count taken =
      subst (λ (b : Bool). NumbersTell new (h ++ stamped turn (return_entry b n))) (sym is) (tells_return n held inserted count taken)

  -- a number was inserted
  pub tells_insert : (n : ℕ) (r : List ℕ) (fact : Fact) → has_inserted old n ≡ false
      → ((m : ℕ) → has_inserted new m ≡ (nat_eq n m || has_inserted old m)) → new.count ≡ old.count + 1 → new.taken ≡ remove old.taken n
      → NumbersTell new (h ++ stamped turn (Some (Insert n r fact)))
  tells_insert n r fact fresh inserted count taken = joins (Insert n r fact) (ap not (sym (t.inserted n) ∙ fresh))
      (λ m. inserted m ∙ ap (λ (b : Bool). nat_eq n m || b) (t.inserted m) ∙ or_turned (nat_eq n m) (is_inserted m (events h)) ∙ ap (λ (b : Bool). is_inserted m (events h) || b) (or_none (nat_eq n m)))
      (count ∙ ap (λ (k : ℕ). k + 1) t.count ∙ sym (ap length (inserts_more (Insert n r fact)) ∙ length-append (inserts h) (record { turn = turn; number = n; r = r; fact = fact } ∷ [])))
      (λ m. ap (λ (k : TakenNumbers). is_held k m) taken ∙ held_taken old.taken n m ∙ by (nat_eq n m) (has_in_hand old m) (in_hand m (events h)) (t.hand m))
    where
      by : (b c d : Bool) → c ≡ d → cond b false c ≡ (not b && d)
      by true c d e = refl
      by false c d e = e

pub tells_noted : (old new : Working) (h : List (Stamped IndexEvent)) (turn n : ℕ) (r : List ℕ) (fact : Fact) → NumbersTell old h
    → has_inserted old n ≡ false → new ≡ with_noted old n → NumbersTell new (h ++ stamped turn (Some (Insert n r fact)))
tells_noted old new h turn n r fact t fresh is = tells_insert old new h turn t n r fact fresh
    (λ m. ap (λ (w : Working). has_inserted w m) is ∙ has_given old.numbers n tt m)
    (ap (λ (w : Working). w.count) is) (ap (λ (w : Working). w.taken) is)

-- a take, by its answer
module _ (old new : Working) (below : ℕ) (h : List (Stamped IndexEvent)) (t : NumbersTell old h) where
  pub takes_kept : (r : Result (Option ℕ) NoMemory) → Takes old new below r → (turn : ℕ) → NumbersTell new (h ++ stamped turn (take_entry r))
  takes_kept (Ok None) takes turn = kept_same old new takes.1 h turn t
  takes_kept (Ok (Some n)) takes turn = tells_take old new h turn t n takes.0.passing takes.1
  takes_kept (Err f) takes turn = kept_same old new takes h turn t

  pub takes_says : (r : Result (Option ℕ) NoMemory) → Takes old new below r → TakeSpec below (events h) r (take_entry r)
  takes_says (Ok None) takes = (λ m lt. waits_alike old h t m ∙ takes.0 m lt, refl)
  takes_says (Ok (Some n)) takes = (
    record {
      low = takes.0.low;
      passing = waits_alike old h t n ∙ takes.0.passing;
      least = λ m lt. waits_alike old h t m ∙ takes.0.least m lt;
    },
    refl,
  )
  takes_says (Err f) takes = refl

-- the least number that isn't inserted, in the index and in the history
pub lacks : (w : Working) (below : ℕ) (o : Option ℕ) → FindsBelow below (λ n. not (has_inserted w n)) o → (h : List (Stamped IndexEvent)) → NumbersTell w h
    → LackingSpec below (events h) o None
lacks w below None none h t = (λ m lt. ap not (sym (t.inserted m)) ∙ none m lt, refl)
lacks w below (Some n) least h t = (
  record {
    low = least.low;
    passing = ap not (sym (t.inserted n)) ∙ least.passing;
    least = λ m lt. ap not (sym (t.inserted m)) ∙ least.least m lt;
  },
  refl,
)
