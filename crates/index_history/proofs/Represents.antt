-- Which histories an index with its numbers represents after each change.
use Rattle.std.proofs.Common.{◌≡◌, ℕ, Bool, true, false, ◌||◌, nat_eq, List, [], ◌∷◌, ◌++◌, Option, Some, None, Result}
use Rattle.std.proofs.Common.{Ok, Err, refl, sym, ap, ◌∙◌}
use Rattle.std.proofs.lemmas.Bool.{false≢true}
use Rattle.std.proofs.lemmas.List.{append-nil}
use mathlib.Core.List.{map-append}
use Rattle.std.specs.FinMap.{contains_key, empty}
use Rattle.blobref.specs.declared.memory.NoMemory.{NoMemory}
use Rattle.schema_fact.specs.declared.kinds.Fact.{Fact}
use Rattle.claim_model.specs.Facts.{Facts}
use Rattle.index_rows.specs.Loose.{with_fact}
use Rattle.claim_index.specs.Numbers.{NumberSet}
use Rattle.histories.specs.declared.stamped.Stamped.{Stamped}
use Rattle.histories.specs.declared.events.IndexEvent.{IndexEvent}
use Rattle.histories.specs.declared.events.IndexEvent.TheVariants.{Insert}
use Rattle.histories.specs.declared.events.Insertion.{Insertion}
use Rattle.histories.specs.History.{events, stamped}
use Rattle.histories.specs.Indexes.{indexed, inserts, is_inserted}
use Rattle.histories.proofs.Standing.{inserts_append}
use Rattle.work_numbers.specs.Working.{with_noted}
use Rattle.work_numbers.specs.Telling.{NumbersTell, return_entry, take_entry}
use Rattle.work_numbers.proofs.Entries.{inserted_append}
use Rattle.work_numbers.proofs.Facts.{indexed_more}
use Rattle.work_numbers.proofs.Numbers.{has_none}
use Rattle.work_numbers.proofs.Tells.{kept_same, tells_noted}
use Rattle.index_history.specs.declared.work_index.WorkIndex.{WorkIndex}
use Rattle.index_history.specs.Represents.{IndexRepresents}

-- a take and a return are no Inserts
pub no_insert_take : (turn : ℕ) (r : Result (Option ℕ) NoMemory) → inserts (stamped turn (take_entry r)) ≡ []
no_insert_take turn (Ok None) = refl
no_insert_take turn (Ok (Some n)) = refl
no_insert_take turn (Err f) = refl

pub no_insert_return : (turn n : ℕ) (held : Bool) → inserts (stamped turn (return_entry held n)) ≡ []
no_insert_return turn n true = refl
no_insert_return turn n false = refl

-- what was inserted stays so
still : (h more : List (Stamped IndexEvent)) (n : ℕ) → is_inserted n (events h) ≡ true →
    is_inserted n (events (h ++ more)) ≡ true
still h more n known = ap (is_inserted n) (map-append (λ (s : Stamped IndexEvent). s.entry) h more)
    ∙ inserted_append n (events h) (events more) ∙ ap (λ (b : Bool). b || is_inserted n (events more)) known

module _ {V : Type 0} where
  pub represents_fresh : (w : WorkIndex V) → w.index.facts ≡ empty → w.index.numbers ≡ empty → NumbersTell w.work [] →
      IndexRepresents w []
  represents_fresh w facts numbers work = record {
    numbers = work;
    facts = facts;
    within = λ n there. absurd (false≢true (sym (ap (λ (s : NumberSet). contains_key s n) numbers
        ∙ has_none (Unit {0}) n) ∙ there));
  }

  module _ (old new : WorkIndex V) (h : List (Stamped IndexEvent)) (turn : ℕ) (t : IndexRepresents old h) where
    -- the index stays, and no Insert is added
    pub rests : (e : Option IndexEvent) → new.index ≡ old.index → inserts (stamped turn e) ≡ [] → NumbersTell new.work
        (h ++ stamped turn e)
        → IndexRepresents new (h ++ stamped turn e)
    rests e same none work = record {
      numbers = work;
      facts = ap (λ i. i.facts) same ∙ t.facts
          ∙ sym (ap indexed (inserts_append h (stamped turn e) ∙ ap (λ (g : List Insertion). inserts h ++ g) none
          ∙ append-nil (inserts h)));
      within = λ n there. still h (stamped turn e) n (t.within n (ap (λ i. contains_key i.numbers n) (sym same)
          ∙ there));
    }

    -- nothing changed
    pub undone : new.index ≡ old.index → new.work ≡ old.work → IndexRepresents new (h ++ stamped turn None)
    undone same work = rests None same refl (kept_same old.work new.work work h turn t.numbers)

    -- a number was inserted
    module _ (n : ℕ) (r : List ℕ) (fact : Fact) (fresh : contains_key old.work.numbers n ≡ false) where
      no_fact : contains_key old.index.numbers n ≡ false
      no_fact = by (contains_key old.index.numbers n) refl
        where
          by : (b : Bool) → contains_key old.index.numbers n ≡ b → b ≡ false
          by false e = refl
          by true e = absurd (false≢true (sym fresh ∙ t.numbers.inserted n ∙ t.within n e))

      number_or : (a b c : Bool) → (b || c) ≡ true → (c ≡ true → a ≡ true) → (a || (b || false)) ≡ true
      number_or true b c e f = refl
      number_or false true c e f = refl
      number_or false false c e f = f e

      pub inserted : (contains_key old.index.numbers n ≡ false → new.index.facts ≡ with_fact old.index.facts r fact)
          → ((m : ℕ) → contains_key new.index.numbers m ≡ true → (nat_eq n m || contains_key old.index.numbers m)
          ≡ true)
          → new.work ≡ with_noted old.work n → IndexRepresents new (h ++ stamped turn (Some (Insert n r fact)))
      inserted facts numbers work = record {
        numbers = tells_noted old.work new.work h turn n r fact t.numbers fresh work;
        facts = facts no_fact ∙ ap (λ (f : Facts). with_fact f r fact) t.facts
            ∙ sym (ap indexed (inserts_append h (stamped turn (Some (Insert n r fact)))) ∙ indexed_more (inserts h)
            (record { turn = turn; number = n; r = r; fact = fact }));
        within = λ m there. ap (is_inserted m) (map-append (λ (s : Stamped IndexEvent). s.entry) h
            (stamped turn (Some (Insert n r fact))))
            ∙ inserted_append m (events h) (Insert n r fact ∷ [])
            ∙ number_or (is_inserted m (events h)) (nat_eq n m) (contains_key old.index.numbers m) (numbers m there)
            (t.within m);
      }
