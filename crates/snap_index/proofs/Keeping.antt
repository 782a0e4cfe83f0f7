-- What a turn leaves of what the writer with its numbers stands for.
use Rattle.std.proofs.Common.{◌≡◌, ℕ, List, [], ◌++◌, Option, Some, None, Result, Ok, Err, Bool, true, false, refl, sym, ap, subst, ◌∙◌}
use Rattle.std.proofs.lemmas.List.{append-nil}
use Rattle.blobref.specs.declared.memory.NoMemory.{NoMemory}
use Rattle.histories.specs.declared.stamped.Stamped.{Stamped}
use Rattle.histories.specs.declared.events.Insertion.{Insertion}
use Rattle.histories.specs.declared.events.IndexEvent.{IndexEvent}
use Rattle.histories.specs.History.{stamped}
use Rattle.histories.specs.Indexes.{inserts}
use Rattle.histories.proofs.Standing.{inserts_append}
use Rattle.work_numbers.specs.Telling.{NumbersTell, take_entry, return_entry}
use Rattle.snap_copies.specs.declared.copies.IndexCopy.{IndexCopy}
use Rattle.snap_copies.specs.declared.copies.Addition.{Addition}
use Rattle.snap_index.specs.declared.held.Held.{Held}
use Rattle.snap_index.specs.Telling.{HeldTells}

abbrev IsNoInsert : Option IndexEvent → Type 0
IsNoInsert e = (turn : ℕ) → inserts (stamped turn e) ≡ []

pub take_none : (r : Result (Option ℕ) NoMemory) → IsNoInsert (take_entry r)
take_none (Ok None) turn = refl
take_none (Ok (Some n)) turn = refl
take_none (Err f) turn = refl

pub return_none : (r : Bool) (n : ℕ) → IsNoInsert (return_entry r n)
return_none true n turn = refl
return_none false n turn = refl

pub none_none : IsNoInsert None
none_none turn = refl

module _ {V W C : Type 0} (inner : C → Option W) (shown : W → IndexCopy V) (pends : W → List Addition) where
  pub held_kept : (old new : Held V C) (h : List (Stamped IndexEvent)) (turn : ℕ) (e : Option IndexEvent)
      → new.pusher ≡ old.pusher → new.desk ≡ old.desk → new.keys ≡ old.keys → NumbersTell new.numbers (h ++ stamped turn e) → IsNoInsert e
      → HeldTells old inner shown pends h → HeldTells new inner shown pends (h ++ stamped turn e)
  held_kept old new h turn e pusher writer keys numbers none t = record {
    numbers = numbers;
    listed = ap (λ p. p.front.seen.log) pusher ∙ t.listed ∙ sym (append-nil (inserts h)) ∙ sym (ap (λ (g : List Insertion). inserts h ++ g) (none turn)) ∙ sym (inserts_append h (stamped turn e));
    writer = t.writer;
    there = ap inner writer ∙ t.there;
    published = t.published ∙ sym (ap (λ p. p.front.seen) pusher);
    keys = t.keys ∙ sym keys;
    none_pends = t.none_pends;
  }

-- the same over an equal entry
pub entry_moved : {V W C : Type 0} {inner : C → Option W} {shown : W → IndexCopy V} {pends : W → List Addition} {held : Held V C} (h : List (Stamped IndexEvent)) (turn : ℕ) {e f : Option IndexEvent}
    → e ≡ f → HeldTells held inner shown pends (h ++ stamped turn e) → HeldTells held inner shown pends (h ++ stamped turn f)
entry_moved {V} {W} {C} {inner} {shown} {pends} {held} h turn is t = subst (λ (o : Option IndexEvent). HeldTells held inner shown pends (h ++ stamped turn o)) is t

-- nothing is added
pub held_same : {V W C : Type 0} {inner : C → Option W} {shown : W → IndexCopy V} {pends : W → List Addition} {held : Held V C} (h : List (Stamped IndexEvent)) (turn : ℕ)
    → HeldTells held inner shown pends h → HeldTells held inner shown pends (h ++ stamped turn None)
held_same {V} {W} {C} {inner} {shown} {pends} {held} h turn t = subst (HeldTells held inner shown pends) (sym (append-nil h)) t

-- equal numbers
pub numbers_moved : {V W C : Type 0} {inner : C → Option W} {shown : W → IndexCopy V} {pends : W → List Addition} {old new : Held V C} (h : List (Stamped IndexEvent)) (turn : ℕ)
    → new.numbers ≡ old.numbers → new.pusher ≡ old.pusher → new.desk ≡ old.desk → new.keys ≡ old.keys
    → HeldTells old inner shown pends h → HeldTells new inner shown pends (h ++ stamped turn None)
numbers_moved {V} {W} {C} {inner} {shown} {pends} {old} {new} h turn numbers pusher writer keys t =
    held_kept inner shown pends old new h turn None pusher writer keys (subst (λ n. NumbersTell n (h ++ stamped turn None)) (sym numbers) (subst (NumbersTell old.numbers) (sym (append-nil h)) t.numbers)) none_none t
