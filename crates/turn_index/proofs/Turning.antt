-- What one turn of an index, and a join, is to a seat to which no more is shown than the Inserts of its history.
use Rattle.std.proofs.Common.{◌≡◌, refl, ◌∙◌, ap, sym, subst, ℕ, ◌+◌, ⊎_elim, List, [], ◌∷◌, ◌++◌, Option, None, Result}
use Rattle.std.proofs.lemmas.List.{append-nil}
use mathlib.Core.List.{IsPrefix}
use Rattle.blobref.specs.declared.memory.NoMemory.{NoMemory}
use Rattle.claim_verify.specs.Verifier.{Accepts}
use Rattle.search_query.specs.declared.query.Query.{Query}
use Rattle.histories.specs.declared.stamped.Stamped.{Stamped}
use Rattle.histories.specs.declared.events.IndexEvent.{IndexEvent}
use Rattle.histories.specs.History.{events, stamped, own, AheadOf, IsLonger, Ran}
use Rattle.histories.specs.declared.events.Insertion.{Insertion}
use Rattle.histories.specs.Indexes.{inserts}
use Rattle.histories.proofs.Prefixes.{prefix_self, prefix_trans}
use Rattle.histories.proofs.Standing.{inserts_prefix}
use Rattle.home_places.specs.Seats.{IndexTurn, IndexJoin}
use Rattle.home_places.specs.Searches.{SearchSpec}
use Rattle.home_places.specs.Showing.{shown_alone}
use Rattle.turn_index.specs.IndexSeats.{IndexRan, SearchTurn}

module _ (h k : List (Stamped IndexEvent)) (s t : List ℕ) (a b : Accepts) where
  -- what was seen begins what is seen after a turn
  grown : (says : List (Stamped IndexEvent) → ℕ → Option IndexEvent → Type 0) → Ran says h s k t → IsPrefix h k
  grown says r = prefix_trans h r.before k r.longer (stamped (r.ticket + 1) r.entry, sym r.added)

  pub turned : (says : List IndexEvent → Option IndexEvent → Type 0)
      → IndexRan (λ accepts before entry. says (events before) entry) (shown_alone h s a) (shown_alone k t b)
      → IndexTurn says (shown_alone h s a) (shown_alone k t b)
  turned says r = record {
    ran = r.ran;
    known = inserts_prefix h r.ran.before r.ran.longer;
    shown = inserts_prefix h k (grown (λ before turn entry. says (events before) entry) r.ran);
    accepts = r.accepts;
  }

  -- a turn of which more is said
  said_less : (says less : List (Stamped IndexEvent) → ℕ → Option IndexEvent → Type 0)
      → ((before : List (Stamped IndexEvent)) (n : ℕ) (entry : Option IndexEvent) → says before n entry → less before n entry)
      → Ran says h s k t → Ran less h s k t
  said_less says less means r = record {
    before = r.before;
    ticket = r.ticket;
    entry = r.entry;
    longer = r.longer;
    said = means r.before (r.ticket + 1) r.entry r.said;
    added = r.added;
    drawn = r.drawn;
    within = r.within;
    others = r.others;
    owned = r.owned;
    later = r.later;
    rising = r.rising;
  }

  pub searched : (query : Query) (result : Result (List (List ℕ)) NoMemory)
      → IndexRan (λ accepts before entry. SearchSpec accepts query (inserts before) result × (entry ≡ None)) (shown_alone h s a) (shown_alone k t b)
      → SearchTurn query result (shown_alone h s a) (shown_alone k t b)
  unfolding turned said_less
  searched query result r =
      let same : inserts k ≡ inserts r.ran.before = ap inserts (r.ran.added ∙ ap (λ e. r.ran.before ++ stamped (r.ran.ticket + 1) e) r.ran.said.1 ∙ append-nil r.ran.before) in record {
        turn = turned (λ before entry. entry ≡ None) (record {
          ran = said_less (λ before n entry. SearchSpec a query (inserts before) result × (entry ≡ None)) (λ before n entry. entry ≡ None) (λ before n entry said. said.1) r.ran;
          accepts = r.accepts;
        });
        shown = same;
        answer = subst (λ (shown : List Insertion). SearchSpec b query shown result) (sym same)
            (subst (λ (accepts : Accepts). SearchSpec accepts query (inserts r.ran.before) result) (sym r.accepts) r.ran.said.0);
      }

own_none : (h : List (Stamped IndexEvent)) → own [] h ≡ []
own_none [] = refl
own_none (e ∷ es) = own_none es

-- two seats are joined
pub joined : (x y z : List (Stamped IndexEvent)) (s t u : List ℕ) (a b c : Accepts) → IsLonger x y z → u ≡ s ++ t
    → own s z ≡ own s x → own t z ≡ own t y → AheadOf s x z → AheadOf t y z → b ≡ a → c ≡ a → IndexJoin (shown_alone x s a) (shown_alone y t b) (shown_alone z u c)
joined x y z s t u a b c longer turns one other later_one later_other same left = record {
  longer = z;
  of_both = longer;
  begins = prefix_self z;
  further = [];
  turns = turns ∙ sym (append-nil (s ++ t));
  own_one = one;
  own_other = other;
  own_further = own_none z;
  later_one = later_one;
  later_other = later_other;
  shown_one = inserts_prefix x z (⊎_elim (λ (p : (z ≡ x) × IsPrefix y x). subst (λ w. IsPrefix x w) (sym p.0) (prefix_self x)) (λ (p : (z ≡ y) × IsPrefix x y). subst (λ w. IsPrefix x w) (sym p.0) p.1) longer);
  shown_other = inserts_prefix y z (⊎_elim (λ (p : (z ≡ x) × IsPrefix y x). subst (λ w. IsPrefix y w) (sym p.0) p.1) (λ (p : (z ≡ y) × IsPrefix x y). subst (λ w. IsPrefix y w) (sym p.0) (prefix_self y)) longer);
  same_keys = same;
  accepts = left;
}
