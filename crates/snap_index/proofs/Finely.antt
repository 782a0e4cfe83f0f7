-- An Insert more keeps a list of Inserts fine.
use Rattle.std.proofs.Common.{◌≡◌, ℕ, zero, suc, ◌+◌, ◌<◌, List, [], ◌∷◌, ◌++◌, Bool, true, false, not, ◌||◌, ◌&&◌, nat_eq, Some, refl, sym, ap, subst, ◌∙◌, arith, zero-le}
use Rattle.std.proofs.lemmas.Bool.{and_parts, and_from}
use Rattle.schema_fact.specs.declared.kinds.Fact.{Fact}
use Rattle.histories.specs.declared.stamped.Stamped.{Stamped}
use Rattle.histories.specs.declared.events.Insertion.{Insertion}
use Rattle.histories.specs.declared.events.IndexEvent.{IndexEvent}
use Rattle.histories.specs.declared.events.IndexEvent.TheVariants.{Take, Insert, Return}
use Rattle.histories.specs.History.{events, stamp, rises, Before, Within, is_legal_after}
use Rattle.histories.specs.Indexes.{insertion_of, inserts, has_number, is_inserted, may_join_index, is_legal_index}
use Rattle.histories.proofs.Legality.{legal_more}
use Rattle.histories.proofs.Rising.{events_more, rises_more}
use Rattle.home_places.specs.Seats.{as_history}
use Rattle.snap_copies.specs.Books.{is_fine, insertion}

-- the Inserts come before a turn that all entries come before
before_step : (n t : ℕ) (e : IndexEvent) (g : List Insertion) → t < n → Before n (as_history g) → Before n (as_history (insertion_of t e ++ g))
before_step n t (Take m) g lt b = b
before_step n t (Insert m r fact) g lt b = (lt, b)
before_step n t (Return m) g lt b = b

pub before_inserts : (n : ℕ) (h : List (Stamped IndexEvent)) → Before n h → Before n (as_history (inserts h))
before_inserts n [] b = tt
before_inserts n (s ∷ ss) b = before_step n s.turn s.entry (inserts ss) b.0 (before_inserts n ss b.1)

within_before : (n : ℕ) (h : List (Stamped IndexEvent)) → Before (n + 1) h → Within n h
within_before n [] b = tt
within_before n (s ∷ ss) b = let lt : s.turn < n + 1 = b.0 in (omega (arith, lt), within_before n ss b.1)

rises_last : (t : ℕ) (h : List (Stamped IndexEvent)) (e : IndexEvent) → rises 0 h ≡ true → Before t h → rises 0 (h ++ stamp t e ∷ []) ≡ true
rises_last zero [] e r b = refl
rises_last zero (s ∷ ss) e r b = let lt : s.turn < 0 = b.0 in absurd (omega (arith, lt))
rises_last (suc n) h e r b =
    let m : suc n ≡ n + 1 = omega arith in
    subst (λ (t : ℕ). rises 0 (h ++ stamp t e ∷ []) ≡ true) (sym m) (rises_more 0 n h (Some e) r (within_before n h (subst (λ (t : ℕ). Before t h) m b)) zero-le)

numbers_of : (n : ℕ) (g : List Insertion) → is_inserted n (events (as_history g)) ≡ has_number n g
numbers_of n [] = refl
numbers_of n (i ∷ g) = ap (λ (b : Bool). nat_eq i.number n || b) (numbers_of n g)

history_more : (g : List Insertion) (i : Insertion) → as_history (g ++ i ∷ []) ≡ as_history g ++ stamp i.turn (Insert i.number i.r i.fact) ∷ []
history_more [] i = refl
history_more (j ∷ g) i = ap (λ w. stamp j.turn (Insert j.number j.r j.fact) ∷ w) (history_more g i)

pub fine_more : (g : List Insertion) (turn number : ℕ) (r : List ℕ) (fact : Fact) → is_fine g ≡ true → Before turn (as_history g) → has_number number g ≡ false
    → is_fine (g ++ insertion turn number r fact ∷ []) ≡ true
fine_more g turn number r fact fine before fresh =
    let p = and_parts (is_legal_index (as_history g)) (rises 0 (as_history g)) fine in
    let i = insertion turn number r fact in
    let e : IndexEvent = Insert number r fact in
    let more = history_more g i in
    let legal : is_legal_index (as_history g ++ stamp turn e ∷ []) ≡ true =
    subst (λ (es : List IndexEvent). is_legal_after may_join_index [] es ≡ true) (sym (events_more turn (as_history g) (Some e)))
    (legal_more may_join_index [] (events (as_history g)) e p.0 (ap not (numbers_of number g ∙ fresh))) in
    subst (λ (h : List (Stamped IndexEvent)). (is_legal_index h && rises 0 h) ≡ true) (sym more)
    (and_from (is_legal_index (as_history g ++ stamp turn e ∷ [])) (rises 0 (as_history g ++ stamp turn e ∷ [])) legal (rises_last turn (as_history g) e p.1 before))
