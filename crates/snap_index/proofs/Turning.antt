-- What a turn and a join are to a seat.
use Rattle.std.proofs.Common.{◌≡◌, ℕ, ◌+◌, List, [], ◌∷◌, ◌++◌, true, length, take, Option, Some, sym, ap, subst, ◌∙◌}
use mathlib.Core.List.{IsPrefix}
use Rattle.logbook.specs.Pages.{Book}
use Rattle.histories.specs.declared.stamped.Stamped.{Stamped}
use Rattle.histories.specs.declared.events.Insertion.{Insertion}
use Rattle.histories.specs.declared.events.IndexEvent.{IndexEvent}
use Rattle.histories.specs.History.{stamped, own, rises, AheadOf, Drawn, Ran, Within}
use Rattle.histories.specs.Indexes.{inserts}
use Rattle.home_places.specs.Seats.{IndexSight, IndexTurn}
use Rattle.snap_copies.specs.declared.book.Front.{Front}
use Rattle.snap_index.specs.Beginnings.{taken}
use Rattle.snap_index.specs.Telling.{GuardedSpec}

module _ {O : Type 0} (says : List IndexEvent → O → Option IndexEvent → Type 0) (book : Book) (mine : List Insertion) (kept : Option Front) (x : O)
    (h k : List (Stamped IndexEvent)) (s t : List ℕ)
    (r : Ran (λ before turn entry. GuardedSpec says book mine before turn (Some x) kept entry) h s k t) where
  pub front_book : (f : Front) → kept ≡ Some f → f.seen.book ≡ book
  front_book f is = let same : f ≡ r.said.front = cc (sym is ∙ r.said.after) in ap (λ f. f.seen.book) same ∙ r.said.book

  pub front_all : (f : Front) → kept ≡ Some f → f.seen.log ≡ inserts k
  front_all f is = let same : f ≡ r.said.front = cc (sym is ∙ r.said.after) in ap (λ f. f.seen.log) same ∙ r.said.all ∙ ap inserts (sym r.added)

  pub known_now : (f : Front) → kept ≡ Some f → (g : List Insertion) → IsPrefix f.seen.log g → take (length (inserts k)) g ≡ inserts k
  known_now f is g pre = taken (inserts k) g (subst (λ x. IsPrefix x g) (front_all f is) pre)

  pub index_turn : (v w : IndexSight) → v.history ≡ h → v.turns ≡ s → w.history ≡ k → w.turns ≡ t → v.shown ≡ mine → IsPrefix mine w.shown → w.accepts ≡ v.accepts
      → IndexTurn (λ before entry. says before x entry) v w
  index_turn v w a b c d e pre accepts = rebuilt v w a b c d e pre accepts
    where
      rebuilt : (v w : IndexSight) → v.history ≡ h → v.turns ≡ s → w.history ≡ k → w.turns ≡ t → v.shown ≡ mine → IsPrefix mine w.shown → w.accepts ≡ v.accepts
          → IndexTurn (λ before entry. says before x entry) v w
      rebuilt v w a b c d e pre accepts = record {
        ran = record {
          before = r.before;
          ticket = r.ticket;
          entry = r.entry;
          longer = subst (λ z. IsPrefix z r.before) (sym a) r.longer;
          said = r.said.said;
          added = c ∙ r.added;
          drawn = d ∙ (r.drawn ∙ ap (λ z. z ++ (r.ticket + 1) ∷ []) (sym b));
          within = subst (λ z. Within r.ticket r.before × Drawn r.ticket z) (sym b) r.within;
          others = ap (λ z. own z r.before) b ∙ (r.others ∙ sym ((λ i. own (b i) (a i))));
          owned = (λ i. own (d i) (c i)) ∙ (r.owned ∙ ap (λ z. z ++ stamped (r.ticket + 1) r.entry) (sym (λ i. own (b i) (a i))));
          later = subst (λ z. AheadOf v.turns v.history z) (sym c)
              (subst (λ z. AheadOf v.turns z k) (sym a) (subst (λ z. AheadOf z h k) (sym b) r.later));
          rising = subst (λ z. rises 0 z ≡ true) (sym c) r.rising;
        };
        known = subst (λ z. IsPrefix z (inserts r.before)) (sym e) r.said.known;
        shown = subst (λ z. IsPrefix z w.shown) (sym e) pre;
        accepts = accepts;
      }

-- a call that answers
pub answered : {O : Type 0} (says : List IndexEvent → O → Option IndexEvent → Type 0) (book : Book) (mine : List Insertion) (kept : Option Front)
    (h k : List (Stamped IndexEvent)) (s t : List ℕ) (o : Option O) (x : O) → o ≡ Some x
    → Ran (λ before turn entry. GuardedSpec says book mine before turn o kept entry) h s k t
    → Ran (λ before turn entry. GuardedSpec says book mine before turn (Some x) kept entry) h s k t
answered says book mine kept h k s t o x is r = subst (λ o. Ran (λ before turn entry. GuardedSpec says book mine before turn o kept entry) h s k t) is r

-- the same of an equal job
pub turn_moved : {J O : Type 0} (says : J → List IndexEvent → O → Option IndexEvent → Type 0) (x : O) {v w : IndexSight} (i j : J) → i ≡ j
    → IndexTurn (λ before entry. says i before x entry) v w → IndexTurn (λ before entry. says j before x entry) v w
turn_moved says x {v} {w} i j is t = subst (λ j. IndexTurn (λ before entry. says j before x entry) v w) is t
