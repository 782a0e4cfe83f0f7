-- To hand the value back keeps the rule, and leaves the slot empty.
use Rattle.std.proofs.Common.{◌≡◌, ℕ, Bool, true, List, [], ◌∷◌, length, get_or, set, ap, sym, subst, ◌∙◌, Option, None}
use mathlib.Core.Option.{some, none, some-injective}
use lib.ListN.{get_elem?}
use Rattle.atomic_table.specs.Table.{Me, step, gives, put_back, rest, Allows, Final, Seen}
use Rattle.histories.specs.declared.stamped.Stamped.{Stamped}
use Rattle.turn_cell.specs.declared.line.Stage.TheVariants.{Has, Ended}
use Rattle.turn_cell.specs.declared.line.View.{View}
use Rattle.turn_cell.specs.Line.{HasTicket, IsEnded, Home, InLine, over, left}
use Rattle.turn_cell.proofs.Reviews.{put_at, only_set, each_set, there_set, live_at, at_stage, KnowsIn}

module _ {T E A : Type 0} (about : T → A) (tells : T → List (Stamped E) → Type 0) where
  abbrev Homes : Type 0
  Homes = List (mathlib.Core.Option.Option (Option T))

  pub leaves : (slots id : ℕ) (me : Me (Option T) (View E A)) (n : ℕ) → me.0.stage ≡ Has n → me.1 ≡ (0, None) ∷ []
      → Allows (InLine about tells) slots id me 1 (λ y. y) (left (step slots 1 0 0 none) me)
  leaves slots id me n is holds s r wide at _ =
      let v : View E A = me.0 in
      let w : View E A = over n v in
      let k = r.seats id v at (live_at about tells v.stage (Has n) is tt) in
      let a = at_stage about tells s r id v (Has n) at is tt in
      let mine : r.who r.serving ≡ id = ap r.who (sym a.0) ∙ a.2 in
      let home : Home about tells r.fixed true r.log s.homes =
      subst (λ (b : Bool). Home about tells r.fixed b r.log s.homes) a.4 r.home in
      let empty : put_back s.homes me.1 ≡ some None ∷ [] =
      ap (λ (c : List (ℕ × Option T)). put_back s.homes c) holds ∙ only_set s.homes (some None) home in (
        w,
        gives,
        tt,
        record {
          fixed = r.fixed;
          ticket = r.ticket;
          serving = r.serving;
          log = r.log;
          who = r.who;
          out = r.out;
          words = ap (λ (ws : List ℕ). set ws 1 (get_or ws 1 0)) r.words;
          behind = r.behind;
          capped = r.capped;
          rising = r.rising;
          within = r.within;
          seats = each_set (KnowsIn about tells s r) s.views id w (λ i u e live _. r.seats i u e live) (λ _. record {
            ahead = k.ahead;
            olds = k.olds;
            about = k.about;
            drawn = k.drawn;
            since = k.since;
            stage = a;
          });
          held = λ m low high. there_set (λ u. HasTicket m u.stage) s.views id (r.who m) v w at
              (λ h. subst (HasTicket m) is h) (r.held m low high);
          home = subst (λ (b : Bool). Home about tells r.fixed b r.log (put_back s.homes me.1)) (sym a.4) (ap (λ (hs : Homes). length hs) empty);
          taken = λ _. (w, ap (λ (j : ℕ). get_elem? (set s.views id w) j) mine ∙ put_at s.views id v w at, a.0);
          ended = λ i u e _. empty;
        },
        λ n' is' holds'.
            let same : n ≡ n' = cc (is, is') in
            λ j. (over (same j) me.0, rest (holds j)),
      )

  -- the slot of a lock that was ended by this seat
  pub left_empty : (id n : ℕ) (v : View E A) (words : List ℕ) (slots : List (Option T)) (found : Option T) → v.stage ≡ Ended n
      → Final (Seen (InLine about tells) id v) words slots → get_elem? slots 0 ≡ some found → found ≡ None
  left_empty id n v words slots found is f got =
      let empty = f.1.0.ended id v f.1.1 (subst IsEnded (sym is) tt) in
      some-injective found None (sym got ∙ f.4 0 None (ap (λ (hs : Homes). get_elem? hs 0) empty))
