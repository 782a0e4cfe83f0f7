-- What a worker asks its gate, step after step.
use Rattle.std.proofs.Common.{◌≡◌, ℕ, ◌+◌, List, [], ◌∷◌, ◌++◌, refl, ap, sym, subst, ◌∙◌, append_assoc, length-append, Bool, Result}
use Rattle.std.proofs.lemmas.List.{append-nil, flat_map_more}
use Rattle.edge_base.specs.declared.answers.GetFault.{GetFault}
use Rattle.home_places.specs.Passes.{Sight}
use Rattle.home_places.specs.Working.{IndexesNext}
use Rattle.home_places.specs.declared.home.Indexed.{Indexed}
use Rattle.index_worker.specs.declared.gate.GatePlace.{GatePlace}
use Rattle.index_worker.specs.declared.gate.GatePlace.TheVariants.{Before}
use Rattle.index_worker.specs.Works.{outcome_of}
use Rattle.index_worker.specs.Asks.{asks_of, Notes, Stepped, AsksOnce, Asks}

-- a step behind others
stepped_more : (tells : Bool) (answers : List (Result Indexed GetFault)) (answer : Result Indexed GetFault) (u v w : Sight)
    → Stepped tells answers u v → IndexesNext tells answer v w → Stepped tells (answers ++ answer ∷ []) u w
stepped_more tells [] answer u v w is next = (w, subst (λ x. IndexesNext tells answer x w) is next, refl)
stepped_more tells (a ∷ answers) answer u v w s next = (s.0, s.1, stepped_more tells answers answer s.0 v w s.2 next)

module _ {G : Type 0} (told : G → List GatePlace → Type 0) (tells : Bool) where
  pub asks_none : (gate : G) (v : Sight) → Asks tells (Notes told gate gate) 0 v v
  asks_none gate v = record {
    answers = [];
    stepped = refl;
    steps_are = refl;
    asked = λ before t. subst (told gate) (sym (append-nil before)) t;
  }

  -- the gate was asked before a step and after it
  pub asks_once : (first middle last : G) (place : GatePlace) (answer : Result Indexed GetFault) (v w : Sight)
      → ((asked : List GatePlace) → told first asked → told middle (asked ++ Before ∷ [])) → IndexesNext tells answer v w
      → place ≡ (outcome_of answer).0 → ((asked : List GatePlace) → told middle asked → told last (asked ++ place ∷ []))
      → AsksOnce tells (Notes told first last) v w
  asks_once first middle last place answer v w ahead next is behind = record {
    answer = answer;
    stepped = next;
    asked = λ before t.
        subst (told last) (append_assoc before (Before ∷ []) (place ∷ []) ∙ ap (λ (p : GatePlace). before ++ Before ∷ p ∷ []) is)
        (behind (before ++ Before ∷ []) (ahead before t));
  }

  -- one step more
  pub asks_more : (first old new : G) (n : ℕ) (u v w : Sight) → Asks tells (Notes told first old) n u v
      → AsksOnce tells (Notes told old new) v w → Asks tells (Notes told first new) (n + 1) u w
  asks_more first old new n u v w a b = record {
    answers = a.answers ++ b.answer ∷ [];
    stepped = stepped_more tells a.answers b.answer u v w a.stepped b.stepped;
    steps_are = length-append a.answers (b.answer ∷ []) ∙ ap (λ (k : ℕ). k + 1) a.steps_are;
    asked = λ before t. subst (told new) (flat_map_more asks_of before a.answers b.answer) (b.asked _ (a.asked before t));
  }
