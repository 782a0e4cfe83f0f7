-- What a look that goes only so deep finds, of one after another, and from what is within.
use Rattle.std.proofs.Common.{◌≡◌, ◌<◌, ◌≤◌, ◌+◌, ℕ, suc, Bool, true, false, ◌&&◌, List, [], ◌∷◌, ◌++◌, length, drop, get_or, Option, Some, None, refl, sym, ap, ◌∙◌, subst, add-one, drop-cons}
use Rattle.std.proofs.lemmas.List.{drop_all}
use Rattle.std.proofs.lemmas.List.Elements.{filter_map-append}
use Rattle.std.proofs.lemmas.List.Folds.{list_all-append}
use Rattle.std.specs.List.{list_all}
use Rattle.std.specs.FinMap.{get}
use Rattle.schema_fact.specs.declared.kinds.Fact.{Fact}
use Rattle.schema_fact.specs.declared.parts.Part.{Part}
use Rattle.schema_fact.specs.Dependencies.{dependencies, origin_ref, part_refs}
use Rattle.claim_model.specs.Facts.{Facts, passes}
use Rattle.claim_model.specs.Ready.{is_ready, round}
use Rattle.claim_model.specs.Trees.{is_sound_tree, parts_fit, sound_within}
use Rattle.claim_model.proofs.Rounds.{ready_is_settled}
use Rattle.claim_model.proofs.Soundness.{soundness_is_settled}
use Rattle.index_look.specs.Walk.{ref_after, number_after}
use Rattle.plain_answers.specs.Learnt.{Says, Finds}
use Rattle.plain_answers.proofs.Walking.{none_left, one_less, number_all}

and_true : (b : Bool) → (b && true) ≡ b
and_true true = refl
and_true false = refl

and_false : (b : Bool) → (b && false) ≡ false
and_false true = refl
and_false false = refl

pub said : (a b answer : Bool) → answer ≡ true → Says a b answer → b ≡ true
said a b answer is h = subst (Says a b) is h

pub denied : (a b answer : Bool) → answer ≡ false → Says a b answer → a ≡ false
denied a b answer is h = subst (Says a b) is h

-- where the depth is enough the answer is the one to the end
pub settled : (a b answer : Bool) → a ≡ b → Says (a && true) (b && true) answer → answer ≡ b
settled a b true same h = sym h ∙ and_true b
settled a b false same h = sym h ∙ and_true a ∙ same

module _ {A : Type 0} (p q : A → Bool) where
  joined : (xs ys : List A) (answer : Bool) → Finds p q xs true → Finds p q ys answer → Finds p q (xs ++ ys) answer
  joined xs ys true h t = list_all-append q xs ys ∙ (λ i. h i && t i)
  joined xs ys false h t = list_all-append p xs ys ∙ ap (λ b. list_all p xs && b) t ∙ and_false (list_all p xs)

  ended : (xs ys : List A) → Finds p q xs false → Finds p q (xs ++ ys) false
  ended xs ys h = list_all-append p xs ys ∙ ap (λ b. b && list_all p ys) h

pub refs_join : (xs ys : List Part) → part_refs (xs ++ ys) ≡ part_refs xs ++ part_refs ys
refs_join = filter_map-append (λ (part : Part). origin_ref part.origin)

-- what is found of what is left is found of all
abbrev pub Onward : {A : Type 0} → (A → Bool) → (A → Bool) → (List Part → List A) → List Part → ℕ → Type 0
Onward p q f parts at = (answer : Bool) → Finds p q (f (drop at parts)) answer → Finds p q (f parts) answer

module _ {A : Type 0} (p q : A → Bool) (f : List Part → List A) (joins : (xs ys : List Part) → f (xs ++ ys) ≡ f xs ++ f ys) (parts : List Part) (at : ℕ) (part : Part) where
  left : at < length parts → part ≡ get_or parts at part → f (drop at parts) ≡ f (part ∷ []) ++ f (drop (suc at) parts)
  left lt is = ap f (drop-cons parts at part lt ∙ ap (λ x. x ∷ drop (suc at) parts) (sym is)) ∙ joins (part ∷ []) (drop (suc at) parts)

  pub further : at < length parts → part ≡ get_or parts at part → Finds p q (f (part ∷ [])) true → Onward p q f parts at → Onward p q f parts (at + 1)
  further lt is h onward answer t =
      onward answer (subst (λ xs. Finds p q xs answer) (sym (left lt is))
      (joined p q (f (part ∷ [])) (f (drop (suc at) parts)) answer h (subst (λ n. Finds p q (f (drop n parts)) answer) (add-one at) t)))

  pub stopped : at < length parts → part ≡ get_or parts at part → Finds p q (f (part ∷ [])) false → Onward p q f parts at → Finds p q (f parts) false
  stopped lt is h onward = onward false (subst (λ xs. Finds p q xs false) (sym (left lt is)) (ended p q (f (part ∷ [])) (f (drop (suc at) parts)) h))

pub gone_through : {A : Type 0} (p q : A → Bool) (f : List Part → List A) (parts : List Part) (at : ℕ) → f [] ≡ [] → length parts ≤ at → Onward p q f parts at → Finds p q (f parts) true
gone_through p q f parts at none end onward = onward true (ap (list_all q) (ap f (drop_all at parts end) ∙ none))

module _ (facts : Facts) (after : Option (List ℕ)) (r : List ℕ) where
  abbrev Denied : Type 0
  Denied = Finds (round facts (number_after facts after)) (is_ready facts) (r ∷ []) false

  abbrev DeniedSound : Type 0
  DeniedSound = Finds (sound_within facts (number_after facts after)) (is_sound_tree facts) (r ∷ []) false

  pub none_deeper : None ≡ ref_after facts after → Denied
  none_deeper is = ap (λ n. round facts n r && true) (none_left facts after is)

  pub none_deeper_sound : None ≡ ref_after facts after → DeniedSound
  none_deeper_sound is = ap (λ n. sound_within facts n r && true) (none_left facts after is)

  module _ (next : List ℕ) (is : Some next ≡ ref_after facts after) where
    pub not_all : (fact : Fact) → Some fact ≡ get facts r → list_all (round facts (number_after facts (Some next))) (dependencies fact) ≡ false → Denied
    not_all fact got off =
        ap (λ n. round facts n r && true) (one_less facts after next is)
        ∙ ap (λ o. passes (λ fact. list_all (round facts (number_after facts (Some next))) (dependencies fact)) o && true) (sym got)
        ∙ ap (λ b. b && true) off

    pub not_fitting : (fact : Fact) → Some fact ≡ get facts r → parts_fit facts (sound_within facts (number_after facts (Some next))) fact ≡ false → DeniedSound
    not_fitting fact got off =
        ap (λ n. sound_within facts n r && true) (one_less facts after next is)
        ∙ ap (λ o. (is_ready facts r && passes (parts_fit facts (sound_within facts (number_after facts (Some next)))) o) && true) (sym got)
        ∙ ap (λ b. (is_ready facts r && b) && true) off
        ∙ ap (λ b. b && true) (and_false (is_ready facts r))

-- what has all that it depends on is ready, and what is ready and fits is a sound tree
pub has_all : (facts : Facts) (r : List ℕ) (fact : Fact) → Some fact ≡ get facts r → list_all (is_ready facts) (dependencies fact) ≡ true → is_ready facts r ≡ true
has_all facts r fact got h = ready_is_settled facts r ∙ ap (passes (λ fact. list_all (is_ready facts) (dependencies fact))) (sym got) ∙ h

pub has_fitting : (facts : Facts) (r : List ℕ) (fact : Fact) → true ≡ is_ready facts r → Some fact ≡ get facts r → parts_fit facts (is_sound_tree facts) fact ≡ true → is_sound_tree facts r ≡ true
has_fitting facts r fact ready got h =
    soundness_is_settled facts r
    ∙ (λ i. sym ready i && passes (parts_fit facts (is_sound_tree facts)) (sym got i))
    ∙ h

pub alone : (b : Bool) → b ≡ true → (b && true) ≡ true
alone b is = and_true b ∙ is

-- all facts are behind none
pub deep_enough : (facts : Facts) (r : List ℕ) → round facts (number_after facts None) r ≡ is_ready facts r
deep_enough facts r = ap (λ n. round facts n r) (number_all facts)

pub deep_enough_sound : (facts : Facts) (r : List ℕ) → sound_within facts (number_after facts None) r ≡ is_sound_tree facts r
deep_enough_sound facts r = ap (λ n. sound_within facts n r) (number_all facts)
