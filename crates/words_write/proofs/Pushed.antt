-- Writing part after part.
use Rattle.std.proofs.Common.{◌≡◌, ℕ, Bool, true, false, List, [], ◌∷◌, ◌++◌, refl, ap, subst, ◌∙◌, Option, Some, None, option_map, Result, Ok, Err, IfOk, OnOk}
use Rattle.std.proofs.lemmas.List.{append_assoc}
use Rattle.search_query.specs.declared.query.Op.{Op}
use Rattle.search_query.specs.declared.query.Op.TheVariants.{And, Or, Xor, Not}
use Rattle.words_write.specs.Writing.{Rank, an_or, an_and, a_unit, an_atom, Made, made_as, in_group, ranked_atom, or_made, and_made, not_made, joined_made}
use Rattle.words_write.specs.Pushing.{Pushes, text_at, pair_text, needs_group}

pub pushes_as : {E : Type 0} (x y : Option (List ℕ)) (old new : List ℕ) (r : Result Bool E) → x ≡ y
    → IfOk r (λ b. Pushes x old new b) → IfOk r (λ b. Pushes y old new b)
pushes_as x y old new r e h = subst (λ o. IfOk r (λ b. Pushes o old new b)) e h

pub none_pushed : (x : Option (List ℕ)) (old new : List ℕ) → None ≡ x → Pushes x old new false
none_pushed x old new e = subst (λ o. Pushes o old new false) e tt

pub some_pushed : (x : Option (List ℕ)) (t old new : List ℕ) → Some t ≡ x → new ≡ old ++ t → Pushes x old new true
some_pushed x t old new e h = subst (λ o. Pushes o old new true) e h

-- The whole line

pub none_written : (x : Option (List ℕ)) (old new : List ℕ) → Pushes x old new false → None ≡ x
none_written None old new h = refl
none_written (Some t) old new h = absurd h

pub some_written : (x : Option (List ℕ)) (old new : List ℕ) → old ≡ [] → Pushes x old new true → Some new ≡ x
some_written None old new e h = absurd h
some_written (Some t) old new e h = ap Some (h ∙ ap (λ l. l ++ t) e)

-- Two parts

pub then_on : {T E : Type 0} (r : Result T E) (old mid new a b : List ℕ) → mid ≡ old ++ a → OnOk r (new ≡ mid ++ b)
    → OnOk r (new ≡ old ++ (a ++ b))
then_on (Ok x) old mid new a b e h = h ∙ ap (λ l. l ++ b) e ∙ append_assoc old a b
then_on (Err x) old mid new a b e h = tt

pub pair_off : (x y : Option (List ℕ)) (s old mid : List ℕ) → Pushes x old mid false
    → Pushes (pair_text x s y) old mid false
pair_off None y s old mid h = tt
pair_off (Some t) y s old mid h = absurd h

pub pair_on : (x y : Option (List ℕ)) (s old mid next new : List ℕ) (b : Bool) → Pushes x old mid true → next ≡ mid ++ s
    → Pushes y next new b
    → Pushes (pair_text x s y) old new b
pair_on None y s old mid next new b h e k = absurd h
pair_on (Some t) None s old mid next new true h e k = absurd k
pair_on (Some t) None s old mid next new false h e k = tt
pair_on (Some t) (Some u) s old mid next new false h e k = absurd k
pair_on (Some t) (Some u) s old mid next new true h e k =
    k ∙ ap (λ l. l ++ u) (e ∙ ap (λ l. l ++ s) h) ∙ ap (λ l. l ++ u) (append_assoc old t s)
    ∙ append_assoc old (t ++ s) u

pub negated_on : (x : Option Made) (old next new : List ℕ) (b : Bool) → next ≡ old ++ 45 ∷ []
    → Pushes (text_at an_atom x) next new b
    → Pushes (text_at an_or (not_made x)) old new b
negated_on None old next new true e h = absurd h
negated_on None old next new false e h = tt
negated_on (Some m) old next new false e h = absurd h
negated_on (Some m) old next new true e h =
    h ∙ ap (λ l. l ++ ranked_atom m.rank m.text) e ∙ append_assoc old (45 ∷ []) (ranked_atom m.rank m.text)

-- Parentheses

abbrev pub grouped_if : Bool → Option (List ℕ) → Option (List ℕ)
grouped_if true o = option_map in_group o
grouped_if false o = o

pub group_off : (x : Option (List ℕ)) (old next mid : List ℕ) → Pushes x next mid false
    → Pushes (option_map in_group x) old mid false
group_off None old next mid h = tt
group_off (Some t) old next mid h = absurd h

pub group_on : (x : Option (List ℕ)) (old next mid new : List ℕ) → next ≡ old ++ 40 ∷ [] → Pushes x next mid true
    → new ≡ mid ++ 41 ∷ []
    → Pushes (option_map in_group x) old new true
group_on None old next mid new e h k = absurd h
group_on (Some t) old next mid new e h k =
    k ∙ ap (λ l. l ++ 41 ∷ []) (h ∙ ap (λ l. l ++ t) e ∙ append_assoc old (40 ∷ []) t)
    ∙ append_assoc old (40 ∷ t) (41 ∷ [])

-- Forms where others are wanted

none_text : (b : Bool) → None ≡ grouped_if b None
none_text true = refl
none_text false = refl

pub joined_text : (op : Option Op) (x y : Option Made) (two : Bool) (least : Rank)
    → text_at least (joined_made op x y two)
    ≡ grouped_if (needs_group op least) (text_at an_or (joined_made op x y two))
joined_text (Some Or) None y two least = none_text (needs_group (Some Or) least)
joined_text (Some Or) (Some a) None two least = none_text (needs_group (Some Or) least)
joined_text (Some Or) (Some a) (Some b) two an_or = refl
joined_text (Some Or) (Some a) (Some b) two an_and = refl
joined_text (Some Or) (Some a) (Some b) two a_unit = refl
joined_text (Some Or) (Some a) (Some b) two an_atom = refl
joined_text (Some And) None y two least = none_text (needs_group (Some And) least)
joined_text (Some And) (Some a) None two least = none_text (needs_group (Some And) least)
joined_text (Some And) (Some a) (Some b) two an_or = refl
joined_text (Some And) (Some a) (Some b) two an_and = refl
joined_text (Some And) (Some a) (Some b) two a_unit = refl
joined_text (Some And) (Some a) (Some b) two an_atom = refl
joined_text (Some Not) x y true least = none_text (needs_group (Some Not) least)
joined_text (Some Not) None y false least = none_text (needs_group (Some Not) least)
joined_text (Some Not) (Some a) y false an_or = refl
joined_text (Some Not) (Some a) y false an_and = refl
joined_text (Some Not) (Some a) y false a_unit = refl
joined_text (Some Not) (Some a) y false an_atom = refl
joined_text (Some Xor) x y two least = none_text (needs_group (Some Xor) least)
joined_text None x y two least = none_text (needs_group None least)

pub or_text : (x y : Option Made) → pair_text (text_at an_or x) (32 ∷ 111 ∷ 114 ∷ 32 ∷ []) (text_at an_and y)
    ≡ text_at an_or (or_made x y)
or_text None y = refl
or_text (Some a) None = refl
or_text (Some a) (Some b) = refl

pub and_text : (x y : Option Made) → pair_text (text_at an_and x) (32 ∷ []) (text_at a_unit y)
    ≡ text_at an_or (and_made x y)
and_text None y = refl
and_text (Some a) None = refl
and_text (Some a) (Some b) = refl

pub atom_text : (least : Rank) (o : Option (List ℕ)) → o ≡ text_at least (option_map (made_as an_atom) o)
atom_text least None = refl
atom_text an_or (Some t) = refl
atom_text an_and (Some t) = refl
atom_text a_unit (Some t) = refl
atom_text an_atom (Some t) = refl
