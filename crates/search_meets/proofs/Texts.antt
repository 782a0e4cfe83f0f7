-- A text that stands in another one.
use Rattle.std.proofs.Common.{◌≡◌, ◌↔◌, ◌⊎◌, inl, inr, ◌++◌, ℕ, Bool, true, false, List, [], ◌∷◌, length, drop, nat_eq, refl, sym, ap, subst}
use Rattle.std.specs.List.{starts_with}
use Rattle.std.specs.Str.Iter.{HasSubslice}
use Rattle.std.proofs.lemmas.Bool.{cases_Bool, false≢true, or_cases, or_left, or_right}
use Rattle.std.proofs.lemmas.Bool.Decides.{Decides-eqb}
use Rattle.std.proofs.lemmas.Slice.Eq.{starts_is}
use Rattle.search_meets.specs.Tests.{stands_in}

module _ (part : List ℕ) where
  at_front : (text : List ℕ) → starts_with nat_eq text part ≡ true → HasSubslice text part
  at_front text h = ([], drop (length part) text, (starts_is Decides-eqb text part _ refl).0 h)

  found_there : (text : List ℕ) → stands_in part text ≡ true → HasSubslice text part
  found_there [] h = at_front [] h
  found_there (b ∷ bs) h = by (or_cases (starts_with nat_eq (b ∷ bs) part) (stands_in part bs) h) (found_there bs)
    where
      by : (starts_with nat_eq (b ∷ bs) part ≡ true) ⊎ (stands_in part bs ≡ true) → (stands_in part bs ≡ true → HasSubslice bs part) → HasSubslice (b ∷ bs) part
      by (inl here) more = at_front (b ∷ bs) here
      by (inr later) more = let rest = more later in (b ∷ rest.0, rest.1, ap (λ zs. b ∷ zs) rest.2)

  begins : (text : List ℕ) → starts_with nat_eq text part ≡ true → stands_in part text ≡ true
  begins [] h = h
  begins (b ∷ bs) h = or_left (starts_with nat_eq (b ∷ bs) part) (stands_in part bs) h

  behind : (before after : List ℕ) → stands_in part (before ++ (part ++ after)) ≡ true
  behind [] after = begins (part ++ after) ((starts_is Decides-eqb (part ++ after) part _ refl).1 after refl)
  behind (b ∷ before) after = or_right (starts_with nat_eq (b ∷ (before ++ (part ++ after))) part) (stands_in part (before ++ (part ++ after))) (behind before after)

  there_found : (text : List ℕ) → HasSubslice text part → stands_in part text ≡ true
  there_found text h = subst (λ t. stands_in part t ≡ true) (sym h.2) (behind h.0 h.1)

  pub stands_there : (text : List ℕ) (r : Bool) → (r ≡ true) ↔ HasSubslice text part → r ≡ stands_in part text
  stands_there text true h = sym (there_found text (h.0 refl))
  stands_there text false h = by (cases_Bool (stands_in part text))
    where
      by : (stands_in part text ≡ true) ⊎ (stands_in part text ≡ false) → false ≡ stands_in part text
      by (inl is) = absurd (false≢true (h.1 (found_there text is)))
      by (inr not_there) = sym not_there
