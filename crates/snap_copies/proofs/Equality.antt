-- Two facts that the test of facts finds equal are one.
use Rattle.std.proofs.Common.{◌≡◌, ℕ, Bool, true, false, List, [], ◌∷◌, ◌&&◌, not, refl, sym, ap, ◌∙◌}
use Rattle.std.specs.Prelude.{nat_eq, MatchBool}
use Rattle.std.specs.Ordering.{int_eq}
use Rattle.std.specs.Cmp.Lexicographic.{pointwise, same_text}
use Rattle.std.proofs.lemmas.Bool.{eqb-true, and_parts}
use Rattle.std.proofs.lemmas.Bool.Decides.{Decides-int_eq}
use mathlib.Core.Bool.{true≢false}
use mathlib.Core.Logic.{inl, inr}
use denote.Struct.Field.{Field}
use denote.Enum.Declared.{Record}
use denote.Enum.Compared.{Each, by}
use denote.Enum.Bare.{same_true}
use Rattle.schema_fact.specs.contracts.parts.Origin as origin
use Rattle.schema_fact.specs.contracts.parts.OriginPartialEq.TheImpl as origin_eq
use Rattle.schema_fact.specs.contracts.parts.PartPartialEq.TheImpl as part_eq
use Rattle.schema_fact.specs.contracts.changes.Act as act
use Rattle.schema_fact.specs.contracts.changes.ActPartialEq.TheImpl as act_eq
use Rattle.schema_fact.specs.contracts.changes.ChangePartialEq.TheImpl as change_eq
use Rattle.schema_fact.specs.contracts.kinds.SignedPartialEq.TheImpl as signed_eq
use Rattle.schema_fact.specs.contracts.kinds.What as what
use Rattle.schema_fact.specs.contracts.kinds.WhatPartialEq.TheImpl as what_eq
use Rattle.schema_fact.specs.contracts.kinds.Kind as kind
use Rattle.schema_fact.specs.contracts.kinds.KindPartialEq.TheImpl as kind_eq
use Rattle.schema_fact.specs.contracts.kinds.FactPartialEq.TheImpl as fact_eq

-- two values that the test finds equal are one
abbrev pub Tells : {K : Type 0} → (K → K → Bool) → Type 0
Tells {K} test = (x y : K) → test x y ≡ true → x ≡ y

abbrev is_same_text : List ℕ → List ℕ → Bool
is_same_text = pointwise nat_eq

pub texts : Tells is_same_text
texts x y e = same_text x y (sym e)

module _ {K : Type 0} {test : K → K → Bool} (tells : Tells test) where
  lists : Tells (pointwise test)
  lists [] [] e = refl
  lists [] (y ∷ ys) e = absurd (true≢false (sym e))
  lists (x ∷ xs) [] e = absurd (true≢false (sym e))
  lists (x ∷ xs) (y ∷ ys) e = let both = and_parts (test x y) (pointwise test xs ys) e in λ i. tells x y both.0 i ∷ lists xs ys both.1 i

-- tests of one, two and three fields of a variant
abbrev on_one : {A R : Type 0} → (A → A → Bool) → A × R → A × R → Bool
on_one f x y = f x.0 y.0

abbrev on_two : {A B R : Type 0} → (A → A → Bool) → (B → B → Bool) → A × (B × R) → A × (B × R) → Bool
on_two f g x y = f x.0 y.0 && g x.1.0 y.1.0

abbrev on_three : {A B C R : Type 0} → (A → A → Bool) → (B → B → Bool) → (C → C → Bool) → A × (B × (C × R)) → A × (B × (C × R)) → Bool
on_three f g h x y = f x.0 y.0 && (g x.1.0 y.1.0 && h x.1.1.0 y.1.1.0)

one : {A : Type 0} {f : A → A → Bool} → Tells f → Tells (on_one {R = Unit {0}} f)
one t x y e = λ i. (t x.0 y.0 e i, tt)

two : {A B : Type 0} {f : A → A → Bool} {g : B → B → Bool} → Tells f → Tells g → Tells (on_two {R = Unit {0}} f g)
two {f = f} {g = g} t u x y e = let a = and_parts (f x.0 y.0) (g x.1.0 y.1.0) e in λ i. (t x.0 y.0 a.0 i, (u x.1.0 y.1.0 a.1 i, tt))

three : {A B C : Type 0} {f : A → A → Bool} {g : B → B → Bool} {h : C → C → Bool} → Tells f → Tells g → Tells h → Tells (on_three {R = Unit {0}} f g h)
three {f = f} {g = g} {h = h} t u v x y e =
    let a = and_parts (f x.0 y.0) (g x.1.0 y.1.0 && h x.1.1.0 y.1.1.0) e in
    let b = and_parts (g x.1.0 y.1.0) (h x.1.1.0 y.1.1.0) a.1 in
    λ i. (t x.0 y.0 a.0 i, (u x.1.0 y.1.0 b.0 i, (v x.1.1.0 y.1.1.0 b.1 i, tt)))

-- a test of two values of an enum that goes by their variants
abbrev EachTells : (Fss : List (List Field)) → Each Bool Fss → Type 0
EachTells [] each = Unit {0}
EachTells (Fs ∷ Fss) each = Tells each.0 × EachTells Fss each.1

choices : (Fss : List (List Field)) (each : Each Bool Fss) → EachTells Fss each → Tells (by false false Fss each)
choices [] each all x y e = absurd x
choices (Fs ∷ Fss) each all (inl x) (inl y) e = ap inl (all.0 x y e)
choices (Fs ∷ Fss) each all (inl x) (inr y) e = absurd (true≢false (sym e))
choices (Fs ∷ Fss) each all (inr x) (inl y) e = absurd (true≢false (sym e))
choices (Fs ∷ Fss) each all (inr x) (inr y) e = ap inr (choices Fss each.1 all.1 x y e)

variants : (N : Record) (each : Each Bool N.parts) → EachTells N.parts each → Tells (λ (x y : N.D). by false false N.parts each (N.as_values x) (N.as_values y))
variants N each all x y e = sym (N.eta x) ∙ ap N.make (choices N.parts each all (N.as_values x) (N.as_values y) e) ∙ N.eta y

origins : Tells origin_eq.ghosts.eq
origins = variants origin.enum (λ x y. true, (on_one is_same_text, (on_one is_same_text, tt))) (λ x y e. refl, (one texts, (one texts, tt)))

parts : Tells part_eq.ghosts.eq
parts x y e =
    let a = and_parts _ _ e in
    let b = and_parts _ _ a.1 in
    λ i. record { size = eqb-true x.size y.size a.0 i; offset = eqb-true x.offset y.offset b.0 i; origin = origins x.origin y.origin b.1 i }

acts : Tells act_eq.ghosts.eq
acts x y e = same_true act.the_type tt x y e

changes : Tells change_eq.ghosts.eq
changes x y e =
    let a = and_parts _ _ e in
    let b = and_parts _ _ a.1 in
    let c = and_parts _ _ b.1 in
    λ i. record { on = texts x.on y.on a.0 i; act = acts x.act y.act b.0 i; attr = texts x.attr y.attr c.0 i; value = texts x.value y.value c.1 i }

signeds : Tells signed_eq.ghosts.eq
signeds x y e =
    let a = and_parts _ _ e in
    let b = and_parts _ _ a.1 in
    λ i. record { signer = texts x.signer y.signer a.0 i; payload = texts x.payload y.payload b.0 i; sig = texts x.sig y.sig b.1 i }

dates : Tells int_eq
dates x y e = (Decides-int_eq x y).0 e

whats : Tells what_eq.ghosts.eq
whats =
    let change = on_three is_same_text is_same_text is_same_text in
    let same = three texts texts texts in
    variants what.enum (change, (change, (change, (on_one is_same_text, (on_one (pointwise change_eq.ghosts.eq), tt)))))
    (same, (same, (same, (one texts, (one (lists changes), tt)))))

kinds : Tells kind_eq.ghosts.eq
kinds = variants kind.enum (
  λ x y. true,
  (
    on_one is_same_text,
    (
      on_two is_same_text (pointwise part_eq.ghosts.eq),
      (
        on_one (pointwise part_eq.ghosts.eq),
        (
          on_two is_same_text is_same_text,
          (
            on_one (pointwise is_same_text),
            (
              on_one signed_eq.ghosts.eq,
              (
                on_three signed_eq.ghosts.eq int_eq what_eq.ghosts.eq,
                (on_one is_same_text, tt),
              ),
            ),
          ),
        ),
      ),
    ),
  ),
) (
  λ x y e. refl,
  (
    one texts,
    (
      two texts (lists parts),
      (
        one (lists parts),
        (
          two texts texts,
          (
            one (lists texts),
            (
              one signeds,
              (
                three signeds dates whats,
                (one texts, tt),
              ),
            ),
          ),
        ),
      ),
    ),
  ),
)

pub facts : Tells fact_eq.ghosts.eq
facts x y e = let a = and_parts _ _ e in λ i. record { size = eqb-true x.size y.size a.0 i; kind = kinds x.kind y.kind a.1 i }

pub equal : (b : Bool) → not b ≡ false → b ≡ true
equal true e = refl
equal false e = absurd (true≢false e)

-- what a test has told
pub told : {A : Type 0} {x y : A} (b : Bool) → (b ≡ true → x ≡ y) → MatchBool b (x ≡ y) (Unit {0})
told true f = f refl
told false f = tt
