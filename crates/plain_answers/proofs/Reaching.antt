-- Parts one after another, where a ref that several of them have is looked at once.
use Rattle.std.proofs.Common.{◌≡◌, ◌<◌, ℕ, zero, suc, ◌+◌, Bool, true, false, ◌&&◌, ◌||◌, cond, List, [], ◌∷◌, length, take, get_or, Option, Some, None, refl, sym, ap, ◌∙◌, arith, add-one, inl, inr}
use Rattle.std.proofs.lemmas.Bool.{and_parts, cases_Bool, false≢true}
use Rattle.std.proofs.lemmas.Option.{same_Some}
use Rattle.std.proofs.lemmas.Slice.Eq.{bytes_eq-Decides}
use Rattle.std.proofs.lemmas.List.Elements.{filter_map-append}
use Rattle.std.proofs.lemmas.List.Folds.{list_all-append}
use Rattle.std.specs.List.{list_all, list_any, cons_option}
use Rattle.std.specs.Str.{bytes_eq}
use Rattle.std.specs.Prelude.{option_and_then}
use Rattle.schema_fact.specs.declared.parts.Part.{Part}
use Rattle.schema_fact.specs.Dependencies.{origin_ref, part_refs}
use Rattle.claim_model.specs.Facts.{passes}
use Rattle.plain_answers.specs.Parts.{is_from, new_ref}
use Rattle.index_look.proofs.Texts.{take_one}

module _ (p : List ℕ → Bool) where
  -- what holds of the ref of a part, where it has one
  abbrev pub Holds : Part → Type 0
  Holds part = (r : List ℕ) → origin_ref part.origin ≡ Some r → p r ≡ true

  one_holds : (o : Option (List ℕ)) → ((r : List ℕ) → o ≡ Some r → p r ≡ true) → list_all p (cons_option o []) ≡ true
  one_holds None h = refl
  one_holds (Some r) h = ap (λ b. b && true) (h r refl)

  pub one_further : (parts : List Part) (i : ℕ) (part : Part) → i < length parts → part ≡ get_or parts i part
      → list_all p (part_refs (take i parts)) ≡ true → Holds part → list_all p (part_refs (take (i + 1) parts)) ≡ true
  one_further parts i part lt is so_far h =
      ap (λ ps. list_all p (part_refs ps)) (ap (λ n. take n parts) (add-one i) ∙ take_one parts i part lt is)
      ∙ ap (list_all p) (filter_map-append (λ (q : Part). origin_ref q.origin) (take i parts) (part ∷ []))
      ∙ list_all-append p (part_refs (take i parts)) (part_refs (part ∷ []))
      ∙ (λ j. so_far j && one_holds (origin_ref part.origin) h j)

  -- what was named before holds
  known : (r : List ℕ) (before : List Part) → list_all p (part_refs before) ≡ true → list_any (is_from r) before ≡ true → p r ≡ true
  known r [] all any = absurd (false≢true any)
  known r (q ∷ qs) all any = by (origin_ref q.origin) (known r qs) all any
    where
      by : (o : Option (List ℕ)) → (list_all p (part_refs qs) ≡ true → list_any (is_from r) qs ≡ true → p r ≡ true)
          → list_all p (cons_option o (part_refs qs)) ≡ true → (passes (bytes_eq r) o || list_any (is_from r) qs) ≡ true → p r ≡ true
      by None more all any = more all any
      by (Some s) more all any = elim (cases_Bool (bytes_eq r s)) [
        | inl here ↦ ap p ((bytes_eq-Decides r s).0 here) ∙ (and_parts (p s) (list_all p (part_refs qs)) all).0
        | inr off ↦ more (and_parts (p s) (list_all p (part_refs qs)) all).1 (let f : (bytes_eq r s || list_any (is_from r) qs) ≡ true = any in rw off at f)
      ]

  pub known_holds : (before : List Part) (part : Part) → list_all p (part_refs before) ≡ true → None ≡ new_ref before part → Holds part
  known_holds before part all none r is = elim (cases_Bool (list_any (is_from r) before)) [
    | inl any ↦ known r before all any
    | inr off ↦ absurd (let f : None ≡ Some r = none ∙ ap (λ o. option_and_then (λ s. cond (list_any (is_from s) before) None (Some s)) o) is ∙ ap (λ b. cond b None (Some r)) off in cc f)
  ]

  pub new_is : (before : List Part) (part : Part) (r : List ℕ) → Some r ≡ new_ref before part → origin_ref part.origin ≡ Some r
  new_is before part r is = by (origin_ref part.origin) is
    where
      by : (o : Option (List ℕ)) → Some r ≡ option_and_then (λ s. cond (list_any (is_from s) before) None (Some s)) o → o ≡ Some r
      by None f = absurd (let g : Some r ≡ None = f in cc g)
      by (Some s) f = chosen (list_any (is_from s) before) s f
        where
          chosen : (b : Bool) (s : List ℕ) → Some r ≡ cond b None (Some s) → Some s ≡ Some r
          chosen true s f = absurd (let g : Some r ≡ None = f in cc g)
          chosen false s f = sym f

  pub new_holds : (before : List Part) (part : Part) (r : List ℕ) → Some r ≡ new_ref before part → true ≡ p r → Holds part
  new_holds before part r is h s own = ap p (same_Some s r (sym own ∙ new_is before part r is)) ∙ sym h

  fails : (parts : List Part) (i : ℕ) (part : Part) (r : List ℕ) → i < length parts → part ≡ get_or parts i part → origin_ref part.origin ≡ Some r → p r ≡ false → list_all p (part_refs parts) ≡ false
  fails [] i part r lt is own off = absurd (omega arith)
  fails (q ∷ qs) zero part r lt is own off =
      ap (λ o. list_all p (cons_option o (part_refs qs))) (ap (λ (x : Part). origin_ref x.origin) (sym is) ∙ own) ∙ ap (λ b. b && list_all p (part_refs qs)) off
  fails (q ∷ qs) (suc i) part r lt is own off = by (origin_ref q.origin) (fails qs i part r (omega arith) is own off)
    where
      by : (o : Option (List ℕ)) → list_all p (part_refs qs) ≡ false → list_all p (cons_option o (part_refs qs)) ≡ false
      by None rest = rest
      by (Some s) rest = ap (λ b. p s && b) rest ∙ and_false (p s)
        where
          and_false : (a : Bool) → (a && false) ≡ false
          and_false true = refl
          and_false false = refl

  pub new_fails : (parts : List Part) (i : ℕ) (part : Part) (r : List ℕ) → i < length parts → part ≡ get_or parts i part → Some r ≡ new_ref (take i parts) part → false ≡ p r → false ≡ list_all p (part_refs parts)
  new_fails parts i part r lt is new off = sym (fails parts i part r lt is (new_is (take i parts) part r new) (sym off))
