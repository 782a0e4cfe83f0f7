-- Tests of bytes, and lists.
use Rattle.std.proofs.Common.{◌≡◌, ◌≢◌, ℕ, Bool, true, false, not, ◌&&◌, ◌||◌, cond, List, [], ◌∷◌, ◌++◌, nat_eq, refl, sym, ap, ◌∙◌, Option, Some, None}
use Rattle.std.proofs.lemmas.List.{append_assoc, append-nil}
use Rattle.std.specs.List.{list_all}
use Rattle.search_words.specs.Grammar.{is_bare, is_escaped}

pub and_both : (a b : Bool) → (a && b) ≡ true → (a ≡ true) × (b ≡ true)
and_both true b h = (refl, h)
and_both false b h = absurd (cc h)

pub or_neither : (a b : Bool) → (a || b) ≡ false → (a ≡ false) × (b ≡ false)
or_neither true b h = absurd (cc h)
or_neither false b h = (refl, h)

pub or_both : (a b : Bool) → a ≡ false → b ≡ false → (a || b) ≡ false
or_both true b h k = absurd (cc h)
or_both false b h k = k

pub or_left : (a b : Bool) → a ≡ true → (a || b) ≡ true
or_left true b h = refl
or_left false b h = absurd (cc h)

pub or_right : (a b : Bool) → b ≡ true → (a || b) ≡ true
or_right true b h = refl
or_right false b h = h

pub and_false : (a b : Bool) → b ≡ false → (a && b) ≡ false
and_false true b h = h
and_false false b h = refl

pub not_true : (a : Bool) → not a ≡ true → a ≡ false
not_true true h = absurd (cc h)
not_true false h = refl

pub true_not_false : (b : Bool) → b ≡ true → b ≡ false → ⊥
true_not_false true h k = cc k
true_not_false false h k = cc h

pub cond_true : {A : Type 0} (b : Bool) (x y : A) → b ≡ true → cond b x y ≡ x
cond_true true x y h = refl
cond_true false x y h = absurd (cc h)

pub cond_false : {A : Type 0} (b : Bool) (x y : A) → b ≡ false → cond b x y ≡ y
cond_false true x y h = absurd (cc h)
cond_false false x y h = refl

-- a bare byte is no quote
pub bare_quote : (x : ℕ) → is_bare x ≡ true → nat_eq x 34 ≡ false
bare_quote x h =
    let none = not_true (nat_eq x 32 || nat_eq x 40 || nat_eq x 41 || nat_eq x 34 || nat_eq x 58) h in
    let four = or_neither (nat_eq x 32 || nat_eq x 40 || nat_eq x 41 || nat_eq x 34) (nat_eq x 58) none in
    (or_neither (nat_eq x 32 || nat_eq x 40 || nat_eq x 41) (nat_eq x 34) four.0).1
