-- The text of a ref is in UTF-8.
use Rattle.std.proofs.Common.{◌≡◌, ◌<◌, ℕ, Bool, nat_lt, zero, suc, true, List, [], ◌∷◌, inl, inr, refl, sym, subst}
use Rattle.std.proofs.Common.{arith}
use Rattle.std.proofs.lemmas.Bool.{and_parts}
use Rattle.std.proofs.lemmas.Str.{IsUtf8-append, IsUtf8-from_ascii}
use Rattle.std.specs.List.{list_all}
use Rattle.std.specs.Str.{IsUtf8, IsAscii}
use Rattle.blobref.specs.Blobref.{is_blobref, is_lower_digit, sha1_name, sha224_name}
use Rattle.blobref.proofs.Spelled.{blobref_parts}
use Rattle.std.proofs.lemmas.Bool.Decides.{nat_tests}

low : (c : ℕ) → nat_lt c 128 ≡ true → c < 128
low c h = grind (arith, nat_tests)

digit_ascii : (c : ℕ) → is_lower_digit c ≡ true → nat_lt c 128 ≡ true
digit_ascii c h = grind (arith, nat_tests)

are_ascii : (p : ℕ → Bool) → ((c : ℕ) → p c ≡ true → nat_lt c 128 ≡ true) → (bytes : List ℕ) → list_all p bytes ≡ true
    → IsAscii bytes
are_ascii p each [] h i = omega arith
are_ascii p each (c ∷ cs) h zero = low c (each c (and_parts (p c) (list_all p cs) h).0)
are_ascii p each (c ∷ cs) h (suc i) = are_ascii p each cs (and_parts (p c) (list_all p cs) h).1 i

pub blobref_utf8 : (r : List ℕ) → is_blobref r ≡ true → IsUtf8 r
blobref_utf8 r h =
    let parts = blobref_parts r h in
    let name : IsUtf8 parts.name =
    elim parts.form [
      | inl f ↦ subst IsUtf8 (sym f.0) (IsUtf8-from_ascii sha1_name
          (are_ascii (λ c. nat_lt c 128) (λ c h. h) sha1_name refl))
      | inr f ↦ subst IsUtf8 (sym f.0) (IsUtf8-from_ascii sha224_name
          (are_ascii (λ c. nat_lt c 128) (λ c h. h) sha224_name refl))
    ] in
    subst IsUtf8 (sym parts.whole)
    (IsUtf8-append parts.name parts.digits name (IsUtf8-from_ascii parts.digits
    (are_ascii is_lower_digit digit_ascii parts.digits parts.lower)))
