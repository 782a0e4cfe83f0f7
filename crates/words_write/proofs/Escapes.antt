-- Texts between quotes, character by character.
use Rattle.std.proofs.Common.{◌≡◌, ℕ, Bool, true, false, cond, List, [], ◌∷◌, ◌++◌, refl, sym, ap, ◌∙◌}
use Rattle.std.proofs.lemmas.Bool.{ltb-true, ltb-false}
use Rattle.std.proofs.lemmas.List.{append_assoc}
use Rattle.std.proofs.lemmas.Str.{encode_ascii}
use Rattle.std.specs.Char.{is_ascii, encode_utf8}
use Rattle.search_words.specs.Grammar.{is_escaped}
use Rattle.search_words.proofs.Tests.{cond_false}
use Rattle.search_words.proofs.Wide.{IsWide, no_more, one_more, wide_escaped, wide_bytes}
use Rattle.words_write.specs.Writing.{escaped_text}
use Rattle.words_write.specs.Pushing.{escaped_char}

escaped_wide : {xs : List ℕ} → IsWide xs → (rest : List ℕ) → escaped_text (xs ++ rest) ≡ xs ++ escaped_text rest
escaped_wide no_more rest = refl
escaped_wide (one_more {x} {xs} h r) rest =
    cond_false (is_escaped x) (92 ∷ x ∷ escaped_text (xs ++ rest)) (x ∷ escaped_text (xs ++ rest)) (wide_escaped x h)
    ∙ ap (λ l. x ∷ l) (escaped_wide r rest)

ascii_escaped : (c : ℕ) (rest : List ℕ) (b : Bool) → encode_utf8 c ≡ c ∷ []
    → cond b (92 ∷ c ∷ escaped_text rest) (c ∷ escaped_text rest)
    ≡ cond b (92 ∷ encode_utf8 c) (encode_utf8 c) ++ escaped_text rest
ascii_escaped c rest true one = sym (ap (λ l. (92 ∷ l) ++ escaped_text rest) one)
ascii_escaped c rest false one = sym (ap (λ l. l ++ escaped_text rest) one)

pub escaped_next : (c : ℕ) (rest : List ℕ) → escaped_text (encode_utf8 c ++ rest) ≡ escaped_char c ++ escaped_text rest
escaped_next c rest = by (is_ascii c) refl
  where
    by : (b : Bool) → is_ascii c ≡ b → escaped_text (encode_utf8 c ++ rest) ≡ escaped_char c ++ escaped_text rest
    by true e =
        let one = encode_ascii c (ltb-true c 128 e) in
        ap (λ l. escaped_text (l ++ rest)) one ∙ ascii_escaped c rest (is_escaped c) one
    by false e =
        let h = ltb-false c 128 e in
        escaped_wide (wide_bytes c h) rest
        ∙ sym (ap (λ l. l ++ escaped_text rest)
        (cond_false (is_escaped c) (92 ∷ encode_utf8 c) (encode_utf8 c) (wide_escaped c h)))

-- so far, and what is left, give the whole
pub escaped_on : (whole now next left rest : List ℕ) (c : ℕ) → now ++ escaped_text left ≡ whole
    → left ≡ encode_utf8 c ++ rest → next ≡ now ++ escaped_char c
    → next ++ escaped_text rest ≡ whole
escaped_on whole now next left rest c h e k =
    ap (λ l. l ++ escaped_text rest) k ∙ append_assoc now (escaped_char c) (escaped_text rest)
    ∙ ap (λ l. now ++ l) (sym (escaped_next c rest) ∙ ap escaped_text (sym e)) ∙ h
