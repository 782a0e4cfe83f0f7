-- What the front of a body tells, the whole body tells first.
use Rattle.std.proofs.Common.{◌≡◌, Bool, true, false, ◌&&◌, nat_eq, List, [], ◌∷◌, ◌++◌, refl, sym, ap, subst, ◌∙◌}
use Rattle.std.proofs.Common.{append_assoc, flat_map}
use Rattle.std.specs.Cmp.Lexicographic.{pointwise, same_text, nat_list_eq_equiv}
use Rattle.std.proofs.lemmas.Bool.{false≢true, true_from_ne_false, and_parts, and_from, eqb-true, eq-eqb}
use Rattle.multipart_read.specs.Tokens.{Token, named, byte, ended}
use Rattle.multipart_read.specs.Reader.{IsBody}
use Rattle.multipart_read.specs.PartLists.{part_tokens}
use Rattle.multipart_read.proofs.Unique.{one_reading}
use Rattle.multipart_read.proofs.Existing.{some_reading}
use Rattle.blob_upload.specs.Laws.{ToldFirst}

-- ---- whether a list of tokens begins with another

abbrev is_token : Token → Token → Bool
is_token (named a) (named b) = pointwise nat_eq a b
is_token (byte a) (byte b) = nat_eq a b
is_token ended ended = true
is_token (named a) (byte b) = false
is_token (named a) ended = false
is_token (byte a) (named b) = false
is_token (byte a) ended = false
is_token ended (named b) = false
is_token ended (byte b) = false

token_itself : (t : Token) → is_token t t ≡ true
token_itself (named a) = nat_list_eq_equiv.refl a
token_itself (byte a) = eq-eqb a a refl
token_itself ended = refl

same_token : (s t : Token) → is_token s t ≡ true → s ≡ t
same_token (named a) (named b) e = ap (λ n. named n) (same_text a b (sym e))
same_token (byte a) (byte b) e = ap (λ n. byte n) (eqb-true a b e)
same_token ended ended e = refl
same_token (named a) (byte b) e = absurd (false≢true e)
same_token (named a) ended e = absurd (false≢true e)
same_token (byte a) (named b) e = absurd (false≢true e)
same_token (byte a) ended e = absurd (false≢true e)
same_token ended (named b) e = absurd (false≢true e)
same_token ended (byte b) e = absurd (false≢true e)

abbrev begins : List Token → List Token → Bool
begins [] ts = true
begins (s ∷ ss) [] = false
begins (s ∷ ss) (t ∷ ts) = is_token s t && begins ss ts

begins_itself : (ss ts : List Token) → begins ss (ss ++ ts) ≡ true
begins_itself [] ts = refl
begins_itself (s ∷ ss) ts = and_from (is_token s s) (begins ss (ss ++ ts)) (token_itself s) (begins_itself ss ts)

rest_of : (ss ts : List Token) → begins ss ts ≡ true → (later : List Token) × (ts ≡ ss ++ later)
rest_of [] ts e = (ts, refl)
rest_of (s ∷ ss) [] e = absurd (false≢true e)
rest_of (s ∷ ss) (t ∷ ts) e =
    let both = and_parts (is_token s t) (begins ss ts) e in
    let rest = rest_of ss ts (both.1) in
    (rest.0, λ i. sym (same_token s t (both.0)) i ∷ rest.1 i)

-- ---- the law

pub told_first : ToldFirst
told_first boundary given parts after t more tokens end is =
    let told : List Token = flat_map part_tokens parts ++ after in
    let whole : given ++ more ≡ t.fed ++ (t.rest ++ more) = ap (λ l. l ++ more) t.whole
    ∙ append_assoc t.fed t.rest more in
    let body : IsBody boundary (t.fed ++ (t.rest ++ more)) tokens end =
    subst (λ l. IsBody boundary l tokens end) whole is in
    rest_of told tokens (true_from_ne_false (begins told tokens) (λ no.
    some_reading t.reader (t.rest ++ more) (λ later last gives.
    let other = t.tells (t.rest ++ more) later last gives in
    let same = one_reading boundary (t.fed ++ (t.rest ++ more)) (told ++ later) tokens last end other body in
    false≢true (sym no ∙ ap (begins told) (sym (same.0)) ∙ begins_itself told later))))
