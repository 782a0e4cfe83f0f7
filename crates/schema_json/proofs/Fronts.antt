-- The lexemes of a text with a brace behind it: where none is bad, none of the text is.
use Rattle.std.proofs.Common.{◌≡◌, ℕ, zero, suc, ◌≤◌, true, List, [], ◌∷◌, ◌++◌, length, drop, get_or, Option, Some, None, refl, sym, ap, ◌∙◌, subst, arith}
use Rattle.std.proofs.lemmas.Bool.{false≢true}
use Rattle.std.proofs.lemmas.List.{length-append}
use Rattle.json.specs.Token.{Token}
use Rattle.json.specs.Text.{plain, content}
use Rattle.json.specs.Word.{ends_word, word}
use Rattle.json.specs.Lex.{Lexeme, token, Class, quote, backslash, operator, space, other, class, string_token, Mode, between, in_word, in_string, lex, lex_byte}
use Rattle.json.specs.Align.{is_good}
use Rattle.json_laws.proofs.Strings.{closed}
use Rattle.json_laws.proofs.Words.{word_parts, Parts}
use Rattle.json_laws.proofs.Lexed.{AreGood, operated, spaced}
use Rattle.schema_json.proofs.Opened.{opened}

abbrev Brace : List ℕ
Brace = 125 ∷ []

quoted_text : (x : ℕ) (xs : List ℕ) → class x ≡ quote → lex between (x ∷ xs) ≡ token (string_token (content plain xs)) ∷ lex in_string xs
unfolding lex
quoted_text x xs e = ap (λ c. lex_byte between c x xs (λ m. lex m xs)) e

slashed : (x : ℕ) (xs : List ℕ) → class x ≡ backslash → lex between (x ∷ xs) ≡ token Token.bad ∷ lex in_word xs
unfolding lex
slashed x xs e = ap (λ c. lex_byte between c x xs (λ m. lex m xs)) e

worded : (x : ℕ) (xs : List ℕ) → class x ≡ other → lex between (x ∷ xs) ≡ token (word (x ∷ xs)) ∷ lex in_word xs
unfolding lex
worded x xs e = ap (λ c. lex_byte between c x xs (λ m. lex m xs)) e

nothing : lex between [] ≡ []
unfolding lex
nothing = refl

found : (o : Option (List ℕ)) → is_good (string_token o) ≡ true → (s : List ℕ) × (o ≡ Some s)
found None h = absurd (false≢true h)
found (Some s) h = (s, refl)

-- ---- a lexeme is left before a brace

abbrev Empty : Mode → List ℕ → Type 0
Empty m xs = lex m (xs ++ Brace) ≡ []

out : (l : Lexeme) (ls : List Lexeme) → l ∷ ls ≡ [] → ⊥
out l ls e = absurd (cc)

from_between : (c : Class) (x : ℕ) (ys : List ℕ) (k : Mode → List Lexeme) → (k between ≡ [] → ⊥) → lex_byte between c x ys k ≡ [] → ⊥
from_between quote x ys k h e = out _ _ e
from_between backslash x ys k h e = out _ _ e
from_between operator x ys k h e = out _ _ e
from_between space x ys k h e = h e
from_between other x ys k h e = out _ _ e

from_word : (c : Class) (x : ℕ) (ys : List ℕ) (k : Mode → List Lexeme) → (k between ≡ [] → ⊥) → (k in_word ≡ [] → ⊥) → lex_byte in_word c x ys k ≡ [] → ⊥
from_word quote x ys k h g e = g e
from_word backslash x ys k h g e = g e
from_word operator x ys k h g e = out _ _ e
from_word space x ys k h g e = h e
from_word other x ys k h g e = g e

some_between : (xs : List ℕ) → Empty between xs → ⊥
unfolding lex
some_between [] e = out _ _ e
some_between (x ∷ xs) e = from_between (class x) x (xs ++ Brace) (λ m. lex m (xs ++ Brace)) (some_between xs) e

some_word : (xs : List ℕ) → Empty in_word xs → ⊥
unfolding lex
some_word [] e = out _ _ e
some_word (x ∷ xs) e = from_word (class x) x (xs ++ Brace) (λ m. lex m (xs ++ Brace)) (some_between xs) (some_word xs) e

-- ---- a text that ends with a brace, in two parts

tail : {A : Type 0} → List A → List A
tail xs = drop 1 xs

no_more : (f rest : List ℕ) → [] ≡ f ++ rest → rest ≡ []
no_more [] rest e = sym e
no_more (x ∷ f) rest e = absurd (let p : [] ≡ x ∷ (f ++ rest) = e in cc p)

parted : (a f rest : List ℕ) → a ++ Brace ≡ f ++ rest → (rest ≡ [] → ⊥) → (u : List ℕ) × (rest ≡ u ++ Brace) × (a ≡ f ++ u)
parted a [] rest e some = (a, sym e, refl)
parted [] (y ∷ f) rest e some = absurd (some (no_more f rest (ap (drop 1) e)))
parted (x ∷ a) (y ∷ f) rest e some =
    let p = parted a f rest (ap (drop 1) e) some in
    let head : x ≡ y = ap (λ l. get_or l 0 0) e in
    (p.0, p.1, λ i. head i ∷ p.2 i)

ended_before : (u : List ℕ) → ends_word (u ++ Brace) ≡ true → ends_word u ≡ true
ended_before [] h = refl
ended_before (x ∷ u) h = h

-- ---- goodness

abbrev Good_front : List ℕ → Type 0
Good_front t = AreGood (lex between (t ++ Brace)) → AreGood (lex between t)

by_word : (n : ℕ) → ((t : List ℕ) → length t ≤ n → Good_front t) → (x : ℕ) (xs : List ℕ) → length xs ≤ n → class x ≡ other → (p : Parts (x ∷ (xs ++ Brace)))
    → (rest : List ℕ) → p.rest ≡ rest → Good_front (x ∷ xs)
by_word n again x xs le e p [] is good =
    let whole : lex between (x ∷ (xs ++ Brace)) ≡ token p.word ∷ [] =
    ap (lex between) (p.is ∙ ap (λ l. p.front ++ l) is) ∙ p.lexed [] refl ∙ ap (λ l. token p.word ∷ l) nothing in
    absurd (some_word xs (ap (drop 1) (sym (worded x (xs ++ Brace) e) ∙ whole)))
by_word n again x xs le e p (y ∷ ys) is good =
    let q = parted (x ∷ xs) p.front p.rest p.is (λ none. absurd (let c : y ∷ ys ≡ [] = sym is ∙ none in cc c)) in
    let u = q.0 in
    let ended : ends_word u ≡ true = ended_before u (ap ends_word (sym q.1) ∙ p.ended) in
    let there : lex between (x ∷ (xs ++ Brace)) ≡ token p.word ∷ lex between (u ++ Brace) =
    ap (lex between) p.is ∙ p.lexed p.rest p.ended ∙ ap (λ l. token p.word ∷ lex between l) q.1 in
    let here : lex between (x ∷ xs) ≡ token p.word ∷ lex between u = ap (lex between) q.2 ∙ p.lexed u ended in
    let all = subst AreGood there good in
    let some = p.some in
    let len = ap length q.2 in
    let sum = length-append p.front u in
    subst AreGood (sym here) (all.0, again u (omega (arith, len, sum, some, le)) all.1)

by_class : (n : ℕ) → ((t : List ℕ) → length t ≤ n → Good_front t) → (x : ℕ) (xs : List ℕ) → length xs ≤ n → (c : Class) → class x ≡ c → Good_front (x ∷ xs)
by_class n again x xs le quote e good =
    let all = subst AreGood (quoted_text x (xs ++ Brace) e) good in
    let s = found (content plain (xs ++ Brace)) all.0 in
    let o = opened plain xs s.0 s.1 in
    let k = closed Brace plain xs o.0 o.1 in
    let shorter = k.shorter in
    subst AreGood (sym (quoted_text x xs e))
    (ap (λ c. is_good (string_token c)) o.1, subst AreGood (sym k.here) (again k.rest (omega (arith, shorter, le)) (subst AreGood k.there all.1)))
by_class n again x xs le backslash e good = absurd (false≢true (subst AreGood (slashed x (xs ++ Brace) e) good).0)
by_class n again x xs le operator e good =
    let all = subst AreGood (operated x (xs ++ Brace) e) good in
    subst AreGood (sym (operated x xs e)) (all.0, again xs le all.1)
by_class n again x xs le space e good = subst AreGood (sym (spaced x xs e)) (again xs le (subst AreGood (spaced x (xs ++ Brace) e) good))
by_class n again x xs le other e good =
    let p = word_parts (x ∷ (xs ++ Brace)) (subst AreGood (worded x (xs ++ Brace) e) good).0 in
    by_word n again x xs le e p p.rest refl good

fronts : (n : ℕ) (t : List ℕ) → length t ≤ n → Good_front t
fronts n [] le good = subst AreGood (sym nothing) tt
fronts zero (x ∷ xs) le good = absurd (omega arith)
fronts (suc n) (x ∷ xs) le good = by_class n (fronts n) x xs (omega arith) (class x) refl good

pub front_good : (t : List ℕ) → AreGood (lex between (t ++ 125 ∷ [])) → AreGood (lex between t)
front_good t good = fronts (length t) t (omega arith) good
