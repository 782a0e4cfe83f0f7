-- A text that begins with no brace reads as no object, so such a blob is plain.
use Rattle.std.proofs.Common.{◌≡◌, ℕ, zero, suc, codes, nat_lt, if◌then◌else◌, ◌==◌, ◌||◌, ◌&&◌, Bool, true, false, cond, not, List, [], ◌∷◌, length, drop, Option, Some, None, option_and_then, option_map, unwrap_or, refl, sym, ap, ◌∙◌, subst, inl, inr}
use Rattle.std.specs.Prelude.{nat_eq}
use Rattle.std.specs.List.{find, starts_with}
use Rattle.std.specs.Str.{is_utf8}
use Rattle.std.proofs.lemmas.Bool.{cases_Bool, cond-false, cond_both, eqb-true, false≢true}
use Rattle.std.proofs.lemmas.Option.{same_Some}
use Rattle.json.specs.Token.{Token, begin_object, end_object, begin_array, end_array, key, string, number, boolean, null, bad}
use Rattle.json.specs.Word.{is_operator, is_space, word, literal, number_before, after_number, head, ends_word}
use Rattle.json.specs.Lex.{Lexeme, token, comma, colon, Class, quote, backslash, operator, space, other, class, operator_lexeme, string_token, Place, fresh, between, lex, lex_byte, begins_colon, place_token, punctuate, tokens}
use Rattle.json.specs.Text.{content, plain}
use Rattle.json.specs.Ascii as ascii
use Rattle.json.specs.Json as json
use Rattle.serde_json.specs.Data.{Num, Items, Data}
use Rattle.serde_json.specs.Data as shown
use Rattle.serde_json.specs.Find.{get}
use Rattle.serde_json.specs.Read.{read, of_json, of_items, number_of, max_depth}
use Rattle.json_laws.specs.Json.{json_in, whole_in}
use Rattle.schema_json.specs.Fields.{begins_object, text_at}
use Rattle.schema_json.specs.Facts.{object_kind, schema_kind, known_kind}
use Rattle.schema_fact.specs.declared.kinds.Kind.TheVariants.{Plain, Unread}

abbrev NoBrace : Token → Type 0
NoBrace begin_object = ⊥
NoBrace end_object = Unit {0}
NoBrace begin_array = Unit {0}
NoBrace end_array = Unit {0}
NoBrace (key s) = Unit {0}
NoBrace (string s) = Unit {0}
NoBrace (number s) = Unit {0}
NoBrace (boolean b) = Unit {0}
NoBrace null = Unit {0}
NoBrace bad = Unit {0}

-- no object begins here
abbrev NoObject : List Token → Type 0
NoObject [] = Unit {0}
NoObject (t ∷ ts) = NoBrace t

placed : (t : Token) (b : Bool) (k : Place → List Token) → NoBrace t → NoObject (place_token fresh t b k)
placed begin_object b k h = h
placed end_object b k h = tt
placed begin_array b k h = tt
placed end_array b k h = tt
placed (key s) b k h = tt
placed (string s) true k h = tt
placed (string s) false k h = tt
placed (number s) b k h = tt
placed (boolean v) b k h = tt
placed null b k h = tt
placed bad b k h = tt

abbrev NoBegin : Lexeme → Type 0
NoBegin (token t) = NoBrace t
NoBegin comma = Unit {0}
NoBegin colon = Unit {0}

first : (l : Lexeme) (ls : List Lexeme) → NoBegin l → NoObject (punctuate fresh (l ∷ ls))
unfolding punctuate
first (token t) ls h = placed t (begins_colon ls) (λ next. punctuate next ls) h
first comma ls h = tt
first colon ls h = tt

operators : (x : ℕ) → (x == 123) ≡ false → NoBegin (operator_lexeme x)
operators x h =
    subst NoBegin (sym (cond-false (x == 123) (token begin_object) _ h))
    (cond_both (x == ascii.close_brace) (token end_object) _ NoBegin (λ e. tt)
    (λ e. cond_both (x == ascii.open_bracket) (token begin_array) _ NoBegin (λ e. tt)
    (λ e. cond_both (x == ascii.close_bracket) (token end_array) _ NoBegin (λ e. tt)
    (λ e. cond_both (x == ascii.comma) comma colon NoBegin (λ e. tt) (λ e. tt)))))

literals : (name : List ℕ) (t : Token) (text : List ℕ) → NoBrace t → NoBrace (literal name t text)
literals name t text h = cond_both (starts_with nat_eq text name && ends_word (drop (length name) text)) t bad NoBrace (λ e. h) (λ e. tt)

numbers : (text : List ℕ) (rest : Option (List ℕ)) → NoBrace (number_before text rest)
numbers text None = tt
numbers text (Some rest) = cond_both (ends_word rest) _ bad NoBrace (λ e. tt) (λ e. tt)

words : (text : List ℕ) → NoBrace (word text)
unfolding word
words text =
    cond_both (head text == ascii.lower_t) _ _ NoBrace (λ e. literals ascii.true_text (boolean true) text tt)
    (λ e. cond_both (head text == ascii.lower_f) _ _ NoBrace (λ e. literals ascii.false_text (boolean false) text tt)
    (λ e. cond_both (head text == ascii.lower_n) _ _ NoBrace (λ e. literals ascii.null_text null text tt) (λ e. numbers text (after_number text))))

strings : (o : Option (List ℕ)) → NoBrace (string_token o)
strings None = tt
strings (Some s) = tt

abbrev NotSpace : Class → Type 0
NotSpace quote = Unit {0}
NotSpace backslash = Unit {0}
NotSpace operator = Unit {0}
NotSpace space = ⊥
NotSpace other = Unit {0}

no_space : (x : ℕ) → is_space x ≡ false → NotSpace (class x)
no_space x h =
    cond_both (x == ascii.quote) quote _ NotSpace (λ e. tt)
    (λ e. cond_both (x == ascii.backslash) backslash _ NotSpace (λ e. tt)
    (λ e. cond_both (is_operator x) operator _ NotSpace (λ e. tt)
    (λ e. cond_both (is_space x) space other NotSpace (λ t. absurd (false≢true (sym h ∙ t))) (λ e. tt))))

one_of : {P : Type 0} (a b c d : Bool) → (a || b || c || d) ≡ true → (a ≡ true → P) → (b ≡ true → P) → (c ≡ true → P) → (d ≡ true → P) → P
one_of true b c d h f g i j = f refl
one_of false true c d h f g i j = g refl
one_of false false true d h f g i j = i refl
one_of false false false true h f g i j = j refl
one_of false false false false h f g i j = absurd (false≢true h)

spaces : (x : ℕ) → is_space x ≡ true → class x ≡ space
spaces x h = one_of (x == 32) (x == 9) (x == 10) (x == 13) h
    (λ e. ap class (eqb-true x 32 e))
    (λ e. ap class (eqb-true x 9 e))
    (λ e. ap class (eqb-true x 10 e))
    (λ e. ap class (eqb-true x 13 e))

others : (x : ℕ) (xs : List ℕ) (c : Class) → NotSpace c → (x == 123) ≡ false → NoObject (punctuate fresh (lex_byte between c x xs (λ m. lex m xs)))
others x xs quote n h = first (token (string_token (content plain xs))) _ (strings (content plain xs))
others x xs backslash n h = first (token bad) _ tt
others x xs operator n h = first (operator_lexeme x) _ (operators x h)
others x xs space n h = absurd n
others x xs other n h = first (token (word (x ∷ xs))) _ (words (x ∷ xs))

no_object : (text : List ℕ) → begins_object text ≡ false → NoObject (tokens text)
unfolding lex punctuate
no_object [] h = tt
no_object (x ∷ xs) h =
    let now : Bool → Bool = λ b. unwrap_or (option_map (λ c. c == 123) (cond (not b) (Some x) (find (λ c. not (is_space c)) xs))) false in
    elim (cases_Bool (is_space x)) [
      | inl s ↦ subst (λ c. NoObject (punctuate fresh (lex_byte between c x xs (λ m. lex m xs)))) (sym (spaces x s)) (no_object xs (sym (ap now s) ∙ h))
      | inr s ↦ others x xs (class x) (no_space x s) (sym (ap now s) ∙ h)
    ]

abbrev NotObject : Option (json.Json × List Token) → Type 0
NotObject None = Unit {0}
NotObject (Some (json.null, ts)) = Unit {0}
NotObject (Some (json.boolean b, ts)) = Unit {0}
NotObject (Some (json.number s, ts)) = Unit {0}
NotObject (Some (json.string s, ts)) = Unit {0}
NotObject (Some (json.array js, ts)) = Unit {0}
NotObject (Some (json.object ms, ts)) = ⊥

arrays : (r : Option (json.Items × List Token)) → NotObject (json.parse_map json.array r)
arrays None = tt
arrays (Some p) = tt

by_token : (a : json.Parse json.Items) (o : json.Parse json.Members) (ts : List Token) → NoObject ts → NotObject (json.value_with a o ts)
by_token a o [] h = tt
by_token a o (begin_object ∷ ts) h = absurd h
by_token a o (end_object ∷ ts) h = tt
by_token a o (begin_array ∷ ts) h = arrays (a ts)
by_token a o (end_array ∷ ts) h = tt
by_token a o (key s ∷ ts) h = tt
by_token a o (string s ∷ ts) h = tt
by_token a o (number s ∷ ts) h = tt
by_token a o (boolean b ∷ ts) h = tt
by_token a o (null ∷ ts) h = tt
by_token a o (bad ∷ ts) h = tt

values : (n : ℕ) (ts : List Token) → NoObject ts → NotObject (json.value n ts)
unfolding json.value
values zero ts h = by_token (λ us. None) (λ us. None) ts h
values (suc n) ts h = by_token (λ us. json.items (json.value n) (length us) us) (λ us. json.members (json.value n) (length us) us) ts h

nothing : {A P : Type 0} (a : A) → None ≡ Some a → P
nothing a e = absurd (cc)

module _ (k : List ℕ) where
  abbrev NoKey : Data → Type 0
  NoKey d = get k d ≡ None

  as_number : (o : Option Num) (d : Data) → option_map shown.number o ≡ Some d → NoKey d
  as_number None d e = nothing d e
  as_number (Some n) d e = subst NoKey (same_Some (shown.number n) d e) refl

  as_array : (o : Option Items) (d : Data) → option_map shown.array o ≡ Some d → NoKey d
  as_array None d e = nothing d e
  as_array (Some ds) d e = subst NoKey (same_Some (shown.array ds) d e) refl

  converted : (o : Option (json.Json × List Token)) (d : Data) → NotObject o → option_and_then of_json (option_and_then (λ p. json.if_last p.0 p.1) o) ≡ Some d → NoKey d
  converted None d h e = nothing d e
  converted (Some (json.null, [])) d h e = subst NoKey (same_Some shown.null d e) refl
  converted (Some (json.boolean b, [])) d h e = subst NoKey (same_Some (shown.boolean b) d e) refl
  converted (Some (json.number s, [])) d h e = as_number (number_of s) d e
  converted (Some (json.string s, [])) d h e = subst NoKey (same_Some (shown.string s) d e) refl
  converted (Some (json.array js, [])) d h e = as_array (of_items js) d e
  converted (Some (json.object ms, [])) d h e = absurd h
  converted (Some (j, t ∷ ts)) d h e = nothing d e

  no_key : (text : List ℕ) (d : Data) → begins_object text ≡ false → read text ≡ Some d → get k d ≡ None
  no_key text d h e = converted (json.value max_depth (tokens text)) d (values max_depth (tokens text) (no_object text h)) e

read_of : (b : Bool) (o : Option Data) (d : Data) → cond b o None ≡ Some d → o ≡ Some d
read_of true o d e = e
read_of false o d e = nothing d e

-- the type of an object with this version
abbrev typed : Data → Option Data → Option (List ℕ)
typed d version = option_and_then (λ version. if version == 1 then text_at (codes "camliType") d else None) (option_and_then whole_in version)

plain_kind : (blob : List ℕ) → begins_object blob ≡ false → (o : Option Data) → json_in blob ≡ o → unwrap_or (option_map (object_kind blob) o) Plain ≡ Plain
plain_kind blob h None e = refl
plain_kind blob h (Some d) e =
    let is : read blob ≡ Some d = read_of (is_utf8 blob) (read blob) d e in
    ap (λ (o : Option Data). unwrap_or (option_map (λ type. unwrap_or (known_kind type blob d) (Unread type)) (typed d o)) Plain) (no_key (codes "camliVersion") blob d h is)

pub plain_begins : (blob : List ℕ) → false ≡ begins_object blob → Plain ≡ schema_kind blob
plain_begins blob h = cond_both (nat_lt 1048576 (length blob)) Plain _ (λ k. Plain ≡ k) (λ e. refl) (λ e. sym (plain_kind blob (sym h) (json_in blob) refl))
