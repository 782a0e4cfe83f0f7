-- A string that closes in a text with a brace behind it closes before the brace.
use Rattle.std.proofs.Common.{◌≡◌, ℕ, Bool, true, false, cond, ◌&&◌, ◌==◌, nat_lt, List, [], ◌∷◌, ◌++◌, Option, Some, None, option_and_then, refl, ap, ◌∙◌}
use Rattle.std.specs.Char.{encode_utf8}
use Rattle.json.specs.Text.{code_unit, short_escape, is_high_surrogate, is_low_surrogate, surrogate_pair, Within, plain, after_backslash, after_u, after_high, prepend, content}

no : {A P : Type 0} (a : A) → None ≡ Some a → P
no a e = absurd (cc)

by : {P : Type 0} (b : Bool) → (b ≡ true → P) → (b ≡ false → P) → P
by true f g = f refl
by false f g = g refl

-- what is taken from a string's content by `prepend`
taken : (bytes s : List ℕ) (o : Option (List ℕ)) → prepend bytes o ≡ Some s → (u : List ℕ) × (o ≡ Some u)
taken bytes s None e = no s e
taken bytes s (Some u) e = (u, refl)

then : (o : Option ℕ) (f : ℕ → Option (List ℕ)) (s : List ℕ) → option_and_then f o ≡ Some s → (u : ℕ) × (o ≡ Some u) × (f u ≡ Some s)
then None f s e = no s e
then (Some u) f s e = (u, refl, e)

on : {A B : Type 0} → A → (A → B) → B
on a f = f a

-- the string has a content
abbrev pub Closes : Within → List ℕ → Type 0
Closes w xs = (s : List ℕ) × (content w xs ≡ Some s)

-- the second of a pair of surrogates
abbrev paired : ℕ → Option ℕ → List ℕ → Option (List ℕ)
paired h unit xs = option_and_then (λ l. cond (is_low_surrogate l) (prepend (encode_utf8 (surrogate_pair h l)) (content plain xs)) None) unit

high : (h : ℕ) (unit : Option ℕ) (xs s : List ℕ) → ((s : List ℕ) → content plain (xs ++ 125 ∷ []) ≡ Some s → Closes plain xs) → paired h unit (xs ++ 125 ∷ []) ≡ Some s → (t : List ℕ) × (paired h unit xs ≡ Some t)
high h None xs s again e = no s e
high h (Some l) xs s again e = by (is_low_surrogate l)
    (λ low.
    on (taken (encode_utf8 (surrogate_pair h l)) s (content plain (xs ++ 125 ∷ [])) (rw low at e)) (λ t.
    on (again t.0 t.1) (λ o. (encode_utf8 (surrogate_pair h l) ++ o.0, rw low (ap (prepend (encode_utf8 (surrogate_pair h l))) o.1)))))
    (λ low. no s (rw low at e))

pub opened : (w : Within) (xs s : List ℕ) → content w (xs ++ 125 ∷ []) ≡ Some s → Closes w xs
unfolding content
opened plain [] s e = no s e
opened plain (x ∷ xs) s e =
    by (x == 34)
    (λ q. ([], rw q refl))
    (λ q. by (x == 92)
    (λ b. on (opened after_backslash xs s (rw (q, b) at e)) (λ o. (o.0, rw (q, b) o.1)))
    (λ b. by (nat_lt x 32)
    (λ l. no s (rw (q, b, l) at e))
    (λ l.
    let t = taken (x ∷ []) s (content plain (xs ++ 125 ∷ [])) (rw (q, b, l) at e) in
    on (opened plain xs t.0 t.1) (λ o. (x ∷ o.0, rw (q, b, l) (ap (prepend (x ∷ [])) o.1))))))
opened after_backslash [] s e =
    let f = then (short_escape 125) (λ c. prepend (c ∷ []) (content plain [])) s e in
    no s f.2
opened after_backslash (x ∷ xs) s e =
    by (x == 117)
    (λ u. on (opened after_u xs s (rw u at e)) (λ o. (o.0, rw u o.1)))
    (λ u.
    let f = then (short_escape x) (λ c. prepend (c ∷ []) (content plain (xs ++ 125 ∷ []))) s (rw u at e) in
    let t = taken (f.0 ∷ []) s (content plain (xs ++ 125 ∷ [])) f.2 in
    on (opened plain xs t.0 t.1) (λ o. (f.0 ∷ o.0, rw u (ap (option_and_then (λ d. prepend (d ∷ []) (content plain xs))) f.1 ∙ ap (prepend (f.0 ∷ [])) o.1))))
opened after_u [] s e = no s e
opened after_u (a ∷ []) s e = no s e
opened after_u (a ∷ b ∷ []) s e = no s e
opened after_u (a ∷ b ∷ c ∷ []) s e =
    let f = then (code_unit a b c 125) _ s e in
    by (is_high_surrogate f.0)
    (λ h. no s (rw h at f.2))
    (λ h. by (is_low_surrogate f.0) (λ l. no s (rw (h, l) at f.2)) (λ l. no s (rw (h, l) at f.2)))
opened after_u (a ∷ b ∷ c ∷ d ∷ xs) s e =
    on (then (code_unit a b c d) (λ u. cond (is_high_surrogate u) (content (after_high u) (xs ++ 125 ∷ [])) (cond (is_low_surrogate u) None (prepend (encode_utf8 u) (content plain (xs ++ 125 ∷ []))))) s e)
    (λ f. by (is_high_surrogate f.0)
    (λ h. on (opened (after_high f.0) xs s (rw h at f.2)) (λ o. (o.0, rw f.1 (rw h o.1))))
    (λ h. by (is_low_surrogate f.0)
    (λ l. no s (rw (h, l) at f.2))
    (λ l.
    on (taken (encode_utf8 f.0) s (content plain (xs ++ 125 ∷ [])) (rw (h, l) at f.2)) (λ t.
    on (opened plain xs t.0 t.1) (λ o. (encode_utf8 f.0 ++ o.0, rw f.1 (rw (h, l) (ap (prepend (encode_utf8 f.0)) o.1))))))))
opened (after_high h) [] s e = no s e
opened (after_high h) (x ∷ []) s e = no s e
opened (after_high h) (x ∷ u ∷ []) s e = no s e
opened (after_high h) (x ∷ u ∷ a ∷ []) s e = no s e
opened (after_high h) (x ∷ u ∷ a ∷ b ∷ []) s e = no s e
opened (after_high h) (x ∷ u ∷ a ∷ b ∷ c ∷ []) s e =
    by ((x == 92) && (u == 117))
    (λ p.
    let e' = rw p at e in
    let f = then (code_unit a b c 125) _ s e' in
    by (is_low_surrogate f.0) (λ low. no s (rw low at f.2)) (λ low. no s (rw low at f.2)))
    (λ p. no s (rw p at e))
opened (after_high h) (x ∷ u ∷ a ∷ b ∷ c ∷ d ∷ xs) s e =
    by ((x == 92) && (u == 117))
    (λ p. on (high h (code_unit a b c d) xs s (opened plain xs) (rw p at e)) (λ o. (o.0, rw p o.1)))
    (λ p. no s (rw p at e))
