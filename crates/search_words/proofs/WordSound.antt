-- What is read byte by byte is a word.
use Rattle.std.proofs.Common.{◌≡◌, ◌≢◌, ℕ, zero, suc, Bool, true, false, cond, ◌&&◌, ◌||◌, List, [], ◌∷◌, ◌++◌, codes, nat_eq, refl, sym, ap, subst, ◌∙◌, Option, Some, None}
use Rattle.std.proofs.lemmas.List.{append_assoc, append-nil}
use Rattle.std.proofs.lemmas.List.Folds.{list_all-append}
use Rattle.std.proofs.lemmas.Bool.{and_from, eqb-true}
use Rattle.std.specs.Char.{is_ascii}
use Rattle.std.specs.List.{list_all}
use Rattle.blobref.specs.Blobref.{is_blobref}
use Rattle.search_query.specs.Mirror.{Asked}
use Rattle.search_words.specs.Asking.{children_of}
use Rattle.search_words.specs.Grammar.{is_bare, is_escaped, IsWithin, nothing, plain, escaped, IsText, bare, quoted, IsWord, tag, title, attr, has, ref, childrenof}
use Rattle.search_words.specs.Words.{Use, of_tag, of_title, of_name, of_value, of_has, of_ref, Aim, a_text, a_ref, Place, begins, in_t, spelling, text_begins, in_bare, in_quoted, in_escape, quoted_ends, in_ref, may_end, is_ref_front, first_letter, after_t, reached, past, word_step, word_run, word_asks, asks, then_on}
use Rattle.search_words.proofs.Tests.{and_both, cond_true, cond_false, or_both}

-- a value of a choice comes from one side
pub if_some : {A : Type 0} {P : Type 0} (b : Bool) (x y : Option A) (q : A) → cond b x y ≡ Some q
    → (b ≡ true → x ≡ Some q → P) → (b ≡ false → y ≡ Some q → P) → P
if_some true x y q h t f = t refl h
if_some false x y q h t f = f refl h

within_append : {t v u w : List ℕ} → IsWithin t v → IsWithin u w → IsWithin (t ++ u) (v ++ w)
within_append nothing s = s
within_append (plain x h r) s = plain x h (within_append r s)
within_append (escaped x h r) s = escaped x h (within_append r s)

-- what stands before a text
abbrev pub Heads : Use → List ℕ → Type 0
Heads of_tag h = h ≡ codes "tag:"
Heads of_title h = h ≡ codes "title:"
Heads of_name h = h ≡ codes "attr:"
Heads (of_value n) h = (name : List ℕ) × IsText name n × (n ≢ []) × (h ≡ codes "attr:" ++ (name ++ 58 ∷ []))
Heads of_has h = h ≡ codes "has:"
Heads of_ref h = h ≡ codes "ref:"

-- a text that may end, after its head
pub record TextRead (u : Use) (v : List ℕ) (f : List ℕ) : Type 0 where
  pub head : List ℕ
  pub text : List ℕ
  pub heads : Heads u head
  pub is_text : IsText text v
  pub ends : may_end u v ≡ true
  pub whole : f ≡ head ++ text

pub record BareRead (u : Use) (v : List ℕ) (f : List ℕ) : Type 0 where
  pub head : List ℕ
  pub heads : Heads u head
  pub some : v ≢ []
  pub all : list_all is_bare v ≡ true
  pub whole : f ≡ head ++ v

pub record QuotedRead (u : Use) (v : List ℕ) (f : List ℕ) : Type 0 where
  pub head : List ℕ
  pub within : List ℕ
  pub heads : Heads u head
  pub is_within : IsWithin within v
  pub whole : f ≡ head ++ 34 ∷ within

-- what was read where the reading of a word stands
abbrev pub Read : Place → List ℕ → Type 0
Read begins f = f ≡ []
Read in_t f = f ≡ 116 ∷ []
Read (spelling y ys (a_text u)) f = Heads u (f ++ y ∷ ys) × (list_all is_ascii (y ∷ ys) ≡ true)
Read (spelling y ys a_ref) f = (f ++ y ∷ ys ≡ codes "childrenof:") × (list_all is_ascii (y ∷ ys) ≡ true)
Read (text_begins u) f = Heads u f
Read (in_bare u v) f = BareRead u v f
Read (in_quoted u v) f = QuotedRead u v f
Read (in_escape u v) f = (g : List ℕ) × QuotedRead u v g × (f ≡ g ++ 92 ∷ [])
Read (quoted_ends u v) f = TextRead u v f
Read (in_ref r) f = (f ≡ codes "childrenof:" ++ r) × (is_ref_front r ≡ true)

some_ends : (u : Use) (v : List ℕ) → v ≢ [] → may_end u v ≡ true
some_ends u [] h = absurd (h refl)
some_ends of_tag (x ∷ v) h = refl
some_ends of_title (x ∷ v) h = refl
some_ends of_name (x ∷ v) h = refl
some_ends (of_value n) (x ∷ v) h = refl
some_ends of_has (x ∷ v) h = refl
some_ends of_ref (x ∷ v) h = refl

bare_text : {u : Use} {v f : List ℕ} → BareRead u v f → TextRead u v f
bare_text {u} {v} r =
    record {
      head = r.head;
      text = v;
      heads = r.heads;
      is_text = bare v r.some r.all;
      ends = some_ends u v r.some;
      whole = r.whole;
    }

abbrev At : List ℕ → Place → Type 0
At f q = Read q f

moved : {p q : Place} (f : List ℕ) → Some p ≡ Some q → Read p f → Read q f
moved {p} {q} f e r = let same : p ≡ q = cc e in subst (At f) same r

snoc_some : (v : List ℕ) (x : ℕ) → v ++ x ∷ [] ≢ []
snoc_some [] x e = cc e
snoc_some (y ∷ v) x e = cc e

-- one step, case by case

at_letter : (c : ℕ) (p q : Place) (x : ℕ) → nat_eq x c ≡ true → Some p ≡ Some q → Read p (c ∷ []) → Read q (x ∷ [])
at_letter c p q x h e r = moved (x ∷ []) e (subst (λ y. Read p (y ∷ [])) (sym (eqb-true x c h)) r)

first_read : (x : ℕ) (q : Place) → first_letter x ≡ Some q → Read q (x ∷ [])
first_read x q h =
    if_some (nat_eq x 116) _ _ q h (λ b e. at_letter 116 in_t q x b e refl) (λ n h1.
    if_some (nat_eq x 97) _ _ q h1
    (λ b e. at_letter 97 (spelling 116 (codes "tr:") (a_text of_name)) q x b e (refl, refl)) (λ n h2.
    if_some (nat_eq x 104) _ _ q h2
    (λ b e. at_letter 104 (spelling 97 (codes "s:") (a_text of_has)) q x b e (refl, refl)) (λ n h3.
    if_some (nat_eq x 114) _ _ q h3
    (λ b e. at_letter 114 (spelling 101 (codes "f:") (a_text of_ref)) q x b e (refl, refl)) (λ n h4.
    if_some (nat_eq x 99) _ _ q h4 (λ b e. at_letter 99 (spelling 104 (codes "ildrenof:") a_ref) q x b e (refl, refl))
    (λ n h5. absurd (cc h5))))))

second_read : (x : ℕ) (q : Place) → after_t x ≡ Some q → Read q (116 ∷ x ∷ [])
second_read x q h =
    if_some (nat_eq x 97) _ _ q h
    (λ b e. moved (116 ∷ x ∷ []) e
    (subst (λ y. Read (spelling 103 (codes ":") (a_text of_tag)) (116 ∷ y ∷ [])) (sym (eqb-true x 97 b))
    (refl, refl))) (λ n h1.
    if_some (nat_eq x 105) _ _ q h1
    (λ b e. moved (116 ∷ x ∷ []) e
    (subst (λ y. Read (spelling 116 (codes "le:") (a_text of_title)) (116 ∷ y ∷ [])) (sym (eqb-true x 105 b))
    (refl, refl))) (λ n h2. absurd (cc h2)))

reached_read : (y : ℕ) (ys : List ℕ) (aim : Aim) (f : List ℕ) → Read (spelling y ys aim) f
    → Read (reached ys aim) (f ++ y ∷ [])
reached_read y [] (a_text u) f r = r.0
reached_read y [] a_ref f r = (r.0, refl)
reached_read y (z ∷ ys) (a_text u) f r = (
  subst (Heads u) (sym (append_assoc f (y ∷ []) (z ∷ ys))) r.0,
  (and_both (is_ascii y) (list_all is_ascii (z ∷ ys)) r.1).1,
)
reached_read y (z ∷ ys) a_ref f r =
    (append_assoc f (y ∷ []) (z ∷ ys) ∙ r.0, (and_both (is_ascii y) (list_all is_ascii (z ∷ ys)) r.1).1)

spelling_read : (y : ℕ) (ys : List ℕ) (aim : Aim) (f : List ℕ) (x : ℕ) (q : Place) → Read (spelling y ys aim) f
    → word_step (spelling y ys aim) x ≡ Some q → Read q (f ++ x ∷ [])
spelling_read y ys aim f x q r h =
    if_some (nat_eq x y) (Some (reached ys aim)) None q h
    (λ b e. moved (f ++ x ∷ []) e
    (subst (λ z. Read (reached ys aim) (f ++ z ∷ [])) (sym (eqb-true x y b)) (reached_read y ys aim f r)))
    (λ n e. absurd (cc e))

one_bare : (x : ℕ) → is_bare x ≡ true → list_all is_bare (x ∷ []) ≡ true
one_bare x h = and_from (is_bare x) true h refl

text_begins_read : (u : Use) (f : List ℕ) (x : ℕ) (q : Place) → Heads u f → word_step (text_begins u) x ≡ Some q
    → Read q (f ++ x ∷ [])
text_begins_read u f x q r h =
    if_some (nat_eq x 34) (Some (in_quoted u [])) (cond (is_bare x) (Some (in_bare u (x ∷ []))) None) q h
    (λ b e. moved (f ++ x ∷ []) e
    (record {
      head = f;
      within = [];
      heads = r;
      is_within = nothing;
      whole = ap (λ y. f ++ y ∷ []) (eqb-true x 34 b);
    }))
    (λ n h1. if_some (is_bare x) (Some (in_bare u (x ∷ []))) None q h1
    (λ b e. moved (f ++ x ∷ []) e
    (record { head = f; heads = r; some = snoc_some [] x; all = one_bare x b; whole = refl }))
    (λ n e. absurd (cc e)))

not_nil : (n : List ℕ) → may_end of_name n ≡ true → n ≢ []
not_nil [] h e = cc h
not_nil (x ∷ n) h e = cc e

has_not_nil : (n : List ℕ) → may_end of_has n ≡ true → n ≢ []
has_not_nil [] h e = cc h
has_not_nil (x ∷ n) h e = cc e

past_read : (u : Use) (v f : List ℕ) (x : ℕ) (q : Place) → TextRead u v f → past u v x ≡ Some q → Read q (f ++ x ∷ [])
past_read of_name v f x q r h =
    if_some (nat_eq x 58) (Some (text_begins (of_value v))) None q h
    (λ b e. moved (f ++ x ∷ []) e (
      r.text,
      r.is_text,
      not_nil v r.ends,
      ap (λ y. f ++ y ∷ []) (eqb-true x 58 b) ∙ ap (λ g. g ++ 58 ∷ []) (r.whole ∙ ap (λ g. g ++ r.text) r.heads)
          ∙ append_assoc (codes "attr:") r.text (58 ∷ []),
    ))
    (λ n e. absurd (cc e))
past_read of_tag v f x q r h = absurd (cc h)
past_read of_title v f x q r h = absurd (cc h)
past_read (of_value n) v f x q r h = absurd (cc h)
past_read of_has v f x q r h = absurd (cc h)
past_read of_ref v f x q r h = absurd (cc h)

in_bare_read : (u : Use) (v f : List ℕ) (x : ℕ) (q : Place) → BareRead u v f → word_step (in_bare u v) x ≡ Some q
    → Read q (f ++ x ∷ [])
in_bare_read u v f x q r h =
    if_some (is_bare x) (Some (in_bare u (v ++ x ∷ []))) (past u v x) q h
    (λ b e. moved (f ++ x ∷ []) e (record {
      head = r.head;
      heads = r.heads;
      some = snoc_some v x;
      all = list_all-append is_bare v (x ∷ [])
          ∙ and_from (list_all is_bare v) (list_all is_bare (x ∷ [])) r.all (one_bare x b);
      whole = ap (λ g. g ++ x ∷ []) r.whole ∙ append_assoc r.head v (x ∷ []);
    }))
    (λ n e. past_read u v f x q (bare_text r) e)

quoted_more : {u : Use} {v f g : List ℕ} {w s : List ℕ} → QuotedRead u v g → IsWithin s w → f ≡ g ++ s
    → QuotedRead u (v ++ w) f
quoted_more {u} {v} {f} {g} {w} {s} r more e = record {
  head = r.head;
  within = r.within ++ s;
  heads = r.heads;
  is_within = within_append r.is_within more;
  whole = e ∙ ap (λ l. l ++ s) r.whole ∙ append_assoc r.head (34 ∷ r.within) s;
}

in_quoted_read : (u : Use) (v f : List ℕ) (x : ℕ) (q : Place) → QuotedRead u v f → word_step (in_quoted u v) x ≡ Some q
    → Read q (f ++ x ∷ [])
in_quoted_read u v f x q r h =
    if_some (nat_eq x 34) (cond (may_end u v) (Some (quoted_ends u v)) None)
    (cond (nat_eq x 92) (Some (in_escape u v)) (Some (in_quoted u (v ++ x ∷ [])))) q h
    (λ b h1. if_some (may_end u v) (Some (quoted_ends u v)) None q h1
    (λ ends e. moved (f ++ x ∷ []) e (record {
      head = r.head;
      text = 34 ∷ r.within ++ 34 ∷ [];
      heads = r.heads;
      is_text = quoted r.is_within;
      ends = ends;
      whole = ap (λ y. f ++ y ∷ []) (eqb-true x 34 b) ∙ ap (λ g. g ++ 34 ∷ []) r.whole
          ∙ append_assoc r.head (34 ∷ r.within) (34 ∷ []);
    })) (λ n e. absurd (cc e)))
    (λ n h1. if_some (nat_eq x 92) (Some (in_escape u v)) (Some (in_quoted u (v ++ x ∷ []))) q h1
    (λ b e. moved (f ++ x ∷ []) e (f, r, ap (λ y. f ++ y ∷ []) (eqb-true x 92 b)))
    (λ m e. moved (f ++ x ∷ []) e (quoted_more r (plain x (or_both (nat_eq x 34) (nat_eq x 92) n m) nothing) refl)))

in_escape_read : (u : Use) (v f g : List ℕ) (x : ℕ) (q : Place) → QuotedRead u v g → f ≡ g ++ 92 ∷ []
    → word_step (in_escape u v) x ≡ Some q → Read q (f ++ x ∷ [])
in_escape_read u v f g x q r e h =
    if_some (is_escaped x) (Some (in_quoted u (v ++ x ∷ []))) None q h
    (λ b is. moved (f ++ x ∷ []) is
    (quoted_more r (escaped x b nothing) (ap (λ l. l ++ x ∷ []) e ∙ append_assoc g (92 ∷ []) (x ∷ []))))
    (λ n is. absurd (cc is))

in_ref_read : (t f : List ℕ) (x : ℕ) (q : Place) → f ≡ codes "childrenof:" ++ t → word_step (in_ref t) x ≡ Some q
    → Read q (f ++ x ∷ [])
in_ref_read t f x q r h =
    if_some (is_ref_front (t ++ x ∷ [])) (Some (in_ref (t ++ x ∷ []))) None q h
    (λ b e. moved (f ++ x ∷ []) e (ap (λ g. g ++ x ∷ []) r ∙ append_assoc (codes "childrenof:") t (x ∷ []), b))
    (λ n e. absurd (cc e))

pub read_step : (p : Place) (f : List ℕ) (x : ℕ) (q : Place) → Read p f → word_step p x ≡ Some q → Read q (f ++ x ∷ [])
read_step begins f x q r h = subst (λ g. Read q (g ++ x ∷ [])) (sym r) (first_read x q h)
read_step in_t f x q r h = subst (λ g. Read q (g ++ x ∷ [])) (sym r) (second_read x q h)
read_step (spelling y ys aim) f x q r h = spelling_read y ys aim f x q r h
read_step (text_begins u) f x q r h = text_begins_read u f x q r h
read_step (in_bare u v) f x q r h = in_bare_read u v f x q r h
read_step (in_quoted u v) f x q r h = in_quoted_read u v f x q r h
read_step (in_escape u v) f x q r h = in_escape_read u v f r.0 x q r.1 r.2 h
read_step (quoted_ends u v) f x q r h = past_read u v f x q r h
read_step (in_ref t) f x q r h = in_ref_read t f x q r.0 h

-- what is whole is a word

of_word : {f g : List ℕ} {a b : Asked} → f ≡ g → Some b ≡ Some a → IsWord g b → IsWord f a
of_word {f} {g} {a} {b} e h w =
    let same : b ≡ a = cc h in subst (λ c. IsWord f c) same (subst (λ l. IsWord l b) (sym e) w)

text_word : (u : Use) (v f : List ℕ) (a : Asked) → TextRead u v f → asks u v ≡ Some a → IsWord f a
text_word of_tag v f a r h = of_word (r.whole ∙ ap (λ g. g ++ r.text) r.heads) h (tag r.is_text)
text_word of_title v f a r h = of_word (r.whole ∙ ap (λ g. g ++ r.text) r.heads) h (title r.is_text)
text_word of_name v f a r h = absurd (cc h)
text_word (of_value n) v f a r h =
    of_word (r.whole ∙ ap (λ g. g ++ r.text) r.heads.3 ∙ append_assoc (codes "attr:") (r.heads.0 ++ 58 ∷ []) r.text
    ∙ ap (λ l. codes "attr:" ++ l) (append_assoc r.heads.0 (58 ∷ []) r.text)) h (attr r.heads.1 r.heads.2 r.is_text)
text_word of_has v f a r h = of_word (r.whole ∙ ap (λ g. g ++ r.text) r.heads) h (has r.is_text (has_not_nil v r.ends))
text_word of_ref v f a r h = of_word (r.whole ∙ ap (λ g. g ++ r.text) r.heads) h (ref r.is_text)

pub word_read : (p : Place) (f : List ℕ) (a : Asked) → Read p f → word_asks p ≡ Some a → IsWord f a
word_read begins f a r h = absurd (cc h)
word_read in_t f a r h = absurd (cc h)
word_read (spelling y ys aim) f a r h = absurd (cc h)
word_read (text_begins u) f a r h = absurd (cc h)
word_read (in_bare u v) f a r h = text_word u v f a (bare_text r) h
word_read (in_quoted u v) f a r h = absurd (cc h)
word_read (in_escape u v) f a r h = absurd (cc h)
word_read (quoted_ends u v) f a r h = text_word u v f a r h
word_read (in_ref t) f a r h =
    if_some (is_blobref t) (Some (children_of t)) None a h
    (λ b e. let same : children_of t ≡ a = cc e in
    subst (λ c. IsWord f c) same (subst (λ g. IsWord g (children_of t)) (sym r.0) (childrenof t b)))
    (λ n e. absurd (cc e))
