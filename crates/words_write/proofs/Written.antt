-- The line that is written for a constraint is read as it, and there is one where any line is.
use Rattle.std.proofs.Common.{◌≡◌, ◌≢◌, ℕ, Bool, true, false, not, ◌&&◌, cond, List, [], ◌∷◌, ◌++◌, codes, refl, sym}
use Rattle.std.proofs.Common.{ap, subst, ◌∙◌, Option, Some, None, is_none, option_map}
use Rattle.std.proofs.lemmas.List.{append_assoc, append-nil}
use Rattle.std.proofs.lemmas.Slice.Eq.{bytes_eq-Decides}
use Rattle.std.specs.List.{list_all}
use Rattle.std.specs.Str.{bytes_eq}
use Rattle.blobref.specs.Blobref.{is_blobref}
use Rattle.search_query.specs.declared.query.Op.{Op}
use Rattle.search_query.specs.declared.query.Op.TheVariants.{And, Or, Xor, Not}
use Rattle.search_query.specs.declared.query.Kin.TheVariants.{Parent, Child}
use Rattle.search_query.specs.declared.query.TextTest.{TextTest}
use Rattle.search_query.specs.Mirror.{Leaves, TestLeaves, Asked, not_asked, asked, Joined, no_logical, logical, Tested}
use Rattle.search_query.specs.Mirror.{no_permanode, permanode, Related, no_relation, relation}
use Rattle.search_query.specs.Valid.{is_tested}
use Rattle.search_query.specs.View.{is_asked}
use Rattle.search_words.specs.Asking.{no_leaves, no_test_leaves, both, either, negation, tests, has_attr, has_value}
use Rattle.search_words.specs.Asking.{contains}
use Rattle.search_words.specs.Grammar.{is_bare, is_escaped, IsWithin, nothing, plain, escaped, IsText, bare, quoted}
use Rattle.search_words.specs.Grammar.{IsWord, tag, title, attr, has, ref, childrenof, IsAtom, word, group, IsUnit}
use Rattle.search_words.specs.Grammar.{atom, minus, IsAnd, unit, and, IsOr, one, or, IsLine, line}
use Rattle.words_write.specs.Writing.{escaped_text, quoted_text, text_of, named, tag_line, attr_line, value_line}
use Rattle.words_write.specs.Writing.{title_line, contains_only, attr_word, prefix_only, child_line, related_word}
use Rattle.words_write.specs.Writing.{if_only, no_other, none_of, tested_word, ref_line, no_leaf, word_of, Rank, an_or}
use Rattle.words_write.specs.Writing.{an_and, a_unit, an_atom, Made, made_as, in_group, ranked_and, ranked_unit}
use Rattle.words_write.specs.Writing.{ranked_atom, or_made, and_made, not_made, only_made, joined_made, made, line_of}
use Rattle.search_words.proofs.Tests.{and_both}
use Rattle.search_words.proofs.WordSound.{if_some}

-- Texts

by_test : {A : Type 0} (P : A → Type 0) (b : Bool) (x y : A) → (b ≡ true → P x) → (b ≡ false → P y) → P (cond b x y)
by_test P true x y t f = t refl
by_test P false x y t f = f refl

escaped_is : (v : List ℕ) → IsWithin (escaped_text v) v
escaped_is [] = nothing
escaped_is (x ∷ v) =
    let r = escaped_is v in
    by_test (λ t. IsWithin t (x ∷ v)) (is_escaped x) (92 ∷ x ∷ escaped_text v) (x ∷ escaped_text v) (λ h. escaped x h r)
    (λ h. plain x h r)

text_is : (v : List ℕ) → IsText (text_of v) v
text_is [] = quoted (escaped_is [])
text_is (x ∷ v) =
    by_test (λ t. IsText t (x ∷ v)) (list_all is_bare (x ∷ v)) (x ∷ v) (quoted_text (x ∷ v))
    (λ h. bare (x ∷ v) (λ e. cc e) h) (λ h. quoted (escaped_is (x ∷ v)))

-- Records with few keys

none_is : {A : Type 0} (o : Option A) → is_none o ≡ true → o ≡ None
none_is None h = refl
none_is (Some x) h = absurd (cc h)

abbrev prefix_leaves : Option (List ℕ) → Leaves
prefix_leaves o = record { anything = None; camli_type = None; blob_ref_prefix = o; blob_size = None; file = None }

only_prefix : (l : Leaves) → prefix_only l ≡ true → l ≡ prefix_leaves l.blob_ref_prefix
only_prefix l h =
    let a = and_both (is_none l.anything && is_none l.camli_type && is_none l.blob_size) (is_none l.file) h in
    let b = and_both (is_none l.anything && is_none l.camli_type) (is_none l.blob_size) a.0 in
    let c = and_both (is_none l.anything) (is_none l.camli_type) b.0 in
    let e0 = none_is l.anything c.0 in
    let e1 = none_is l.camli_type c.1 in
    let e2 = none_is l.blob_size b.1 in
    let e3 = none_is l.file a.1 in
    (λ i. record {
      anything = e0 i;
      camli_type = e1 i;
      blob_ref_prefix = l.blob_ref_prefix;
      blob_size = e2 i;
      file = e3 i;
    })

no_leaf_is : (l : Leaves) → no_leaf l ≡ true → l ≡ no_leaves
no_leaf_is l h =
    let a = and_both (is_none l.blob_ref_prefix) (prefix_only l) h in
    only_prefix l a.1 ∙ ap prefix_leaves (none_is l.blob_ref_prefix a.0)

abbrev attr_leaves : Option (List ℕ) → Option (List ℕ) → Option TextTest → TestLeaves
attr_leaves n v m = record { at = None; attr = n; value = v; value_matches = m; num_value = None }

no_other_is : (t : TestLeaves) → no_other t ≡ true → t ≡ attr_leaves t.attr t.value t.value_matches
no_other_is t h =
    let a = and_both (is_none t.at) (is_none t.num_value) h in
    let e0 = none_is t.at a.0 in
    let e1 = none_is t.num_value a.1 in
    (λ i. record { at = e0 i; attr = t.attr; value = t.value; value_matches = t.value_matches; num_value = e1 i })

none_of_is : (t : TestLeaves) → none_of t ≡ true → t ≡ no_test_leaves
none_of_is t h =
    let a = and_both (is_none t.at && is_none t.attr && is_none t.value && is_none t.value_matches)
    (is_none t.num_value) h in
    let b = and_both (is_none t.at && is_none t.attr && is_none t.value) (is_none t.value_matches) a.0 in
    let c = and_both (is_none t.at && is_none t.attr) (is_none t.value) b.0 in
    let d = and_both (is_none t.at) (is_none t.attr) c.0 in
    let e0 = none_is t.at d.0 in
    let e1 = none_is t.attr d.1 in
    let e2 = none_is t.value c.1 in
    let e3 = none_is t.value_matches b.1 in
    let e4 = none_is t.num_value a.1 in
    (λ i. record { at = e0 i; attr = e1 i; value = e2 i; value_matches = e3 i; num_value = e4 i })

contains_is : (m : TextTest) (v : List ℕ) → m.contains ≡ Some v → contains_only m ≡ true → m ≡ contains v
contains_is m v some h =
    let a = and_both (is_none m.equals && is_none m.has_prefix && is_none m.has_suffix && is_none m.empty)
    (is_none m.byte_length) h in
    let b = and_both (is_none m.equals && is_none m.has_prefix && is_none m.has_suffix) (is_none m.empty) a.0 in
    let c = and_both (is_none m.equals && is_none m.has_prefix) (is_none m.has_suffix) b.0 in
    let d = and_both (is_none m.equals) (is_none m.has_prefix) c.0 in
    let e0 = none_is m.equals d.0 in
    let e1 = none_is m.has_prefix d.1 in
    let e2 = none_is m.has_suffix c.1 in
    let e3 = none_is m.empty b.1 in
    let e4 = none_is m.byte_length a.1 in
    (λ i. record {
      equals = e0 i;
      contains = some i;
      has_prefix = e1 i;
      has_suffix = e2 i;
      empty = e3 i;
      byte_length = e4 i;
    })

-- Words

said : {w u : List ℕ} {c : Asked} → Some u ≡ Some w → IsWord u c → IsWord w c
said {w} {u} {c} h r = let same : u ≡ w = cc h in subst (λ t. IsWord t c) same r

same_name : (n m : List ℕ) → bytes_eq n m ≡ true → n ≡ m
same_name n m h = (bytes_eq-Decides n m).0 h

named_word : (n text w : List ℕ) (c : Asked) → named n text ≡ Some w → (n ≢ [] → IsWord text c) → IsWord w c
named_word [] text w c h r = absurd (cc h)
named_word (x ∷ n) text w c h r = said h (r (λ e. cc e))

value_word : (n v w : List ℕ) → value_line n v ≡ Some w → IsWord w (has_value n v)
value_word n v w h =
    if_some (bytes_eq n (codes "tag")) (Some (tag_line v)) (named n (attr_line n v)) w h
    (λ b e. subst (λ m. IsWord w (has_value m v)) (sym (same_name n (codes "tag") b)) (said e (tag (text_is v))))
    (λ b e. named_word n (attr_line n v) w (has_value n v) e (λ some. attr (text_is n) some (text_is v)))

title_word : (n w : List ℕ) (m : TextTest) (o : Option (List ℕ)) (only : Bool) → m.contains ≡ o → contains_only m ≡ only
    → title_line n o only ≡ Some w
    → IsWord w (tests (attr_leaves (Some n) None (Some m)) no_relation)
title_word n w m None only is b h = absurd (cc h)
title_word n w m (Some v) false is b h = absurd (cc h)
title_word n w m (Some v) true is b h =
    if_some (bytes_eq n (codes "title")) (Some (codes "title:" ++ text_of v)) None w h
    (λ e f. subst (λ k. IsWord w (tests (attr_leaves (Some k) None (Some m)) no_relation))
    (sym (same_name n (codes "title") e))
    (subst (λ t. IsWord w (tests (attr_leaves (Some (codes "title")) None (Some t)) no_relation))
    (sym (contains_is m v is b)) (said f (title (text_is v)))))
    (λ e f. absurd (cc f))

attr_is : (n v : Option (List ℕ)) (m : Option TextTest) (w : List ℕ) → attr_word n v m ≡ Some w
    → IsWord w (tests (attr_leaves n v m) no_relation)
attr_is None v m w h = absurd (cc h)
attr_is (Some n) None None w h =
    named_word n (codes "has:" ++ text_of n) w (has_attr n) h (λ some. has (text_is n) some)
attr_is (Some n) (Some v) None w h = value_word n v w h
attr_is (Some n) None (Some m) w h = title_word n w m m.contains (contains_only m) refl refl h
attr_is (Some n) (Some v) (Some m) w h = absurd (cc h)

only_some : (b : Bool) (o : Option (List ℕ)) (w : List ℕ) → if_only b o ≡ Some w → (b ≡ true) × (o ≡ Some w)
only_some true o w h = (refl, h)
only_some false o w h = absurd (cc h)

child_is : (o : Option (List ℕ)) (only : Bool) (l : Leaves) (w : List ℕ) → l.blob_ref_prefix ≡ o → prefix_only l ≡ only
    → child_line o only ≡ Some w
    → IsWord w (tests no_test_leaves (relation (Some Parent) (asked no_logical l no_permanode) not_asked))
child_is None only l w is b h = absurd (cc h)
child_is (Some r) false l w is b h = absurd (cc h)
child_is (Some r) true l w is b h =
    if_some (is_blobref r) (Some (codes "childrenof:" ++ r)) None w h
    (λ e f. subst
    (λ k. IsWord w (tests no_test_leaves (relation (Some Parent) (asked no_logical k no_permanode) not_asked)))
    (sym (only_prefix l b ∙ ap prefix_leaves is)) (said f (childrenof r e)))
    (λ e f. absurd (cc f))

related_is : (r : Related) (w : List ℕ) → related_word r ≡ Some w → IsWord w (tests no_test_leaves r)
related_is no_relation w h = absurd (cc h)
related_is (relation None a b) w h = absurd (cc h)
related_is (relation (Some Child) a b) w h = absurd (cc h)
related_is (relation (Some Parent) a (asked j m u)) w h = absurd (cc h)
related_is (relation (Some Parent) not_asked not_asked) w h = absurd (cc h)
related_is (relation (Some Parent) (asked (logical o x y) l t) not_asked) w h = absurd (cc h)
related_is (relation (Some Parent) (asked no_logical l (permanode t s r)) not_asked) w h = absurd (cc h)
related_is (relation (Some Parent) (asked no_logical l no_permanode) not_asked) w h =
    child_is l.blob_ref_prefix (prefix_only l) l w refl refl h

tested_is : (t : Tested) (w : List ℕ) → tested_word t ≡ Some w → IsWord w (asked no_logical no_leaves t)
tested_is no_permanode w h = absurd (cc h)
tested_is (permanode t (asked j m u) r) w h = absurd (cc h)
tested_is (permanode t not_asked no_relation) w h =
    let e = only_some (no_other t) (attr_word t.attr t.value t.value_matches) w h in
    subst (λ k. IsWord w (tests k no_relation)) (sym (no_other_is t e.0)) (attr_is t.attr t.value t.value_matches w e.1)
tested_is (permanode t not_asked (relation k a b)) w h =
    let e = only_some (none_of t) (related_word (relation k a b)) w h in
    subst (λ u. IsWord w (tests u (relation k a b))) (sym (none_of_is t e.0)) (related_is (relation k a b) w e.1)

ref_is : (o : Option (List ℕ)) (w : List ℕ) → ref_line o ≡ Some w
    → IsWord w (asked no_logical (prefix_leaves o) no_permanode)
ref_is None w h = absurd (cc h)
ref_is (Some v) w h = said h (ref (text_is v))

pub word_is : (l : Leaves) (t : Tested) (w : List ℕ) → word_of l t ≡ Some w → IsWord w (asked no_logical l t)
word_is l no_permanode w h =
    let e = only_some (prefix_only l) (ref_line l.blob_ref_prefix) w h in
    subst (λ k. IsWord w (asked no_logical k no_permanode)) (sym (only_prefix l e.0)) (ref_is l.blob_ref_prefix w e.1)
word_is l (permanode t s r) w h =
    let e = only_some (no_leaf l) (tested_word (permanode t s r)) w h in
    subst (λ k. IsWord w (asked no_logical k (permanode t s r))) (sym (no_leaf_is l e.0))
    (tested_is (permanode t s r) w e.1)

-- Forms

abbrev Fit : Rank → List ℕ → Asked → Type 0
Fit an_or t c = IsOr t c
Fit an_and t c = IsAnd t c
Fit a_unit t c = IsUnit t c
Fit an_atom t c = IsAtom t c

in_group_is : {t : List ℕ} {c : Asked} → IsOr t c → IsAtom (in_group t) c
in_group_is {t} {c} r = subst (λ u. IsAtom (40 ∷ u ++ 41 ∷ []) c) (append-nil t) (group 0 r 0)

or_is : (k : Rank) {t : List ℕ} {c : Asked} → Fit k t c → IsOr t c
or_is an_or r = r
or_is an_and r = one r
or_is a_unit r = one (unit r)
or_is an_atom r = one (unit (atom r))

and_is : (k : Rank) (t : List ℕ) {c : Asked} → Fit k t c → IsAnd (ranked_and k t) c
and_is an_or t r = unit (atom (in_group_is r))
and_is an_and t r = r
and_is a_unit t r = unit r
and_is an_atom t r = unit (atom r)

unit_is : (k : Rank) (t : List ℕ) {c : Asked} → Fit k t c → IsUnit (ranked_unit k t) c
unit_is an_or t r = atom (in_group_is r)
unit_is an_and t r = atom (in_group_is (one r))
unit_is a_unit t r = r
unit_is an_atom t r = atom r

atom_is : (k : Rank) (t : List ℕ) {c : Asked} → Fit k t c → IsAtom (ranked_atom k t) c
atom_is an_or t r = in_group_is r
atom_is an_and t r = in_group_is (one r)
atom_is a_unit t r = in_group_is (one (unit r))
atom_is an_atom t r = r

abbrev MadeFits : Option Made → Asked → Type 0
MadeFits o c = (m : Made) → o ≡ Some m → Fit m.rank m.text c

made_to : {k m : Made} (c : Asked) → Some k ≡ Some m → Fit k.rank k.text c → Fit m.rank m.text c
made_to {k} {m} c h r = let same : k ≡ m = cc h in subst (λ n. Fit n.rank n.text c) same r

word_fits : (o : Option (List ℕ)) (c : Asked) → ((w : List ℕ) → o ≡ Some w → IsWord w c)
    → MadeFits (option_map (made_as an_atom) o) c
word_fits None c r m h = absurd (cc h)
word_fits (Some w) c r m h = made_to c h (word (r w refl))

or_fits : (a b : Asked) (oa ob : Option Made) → MadeFits oa a → MadeFits ob b → MadeFits (or_made oa ob) (either a b)
or_fits a b None ob ra rb m h = absurd (cc h)
or_fits a b (Some x) None ra rb m h = absurd (cc h)
or_fits a b (Some x) (Some y) ra rb m h = made_to (either a b) h
    (subst (λ t. IsOr (t ++ ranked_and y.rank y.text) (either a b))
    (append_assoc x.text (32 ∷ []) (111 ∷ 114 ∷ 32 ∷ []))
    (or (or_is x.rank (ra x refl)) 0 0 (and_is y.rank y.text (rb y refl))))

and_fits : (a b : Asked) (oa ob : Option Made) → MadeFits oa a → MadeFits ob b → MadeFits (and_made oa ob) (both a b)
and_fits a b None ob ra rb m h = absurd (cc h)
and_fits a b (Some x) None ra rb m h = absurd (cc h)
and_fits a b (Some x) (Some y) ra rb m h =
    made_to (both a b) h (and (and_is x.rank x.text (ra x refl)) 0 (unit_is y.rank y.text (rb y refl)))

not_fits : (a : Asked) (oa : Option Made) → MadeFits oa a → MadeFits (not_made oa) (negation a)
not_fits a None ra m h = absurd (cc h)
not_fits a (Some x) ra m h = made_to (negation a) h (minus (atom_is x.rank x.text (ra x refl)))

only_fits : (o : Option Made) (j : Joined) (l : Leaves) (t : Tested) → MadeFits o (asked j no_leaves no_permanode)
    → MadeFits (only_made (no_leaf l && not (is_tested t)) o) (asked j l t)
only_fits o j l t r m h = go (no_leaf l) t refl h
  where
    go : (b : Bool) (t : Tested) → no_leaf l ≡ b → only_made (b && not (is_tested t)) o ≡ Some m
        → Fit m.rank m.text (asked j l t)
    go false t e h = absurd (cc h)
    go true (permanode x s q) e h = absurd (cc h)
    go true no_permanode e h = subst (λ k. Fit m.rank m.text (asked j k no_permanode)) (sym (no_leaf_is l e)) (r m h)

joined_fits : (op : Option Op) (a b : Asked) → MadeFits (made a) a → MadeFits (made b) b
    → MadeFits (joined_made op (made a) (made b) (is_asked b)) (asked (logical op a b) no_leaves no_permanode)
joined_fits (Some Or) a b ra rb m h = or_fits a b (made a) (made b) ra rb m h
joined_fits (Some And) a b ra rb m h = and_fits a b (made a) (made b) ra rb m h
joined_fits (Some Not) a not_asked ra rb m h = not_fits a (made a) ra m h
joined_fits (Some Not) a (asked j k u) ra rb m h = absurd (cc h)
joined_fits (Some Xor) a b ra rb m h = absurd (cc h)
joined_fits None a b ra rb m h = absurd (cc h)

made_fits : (c : Asked) → MadeFits (made c) c
made_fits not_asked m h = absurd (cc h)
made_fits (asked no_logical l t) m h = word_fits (word_of l t) (asked no_logical l t) (word_is l t) m h
made_fits (asked (logical op a b) l t) m h =
    only_fits (joined_made op (made a) (made b) (is_asked b)) (logical op a b) l t
    (joined_fits op a b (made_fits a) (made_fits b)) m h

pub line_of_reads : (c : Asked) (text : List ℕ) → line_of c ≡ Some text → IsLine text c
line_of_reads c text h = go (made c) (made_fits c) h
  where
    go : (o : Option Made) → MadeFits o c → option_map (λ m. m.text) o ≡ Some text → IsLine text c
    go None r h = absurd (cc h)
    go (Some m) r h =
        let same : m.text ≡ text = cc h in
        subst (λ t. IsLine t c) (append-nil m.text ∙ same) (line 0 (or_is m.rank (r m refl)) 0)
