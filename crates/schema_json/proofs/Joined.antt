-- Two objects in one text: the one without its last brace, a comma, and the other without its first brace.
use Rattle.std.proofs.Common.{◌≡◌, ℕ, suc, ◌≤◌, Bool, true, false, List, [], ◌∷◌, ◌++◌, length, drop, Option, Some, None, option_and_then, option_map, refl, sym, ap, ◌∙◌, subst, arith, bytes_eq}
use Rattle.std.proofs.lemmas.Bool.{false≢true}
use Rattle.std.proofs.lemmas.List.{append_assoc}
use Rattle.std.proofs.lemmas.Slice.Eq.{bytes_eq-Decides}
use Rattle.std.proofs.lemmas.Option.{same_Some}
use Rattle.json.specs.Token.{Token, begin_object, end_object, begin_array, end_array, key, string, number, boolean, null, bad}
use Rattle.json.specs.Lex.{Lexeme, token, comma, colon, between, lex, Place, fresh, after_value, after_comma, after_key, begins_colon, if_allowed, place_token, punctuate, tokens}
use Rattle.json.specs.Print.{ends}
use Rattle.json.specs.Json as json
use Rattle.json.specs.Tree.{json_tokens, members_tokens, depth, members_depth}
use Rattle.serde_json.specs.Data.{Num, Data, object, Items, Members, no_members, put}
use Rattle.serde_json.specs.Find.{get_member}
use Rattle.serde_json.specs.Read.{read, of_json, of_items, of_members, number_of}
use Rattle.serde_json.proofs.Views.{get_member-put, get_member-put_other}
use Rattle.json_laws.proofs.Lexed.{AreGood, lexed}
use Rattle.json_laws.proofs.Placed.{Good, ends_from, before, lexemes_good, tokens_good, tokens_end, at_token}
use Rattle.json_laws.proofs.Reading.{reading, read_tree}
use Rattle.schema_json.proofs.Fronts.{front_good}

-- ---- lists that end alike

all_but_last : {A : Type 0} → List A → List A
all_but_last [] = []
all_but_last (x ∷ []) = []
all_but_last (x ∷ y ∷ ys) = x ∷ all_but_last (y ∷ ys)

all_but_one : {A : Type 0} (xs : List A) (z : A) → all_but_last (xs ++ z ∷ []) ≡ xs
unfolding all_but_last
all_but_one [] z = refl
all_but_one (x ∷ []) z = refl
all_but_one (x ∷ y ∷ ys) z = ap (λ l. x ∷ l) (all_but_one (y ∷ ys) z)

same_front : {A : Type 0} (xs ys : List A) (y z : A) → xs ++ y ∷ [] ≡ ys ++ z ∷ [] → xs ≡ ys
same_front xs ys y z e = sym (all_but_one xs y) ∙ ap all_but_last e ∙ all_but_one ys z

-- ---- the tokens of an object without its last brace

abbrev inner : json.Members → List Token
inner json.no_members = []
inner (json.member k j ms) = key k ∷ (json_tokens j ++ inner ms)

with_end : (ms : json.Members) → members_tokens ms ≡ inner ms ++ end_object ∷ []
with_end json.no_members = refl
with_end (json.member k j ms) = ap (λ l. key k ∷ (json_tokens j ++ l)) (with_end ms) ∙ ap (λ l. key k ∷ l) (sym (append_assoc (json_tokens j) (inner ms) (end_object ∷ [])))

abbrev both : json.Members → json.Members → json.Members
both json.no_members ns = ns
both (json.member k j ms) ns = json.member k j (both ms ns)

both_tokens : (ms ns : json.Members) → inner ms ++ members_tokens ns ≡ members_tokens (both ms ns)
both_tokens json.no_members ns = refl
both_tokens (json.member k j ms) ns = ap (λ l. key k ∷ l) (append_assoc (json_tokens j) (inner ms) (members_tokens ns)) ∙ ap (λ l. key k ∷ (json_tokens j ++ l)) (both_tokens ms ns)

ends_append : (c : Bool) (ts us : List Token) → ends_from c (ts ++ us) ≡ ends_from (ends_from c ts) us
ends_append c [] us = refl
ends_append c (t ∷ ts) us = ends_append (ends t) ts us

inner_ends : (ms : json.Members) → ends_from true (inner ms) ≡ true
inner_ends json.no_members = refl
inner_ends (json.member k j ms) = ends_append false (json_tokens j) (inner ms) ∙ ap (λ c. ends_from c (inner ms)) (tokens_end false j) ∙ inner_ends ms

first_ends : (k : List ℕ) (j : json.Json) (ms : json.Members) → ends_from false (begin_object ∷ inner (json.member k j ms)) ≡ true
first_ends k j ms = ends_append false (json_tokens j) (inner ms) ∙ ap (λ c. ends_from c (inner ms)) (tokens_end false j) ∙ inner_ends ms

-- ---- without its last brace no token is bad

allowed : (c : Bool) (t : Token) (k : Place → List Token) (next : Place) → Good (if_allowed c t k next) → c ≡ true
allowed true t k next g = refl
allowed false t k next g = absurd (false≢true g.0)

abbrev End : List Lexeme
End = token end_object ∷ []

same_colon : (ls : List Lexeme) → begins_colon (ls ++ End) ≡ begins_colon ls
same_colon [] = refl
same_colon (token t ∷ ls) = refl
same_colon (comma ∷ ls) = refl
same_colon (colon ∷ ls) = refl

if_good : (c : Bool) (t : Token) (k l : Place → List Token) (next : Place) → (Good (k next) → Good (l next)) → Good (if_allowed c t k next) → Good (if_allowed c t l next)
if_good true t k l next h g = (g.0, h g.1)
if_good false t k l next h g = absurd (false≢true g.0)

one_good : (p : Place) (t : Token) (b : Bool) (k l : Place → List Token) → ((q : Place) → Good (k q) → Good (l q)) → Good (place_token p t b k) → Good (place_token p t b l)
one_good p begin_object b k l h g = if_good _ begin_object k l fresh (h fresh) g
one_good p end_object b k l h g = if_good _ end_object k l after_value (h after_value) g
one_good p begin_array b k l h g = if_good _ begin_array k l fresh (h fresh) g
one_good p end_array b k l h g = if_good _ end_array k l after_value (h after_value) g
one_good p (key s) b k l h g = absurd (false≢true g.0)
one_good p (string s) true k l h g = if_good _ (key s) k l after_key (h after_key) g
one_good p (string s) false k l h g = if_good _ (string s) k l after_value (h after_value) g
one_good p (number s) b k l h g = if_good _ (number s) k l after_value (h after_value) g
one_good p (boolean v) b k l h g = if_good _ (boolean v) k l after_value (h after_value) g
one_good p null b k l h g = if_good _ null k l after_value (h after_value) g
one_good p bad b k l h g = absurd (false≢true g.0)

still_good : (ls : List Lexeme) (p : Place) → Good (punctuate p (ls ++ End)) → Good (punctuate p ls)
unfolding punctuate
still_good [] fresh g = tt
still_good [] after_value g = tt
still_good [] after_comma g = absurd (false≢true g.0)
still_good [] after_key g = absurd (false≢true g.0)
still_good (token t ∷ ls) p g =
    subst Good (sym (at_token p t ls))
    (one_good p t (begins_colon ls) (λ q. punctuate q (ls ++ End)) (λ q. punctuate q ls) (still_good ls)
    (subst (λ b. Good (place_token p t b (λ q. punctuate q (ls ++ End)))) (same_colon ls) (subst Good (at_token p t (ls ++ End)) g)))
still_good (comma ∷ ls) fresh g = absurd (false≢true g.0)
still_good (comma ∷ ls) after_value g = still_good ls after_comma g
still_good (comma ∷ ls) after_comma g = absurd (false≢true g.0)
still_good (comma ∷ ls) after_key g = absurd (false≢true g.0)
still_good (colon ∷ ls) fresh g = absurd (false≢true g.0)
still_good (colon ∷ ls) after_value g = absurd (false≢true g.0)
still_good (colon ∷ ls) after_comma g = absurd (false≢true g.0)
still_good (colon ∷ ls) after_key g = still_good ls fresh g

-- the brace at the end is one token, good or bad
last_one : (p : Place) → (t : Token) × (punctuate p End ≡ t ∷ [])
unfolding punctuate
last_one fresh = (end_object, refl)
last_one after_value = (end_object, refl)
last_one after_comma = (bad, refl)
last_one after_key = (bad, refl)

-- ---- the lexemes

at_brace : (xs : List ℕ) → lex between (125 ∷ xs) ≡ token end_object ∷ lex between xs
unfolding lex
at_brace xs = refl

at_comma : (xs : List ℕ) → lex between (44 ∷ xs) ≡ comma ∷ lex between xs
unfolding lex
at_comma xs = refl

at_open : (xs : List ℕ) → tokens (123 ∷ xs) ≡ begin_object ∷ punctuate fresh (lex between xs)
unfolding lex punctuate
at_open xs = refl

nothing : lex between [] ≡ []
unfolding lex
nothing = refl

-- a key may begin behind a comma as it may at first
behind_comma : (ls : List Lexeme) (k : List ℕ) (ts : List Token) → punctuate fresh ls ≡ key k ∷ ts → punctuate after_comma ls ≡ key k ∷ ts
unfolding punctuate
behind_comma [] k ts e = absurd (let p : [] ≡ key k ∷ ts = e in cc p)
behind_comma (token begin_object ∷ ls) k ts e = e
behind_comma (token end_object ∷ ls) k ts e = absurd (let p : end_object ∷ punctuate after_value ls ≡ key k ∷ ts = e in cc p)
behind_comma (token begin_array ∷ ls) k ts e = e
behind_comma (token end_array ∷ ls) k ts e = absurd (let p : end_array ∷ punctuate after_value ls ≡ key k ∷ ts = e in cc p)
behind_comma (token (key s) ∷ ls) k ts e = e
behind_comma (token (string s) ∷ ls) k ts e = by (begins_colon ls) e
  where
    by : (b : Bool) → place_token fresh (string s) b (λ q. punctuate q ls) ≡ key k ∷ ts → place_token after_comma (string s) b (λ q. punctuate q ls) ≡ key k ∷ ts
    by true e = e
    by false e = e
behind_comma (token (number s) ∷ ls) k ts e = e
behind_comma (token (boolean b) ∷ ls) k ts e = e
behind_comma (token null ∷ ls) k ts e = e
behind_comma (token bad ∷ ls) k ts e = e
behind_comma (comma ∷ ls) k ts e = e
behind_comma (colon ∷ ls) k ts e = e

after_it : (ls : List Lexeme) → punctuate after_value (comma ∷ ls) ≡ punctuate after_comma ls
unfolding punctuate
after_it ls = refl

module _ (p r : List ℕ) where
  abbrev P : List Lexeme
  P = lex between p

  abbrev R : List Lexeme
  R = lex between r

  front : AreGood P → lex between (p ++ 125 ∷ []) ≡ P ++ End
  front good = lexed (125 ∷ []) refl (length p) p (omega arith) good ∙ ap (λ l. P ++ l) (at_brace [] ∙ ap (λ l. token end_object ∷ l) nothing)

  whole : AreGood P → lex between (p ++ 44 ∷ r) ≡ P ++ comma ∷ R
  whole good = lexed (44 ∷ r) refl (length p) p (omega arith) good ∙ ap (λ l. P ++ l) (at_comma r)

  joined_tokens : (k l : List ℕ) (j i : json.Json) (ms ns : json.Members)
      → tokens (p ++ 125 ∷ []) ≡ json_tokens (json.object (json.member k j ms)) → tokens (123 ∷ r) ≡ json_tokens (json.object (json.member l i ns))
      → tokens (p ++ 44 ∷ r) ≡ json_tokens (json.object (both (json.member k j ms) (json.member l i ns)))
  joined_tokens k l j i ms ns one two =
      let good : Good (tokens (p ++ 125 ∷ [])) = subst Good (sym one) (tokens_good (json.object (json.member k j ms))) in
      let good_p : AreGood P = front_good p (lexemes_good (lex between (p ++ 125 ∷ [])) fresh good) in
      let good_front : Good (punctuate fresh (P ++ End)) = subst (λ ls. Good (punctuate fresh ls)) (front good_p) good in
      let good_P : Good (punctuate fresh P) = still_good P fresh good_front in
      let a = before End refl P fresh good_P in
      let last = last_one a.end in
      let shown : punctuate fresh P ≡ begin_object ∷ inner (json.member k j ms) =
      same_front (punctuate fresh P) (begin_object ∷ inner (json.member k j ms)) last.0 end_object
      (ap (λ l. punctuate fresh P ++ l) (sym last.1) ∙ sym a.is ∙ ap (punctuate fresh) (sym (front good_p)) ∙ one ∙ ap (λ l. begin_object ∷ l) (with_end (json.member k j ms))) in
      let b = before (comma ∷ R) refl P fresh good_P in
      let end : b.end ≡ after_value = b.last (ap (ends_from false) shown ∙ first_ends k j ms) in
      let rest : punctuate fresh R ≡ members_tokens (json.member l i ns) = ap (drop 1) (sym (at_open r) ∙ two) in
      ap (punctuate fresh) (whole good_p) ∙ b.is
      ∙ ap (λ q. punctuate fresh P ++ punctuate q (comma ∷ R)) end
      ∙ ap (λ l. l ++ punctuate after_value (comma ∷ R)) shown
      ∙ ap (λ l. (begin_object ∷ inner (json.member k j ms)) ++ l) (after_it R ∙ behind_comma R l (json_tokens i ++ members_tokens ns) rest)
      ∙ ap (λ l. begin_object ∷ l) (both_tokens (json.member k j ms) (json.member l i ns))

-- ---- what the members mean

-- what members are read one after another
read_both : (ms ns : json.Members) (found : Members) → of_members (both ms ns) found ≡ option_and_then (of_members ns) (of_members ms found)
read_both json.no_members ns found = refl
read_both (json.member k j ms) ns found = step (λ d. read_both ms ns (put k d found)) (of_json j)
  where
    step : ((d : Data) → of_members (both ms ns) (put k d found) ≡ option_and_then (of_members ns) (of_members ms (put k d found)))
        → (o : Option Data) → option_and_then (λ d. of_members (both ms ns) (put k d found)) o ≡ option_and_then (of_members ns) (option_and_then (λ d. of_members ms (put k d found)) o)
    step again None = refl
    step again (Some d) = again d

none : {A P : Type 0} (a : A) → None ≡ Some a → P
none a e = absurd (cc)

-- a key that is there stays there
Held : List ℕ → Members → Type 0
Held k ms = (d : Data) × (get_member k ms ≡ Some d)

held_put : (k l : List ℕ) (d : Data) (ms : Members) → (b : Bool) → bytes_eq k l ≡ b → (e : Data) → get_member k ms ≡ Some e → (f : Data) × (get_member k (put l d ms) ≡ Some f)
held_put k l d ms true is e has = (d, ap (λ q. get_member q (put l d ms)) ((bytes_eq-Decides k l).0 is) ∙ get_member-put l d ms)
held_put k l d ms false is e has = (e, get_member-put_other k l d ms (λ q. false≢true (sym is ∙ (bytes_eq-Decides k l).1 q)) ∙ has)

held_on : (k : List ℕ) (ns : json.Members) (found out : Members) (e : Data) → get_member k found ≡ Some e → of_members ns found ≡ Some out → (f : Data) × (get_member k out ≡ Some f)
held_on k json.no_members found out e has is = (e, ap (get_member k) (sym (same_Some found out is)) ∙ has)
held_on k (json.member l j ns) found out e has is =
    step (λ d is. let h = held_put k l d found (bytes_eq k l) refl e has in held_on k ns (put l d found) out h.0 h.1 is) (of_json j) is
  where
    step : ((d : Data) → of_members ns (put l d found) ≡ Some out → (f : Data) × (get_member k out ≡ Some f))
        → (o : Option Data) → option_and_then (λ d. of_members ns (put l d found)) o ≡ Some out → (f : Data) × (get_member k out ≡ Some f)
    step again None is = none out is
    step again (Some d) is = again d is

-- read behind other members, they leave what stands under a key that they haven't
record Kept (k : List ℕ) (ns : json.Members) (found : Members) : Type 0 where
  pub out : Members
  pub is : of_members ns found ≡ Some out
  pub same : get_member k out ≡ get_member k found

untouched : (k : List ℕ) (ns : json.Members) (found others out : Members) → of_members ns others ≡ Some out → get_member k out ≡ None → Kept k ns found
untouched k json.no_members found others out is gone = record { out = found; is = refl; same = refl }
untouched k (json.member l j ns) found others out is gone = step (λ d is. untouched k ns (put l d found) (put l d others) out is gone) (of_json j) refl is
  where
    step : ((d : Data) → of_members ns (put l d others) ≡ Some out → Kept k ns (put l d found))
        → (o : Option Data) → of_json j ≡ o → option_and_then (λ d. of_members ns (put l d others)) o ≡ Some out → Kept k (json.member l j ns) found
    step again None e is = none out is
    step again (Some d) e is =
        let rest = again d is in
        let other : k ≡ l → ⊥ = λ q.
        let h = held_on k ns (put l d others) out d (ap (λ m. get_member m (put l d others)) q ∙ get_member-put l d others) is in
        absurd (none h.0 (sym gone ∙ h.1)) in
        record { out = rest.out; is = ap (option_and_then (λ d. of_members ns (put l d found))) e ∙ rest.is; same = rest.same ∙ get_member-put_other k l d found other }

-- ---- two objects in one text

-- what an object's text is
record Object (text : List ℕ) (ms : Members) : Type 0 where
  pub tree : json.Members
  pub spelt : tokens text ≡ json_tokens (json.object tree)
  pub deep : suc (members_depth tree) ≤ 127
  pub means : of_members tree no_members ≡ Some ms

of_object : (text : List ℕ) (ms : Members) (j : json.Json) → tokens text ≡ json_tokens j → depth j ≤ 127 → of_json j ≡ Some (object ms) → Object text ms
of_object text ms json.null e d is = absurd (let p : Some Data.null ≡ Some (object ms) = is in cc p)
of_object text ms (json.boolean b) e d is = absurd (let p : Some (Data.boolean b) ≡ Some (object ms) = is in cc p)
of_object text ms (json.number s) e d is = by (number_of s) is
  where
    by : (o : Option Num) → option_map Data.number o ≡ Some (object ms) → Object text ms
    by None is = none (object ms) is
    by (Some n) is = absurd (let p : Some (Data.number n) ≡ Some (object ms) = is in cc p)
of_object text ms (json.string s) e d is = absurd (let p : Some (Data.string s) ≡ Some (object ms) = is in cc p)
of_object text ms (json.array js) e d is = by (of_items js) is
  where
    by : (o : Option Items) → option_map Data.array o ≡ Some (object ms) → Object text ms
    by None is = none (object ms) is
    by (Some ds) is = absurd (let p : Some (Data.array ds) ≡ Some (object ms) = is in cc p)
of_object text ms (json.object js) e d is = record { tree = js; spelt = e; deep = d; means = by (of_members js no_members) is }
  where
    members_of : Data → Members
    members_of Data.null = no_members
    members_of (Data.boolean b) = no_members
    members_of (Data.number n) = no_members
    members_of (Data.string s) = no_members
    members_of (Data.array ds) = no_members
    members_of (object ns) = ns

    by : (o : Option Members) → option_map object o ≡ Some (object ms) → o ≡ Some ms
    by None is = none (object ms) is
    by (Some ns) is = ap (λ d. Some (members_of d)) (same_Some (object ns) (object ms) is)

object_in : (text : List ℕ) (ms : Members) → read text ≡ Some (object ms) → Object text ms
object_in text ms e = let r = reading 127 text (object ms) e in of_object text ms r.tree r.spelt r.deep r.means

-- how deep both nest
both_deep : (n : ℕ) (ms ns : json.Members) → members_depth ms ≤ n → members_depth ns ≤ n → members_depth (both ms ns) ≤ n
both_deep n json.no_members ns a b = b
both_deep n (json.member k j ms) ns a b = let c = both_deep n ms ns (omega (arith, a)) b in omega (arith, a, c)

-- both objects' text reads as an object with what the first has under each key that the second hasn't
pub record Joined (text k : List ℕ) (ms : Members) : Type 0 where
  pub out : Members
  pub is : read text ≡ Some (object out)
  pub same : get_member k out ≡ get_member k ms

joined_trees : (p r k : List ℕ) (ms ns : Members) (a : Object (p ++ 125 ∷ []) ms) (b : Object (123 ∷ r) ns) (us vs : json.Members) → a.tree ≡ us → b.tree ≡ vs
    → (d e : Data) (l m : List ℕ) → get_member l ms ≡ Some d → get_member m ns ≡ Some e → get_member k ns ≡ None → Joined (p ++ 44 ∷ r) k ms
joined_trees p r k ms ns a b json.no_members vs us_is vs_is d e l m has_a has_b gone =
    let empty : no_members ≡ ms = same_Some no_members ms (ap (λ t. of_members t no_members) (sym us_is) ∙ a.means) in
    none d (ap (get_member l) empty ∙ has_a)
joined_trees p r k ms ns a b (json.member x j js) json.no_members us_is vs_is d e l m has_a has_b gone =
    let empty : no_members ≡ ns = same_Some no_members ns (ap (λ t. of_members t no_members) (sym vs_is) ∙ b.means) in
    none e (ap (get_member m) empty ∙ has_b)
joined_trees p r k ms ns a b (json.member x j js) (json.member y i is) us_is vs_is d e l m has_a has_b gone =
    let us = json.member x j js in
    let vs = json.member y i is in
    let kept = untouched k vs ms no_members ns (ap (λ t. of_members t no_members) (sym vs_is) ∙ b.means) gone in
    let deep = both_deep 126 us vs
    (let q = a.deep in let f = ap members_depth us_is in omega (arith, q, f))
    (let q = b.deep in let f = ap members_depth vs_is in omega (arith, q, f)) in
    record {
      out = kept.out;
      is = read_tree 127 (p ++ 44 ∷ r) (object kept.out) (record {
        tree = json.object (both us vs);
        spelt = joined_tokens p r x y j i js is (a.spelt ∙ ap (λ t. json_tokens (json.object t)) us_is) (b.spelt ∙ ap (λ t. json_tokens (json.object t)) vs_is);
        deep = omega (arith, deep);
        means = ap (option_map object) (read_both us vs no_members ∙ ap (option_and_then (of_members vs)) (ap (λ t. of_members t no_members) (sym us_is) ∙ a.means) ∙ kept.is);
      });
      same = kept.same;
    }

pub joined_read : (p r k l m : List ℕ) (ms ns : Members) (d e : Data) → read (p ++ 125 ∷ []) ≡ Some (object ms) → read (123 ∷ r) ≡ Some (object ns)
    → get_member l ms ≡ Some d → get_member m ns ≡ Some e → get_member k ns ≡ None → Joined (p ++ 44 ∷ r) k ms
joined_read p r k l m ms ns d e one two has_one has_two gone =
    let a = object_in (p ++ 125 ∷ []) ms one in
    let b = object_in (123 ∷ r) ns two in
    joined_trees p r k ms ns a b a.tree b.tree refl refl d e l m has_one has_two gone
