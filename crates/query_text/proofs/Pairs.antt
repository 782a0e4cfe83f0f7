-- The pairs of an object in a row.
use Rattle.std.proofs.Common.{◌≡◌, ◌∙◌, ◌++◌, ◌+◌, ℕ, ℤ, suc, true, false, List, [], ◌∷◌, codes, length, set, nat_lt, flat_map, Result, Ok, Err, OnOk, Option, Some, None, if◌then◌else◌, refl, sym, ap, arith}
use Rattle.std.proofs.Math.Seq.{set-append_seam}
use Rattle.std.proofs.lemmas.Bool.{lt-ltb}
use Rattle.std.proofs.lemmas.Bool.Decides.{nat_tests}
use Rattle.std.proofs.lemmas.Grind.{flat_map-append}
use Rattle.std.proofs.lemmas.List.{append_assoc, append-nil, length-append}
use Rattle.schema_date.specs.DateTexts.{IsDateText}
use Rattle.json.specs.Print.{quoted}
use Rattle.json_laws.specs.Written.{Pair, Item, pair_text, object_text}
use Rattle.query_text.specs.Text.{Spelling, SpellsDates, Field, pairs_of, present, object_item, text_item, date_item}
use Rattle.query_text.specs.Pairs.{key_text, field_text, fields_text, opened}

-- each pair with a comma before it
abbrev behind : List Pair → List ℕ
behind ps = flat_map (λ p. codes "," ++ pair_text p) ps

one : (key : List ℕ) (o : Option Item) → behind (pairs_of key o) ≡ field_text key o
one key None = refl
one key (Some item) =
    append-nil (codes "," ++ (quoted key ++ codes ":" ++ item.text))
    ∙ ap (λ l. 44 ∷ l) (append_assoc (quoted key) (codes ":") item.text)
    ∙ sym (ap (λ l. 44 ∷ l) (append_assoc (quoted key) (codes ":") item.text))

all_behind : (fs : List Field) → behind (present fs) ≡ fields_text fs
all_behind [] = refl
all_behind (f ∷ fs) =
    flat_map-append (λ p. codes "," ++ pair_text p) (pairs_of f.0 f.1) (present fs)
    ∙ (λ i. one f.0 f.1 i ++ all_behind fs i)

-- what was written so far, key by key
abbrev pub Steps : List ℕ → List Field → List ℕ → Type 0
Steps old [] new = new ≡ old
Steps old (f ∷ fs) new = (mid : List ℕ) × (mid ≡ old ++ field_text f.0 f.1) × Steps mid fs new

all_steps : (fs : List Field) (old new : List ℕ) → Steps old fs new → new ≡ old ++ fields_text fs
all_steps [] old new s = s ∙ sym (append-nil old)
all_steps (f ∷ fs) old new s =
    all_steps fs s.0 new s.2 ∙ ap (λ l. l ++ fields_text fs) s.1 ∙ append_assoc old (field_text f.0 f.1) (fields_text fs)

opened_at : (old : List ℕ) (y : ℕ) (ys : List ℕ) → opened (length old) (old ++ y ∷ ys) ≡ old ++ 123 ∷ ys
opened_at old y ys = ap (λ b. if b then set (old ++ y ∷ ys) (length old) 123 else old ++ y ∷ ys ++ codes "{") (longer old y ys) ∙ set-append_seam old y ys 123
  where
    longer : (old : List ℕ) (y : ℕ) (ys : List ℕ) → nat_lt (length old) (length (old ++ y ∷ ys)) ≡ true
    longer old y ys = let e : length (old ++ y ∷ ys) ≡ length old + suc (length ys) = length-append old (y ∷ ys) in lt-ltb _ _ (omega arith)

opened_empty : (old : List ℕ) → opened (length old) (old ++ []) ≡ old ++ codes "{"
opened_empty old = ap (λ l. opened (length old) l) (append-nil old) ∙ ap (λ b. if b then set old (length old) 123 else old ++ codes "{") (not_less (length old))
  where
    not_less : (n : ℕ) → nat_lt n n ≡ false
    not_less n = grind (arith, nat_tests)

closed : (old : List ℕ) (ps : List Pair) → opened (length old) (old ++ behind ps) ++ codes "}" ≡ old ++ object_text ps
closed old [] = ap (λ l. l ++ codes "}") (opened_empty old) ∙ append_assoc old (codes "{") (codes "}")
closed old (p ∷ ps) =
    ap (λ l. l ++ codes "}") (opened_at old 44 (pair_text p ++ behind ps))
    ∙ append_assoc old (123 ∷ (pair_text p ++ behind ps)) (codes "}")

-- an object that was written key by key and then closed
pub finished : {T E : Type 0} (fs : List Field) (old out new : List ℕ) (start : ℕ) (r : Result T E) → start ≡ length old → Steps old fs out
    → OnOk r (new ≡ opened start out ++ codes "}") → OnOk r (new ≡ old ++ (object_item fs).text)
finished fs old out new start (Ok x) at steps e =
    e ∙ (λ i. opened (at i) ((all_steps fs old out steps ∙ ap (λ l. old ++ l) (sym (all_behind fs))) i) ++ codes "}") ∙ closed old (present fs)
finished fs old out new start (Err x) at steps e = tt

-- the same behind its key
pub finished_pair : {T E : Type 0} (key : List ℕ) (fs : List Field) (item : Option Item) (old mid out new : List ℕ) (start : ℕ) (r : Result T E)
    → item ≡ Some (object_item fs) → mid ≡ old ++ key_text key → start ≡ length mid → Steps mid fs out
    → OnOk r (new ≡ opened start out ++ codes "}") → OnOk r (new ≡ old ++ field_text key item)
finished_pair {E = E} key fs item old mid out new start (Ok x) is from at steps e =
    finished {E = E} fs mid out new start (Ok x) at steps e
    ∙ ap (λ l. l ++ (object_item fs).text) from
    ∙ append_assoc old (key_text key) (object_item fs).text
    ∙ ap (λ o. old ++ field_text key o) (sym is)
finished_pair key fs item old mid out new start (Err x) is from at steps e = tt

pub finished_spelled : {T E : Type 0} (key : List ℕ) (fs : Spelling → List Field) (item : Spelling → Option Item) (old mid out new : List ℕ) (start : ℕ) (r : Result T E)
    → ((spell : Spelling) → item spell ≡ Some (object_item (fs spell))) → mid ≡ old ++ key_text key → start ≡ length mid
    → ((spell : Spelling) → SpellsDates spell → Steps mid (fs spell) out)
    → OnOk r (new ≡ opened start out ++ codes "}")
    → OnOk r ((spell : Spelling) → SpellsDates spell → new ≡ old ++ field_text key (item spell))
finished_spelled {E = E} key fs item old mid out new start (Ok x) is from at steps e =
    λ spell spells. finished_pair {E = E} key (fs spell) (item spell) old mid out new start (Ok x) (is spell) from at (steps spell spells) e
finished_spelled key fs item old mid out new start (Err x) is from at steps e = tt

-- a date's written text is its spelling
pub dated : {T E : Type 0} (r : Result T E) (old new key : List ℕ) (z : ℤ) (text said : List ℕ) → IsDateText z text → said ≡ text
    → OnOk r (new ≡ old ++ field_text key (Some (text_item said)))
    → OnOk r ((spell : Spelling) → SpellsDates spell → new ≡ old ++ field_text key (Some (date_item spell z)))
dated (Ok x) old new key z text said is same e =
    λ spell spells. e ∙ ap (λ t. old ++ field_text key (Some (text_item t))) (same ∙ sym (spells z text is))
dated (Err x) old new key z text said is same e = tt

-- an object that stands alone
pub finished_alone : (fs : List Field) (old out new : List ℕ) (start : ℕ) → old ≡ [] → start ≡ 0 → Steps old fs out
    → new ≡ opened start out ++ codes "}" → new ≡ (object_item fs).text
finished_alone fs old out new start empty at steps e =
    finished {T = Unit {0}} {E = Unit {0}} fs old out new start (Ok tt) (at ∙ sym (ap length empty)) steps e ∙ ap (λ l. l ++ (object_item fs).text) empty

-- what holds in any case
pub also : {T E P : Type 0} (r : Result T E) → P → OnOk r P
also (Ok x) p = p
also (Err e) p = tt
