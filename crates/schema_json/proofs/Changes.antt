-- What changes say, by the fields of their object, and lists of them.
use Rattle.std.proofs.Common.{◌≡◌, ℕ, List, [], ◌∷◌, ◌++◌, codes, Option, Some, None, option_and_then, option_map, refl, sym, ap, ◌∙◌, append_assoc}
use Rattle.serde_json.specs.Data.{Data, Items, item}
use Rattle.serde_json.specs.Find.{get}
use Rattle.schema_fact.specs.declared.changes.Act.{Act}
use Rattle.schema_fact.specs.declared.changes.Act.TheVariants as act
use Rattle.schema_fact.specs.declared.changes.Change.{Change}
use Rattle.schema_fact.specs.declared.kinds.What.TheVariants.{Set, Add, Del}
use Rattle.schema_json.specs.Fields.{ref_at, text_at, text_or_empty}
use Rattle.schema_json.specs.Facts.{attribute_of, change_by, set_change, add_change, del_change, set_of, add_of, del_of, change_in, changes_in}

abbrev change : Act → List ℕ → List ℕ → List ℕ → Change
change act on attr value = record { on = on; act = act; attr = attr; value = value }

change_is : (act : Act) (d : Data) (value : Option (List ℕ)) (on attr text : List ℕ)
    → ref_at (codes "permaNode") d ≡ Some on → attribute_of d ≡ Some attr → value ≡ Some text
    → change_by act value d ≡ Some (change act on attr text)
change_is act d value on attr text h k l =
    ap (λ (o : Option (List ℕ)). option_and_then (λ r. option_and_then (λ name. option_map (λ t. change act r name t) value) (attribute_of d)) o) h
    ∙ ap (λ (o : Option (List ℕ)). option_and_then (λ name. option_map (λ t. change act on name t) value) o) k
    ∙ ap (λ (o : Option (List ℕ)). option_map (λ t. change act on attr t) o) l

pub set_change_is : (d : Data) (on attr value : List ℕ)
    → ref_at (codes "permaNode") d ≡ Some on → attribute_of d ≡ Some attr → text_at (codes "value") d ≡ Some value
    → set_change d ≡ Some (change act.Set on attr value)
set_change_is d on attr value = change_is act.Set d (text_at (codes "value") d) on attr value

pub add_change_is : (d : Data) (on attr value : List ℕ)
    → ref_at (codes "permaNode") d ≡ Some on → attribute_of d ≡ Some attr → text_at (codes "value") d ≡ Some value
    → add_change d ≡ Some (change act.Add on attr value)
add_change_is d on attr value = change_is act.Add d (text_at (codes "value") d) on attr value

pub del_change_is : (d : Data) (on attr value : List ℕ)
    → ref_at (codes "permaNode") d ≡ Some on → attribute_of d ≡ Some attr → text_or_empty (get (codes "value") d) ≡ Some value
    → del_change d ≡ Some (change act.Del on attr value)
del_change_is d on attr value = change_is act.Del d (text_or_empty (get (codes "value") d)) on attr value

pub set_is : (d : Data) (on attr value : List ℕ)
    → ref_at (codes "permaNode") d ≡ Some on → attribute_of d ≡ Some attr → text_at (codes "value") d ≡ Some value → set_of d ≡ Some (Set on attr value)
set_is d on attr value h k l = ap (option_map (λ (c : Change). Set c.on c.attr c.value)) (set_change_is d on attr value h k l)

pub add_is : (d : Data) (on attr value : List ℕ)
    → ref_at (codes "permaNode") d ≡ Some on → attribute_of d ≡ Some attr → text_at (codes "value") d ≡ Some value → add_of d ≡ Some (Add on attr value)
add_is d on attr value h k l = ap (option_map (λ (c : Change). Add c.on c.attr c.value)) (add_change_is d on attr value h k l)

pub del_is : (d : Data) (on attr value : List ℕ)
    → ref_at (codes "permaNode") d ≡ Some on → attribute_of d ≡ Some attr → text_or_empty (get (codes "value") d) ≡ Some value → del_of d ≡ Some (Del on attr value)
del_is d on attr value h k l = ap (option_map (λ (c : Change). Del c.on c.attr c.value)) (del_change_is d on attr value h k l)

-- one change more is read, as the first of the items
pub next_change : (changes : List Change) (d : Data) (rest : Items) (c : Change) → change_in d ≡ Some c
    → option_map (λ more. (changes ++ c ∷ []) ++ more) (changes_in rest) ≡ option_map (λ more. changes ++ more) (changes_in (item d rest))
next_change changes d rest c is =
    by (changes_in rest)
    ∙ sym (ap (λ (o : Option Change). option_map (λ more. changes ++ more) (option_and_then (λ first. option_map (λ others. first ∷ others) (changes_in rest)) o)) is)
  where
    by : (o : Option (List Change)) → option_map (λ more. (changes ++ c ∷ []) ++ more) o ≡ option_map (λ more. changes ++ more) (option_map (λ others. c ∷ others) o)
    by None = refl
    by (Some others) = ap Some (append_assoc changes (c ∷ []) others)
