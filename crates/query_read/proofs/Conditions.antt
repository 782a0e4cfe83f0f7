-- What an object without a fault says of its keys.
use Rattle.std.proofs.Common.{◌≡◌, ℕ, Bool, true, false, List, [], ◌∷◌, map, Option, Some, None, is_some, option_and_then, if◌then◌else◌, refl, sym, ap}
use Rattle.std.proofs.lemmas.Bool.{false≢true}
use Rattle.serde_json.specs.Data.{Data}
use Rattle.search_query.specs.Valid.{if_present}
use Rattle.query_read.specs.declared.fault.QueryFault.{QueryFault}
use Rattle.query_read.specs.Faults.{Fault, Key, or_else, below, shape_fault, keys_fault, object_fault, bad_value}
use Rattle.query_read.specs.Grammar.{leaf}

pub both_none : (a b : Option QueryFault) → or_else a b ≡ None → (a ≡ None) × (b ≡ None)
both_none None b e = (refl, e)
both_none (Some f) b e = absurd (false≢true (sym (ap is_some e)))

-- none of these keys has a fault
abbrev pub AllNone : List Key → List ℕ → Data → Type 0
AllNone [] path d = Unit {0}
AllNone (k ∷ ks) path d = (below k.1 k.0 path d ≡ None) × AllNone ks path d

pub keys_none : (ks : List Key) (path : List ℕ) (d : Data) → keys_fault ks path d ≡ None → AllNone ks path d
keys_none [] path d e = tt
keys_none (k ∷ ks) path d e =
    let p = both_none (below k.1 k.0 path d) (keys_fault ks path d) e in
    (p.0, keys_none ks path d p.1)

whole_none : (b : Bool) (path : List ℕ) → (if b then None else bad_value path) ≡ None → b ≡ true
whole_none true path e = refl
whole_none false path e = absurd (false≢true (sym (ap is_some e)))

-- an object without a fault: no key has one, and it meets its condition as a whole
pub object_none : (ks : List Key) (whole : Data → Bool) (path : List ℕ) (d : Data) → object_fault ks whole path d ≡ None
    → AllNone ks path d × (whole d ≡ true)
object_none ks whole path d e =
    let p = both_none (shape_fault (map (λ k. k.0) ks) path d) _ e in
    let q = both_none (keys_fault ks path d) _ p.1 in
    (keys_none ks path d q.0, whole_none (whole d) path q.1)

leaf_read : {A : Type 0} (o : Option A) (path : List ℕ) → (if is_some o then None else bad_value path) ≡ None → is_some o ≡ true
leaf_read None path e = absurd (false≢true (sym (ap is_some e)))
leaf_read (Some x) path e = refl

-- what stands under a key without a fault is read
pub present : {A : Type 0} (reads : Data → Option A) (path : List ℕ) (o : Option Data) → option_and_then (leaf reads path) o ≡ None
    → is_some (option_and_then reads o) ≡ is_some o
present reads path None e = refl
present reads path (Some d) e = leaf_read (reads d) path e

pub kept : {A : Type 0} (f : Data → A) (o : Option Data) → is_some (option_and_then (λ d. Some (f d)) o) ≡ is_some o
kept f None = refl
kept f (Some d) = refl

-- an object under a key meets what holds of such objects without a fault
pub held : {A : Type 0} (valid : A → Bool) (fault : Fault) (f : Data → A)
    → ((path : List ℕ) (d : Data) → fault path d ≡ None → valid (f d) ≡ true)
    → (path : List ℕ) (o : Option Data) → option_and_then (fault path) o ≡ None → if_present valid (option_and_then (λ d. Some (f d)) o) ≡ true
held valid fault f good path None e = refl
held valid fault f good path (Some d) e = good path d e
