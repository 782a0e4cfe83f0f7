-- A fault that is told is the first one.
use Rattle.std.proofs.Common.{◌≡◌, ◌∙◌, ℕ, Bool, false, List, [], ◌∷◌, Option, Some, None, option_and_then, if◌then◌else◌, refl, sym, ap, subst}
use Rattle.serde_json.specs.Data.{Data}
use Rattle.serde_json.specs.Find.{get}
use Rattle.query_read.specs.declared.fault.QueryFault.{QueryFault}
use Rattle.query_read.specs.Faults.{Fault, Key, Tells, or_else, join, bad_value, below, keys_fault}
use Rattle.query_read.proofs.Conditions.{AllNone}

keys_sound : (ks : List Key) (path : List ℕ) (d : Data) → AllNone ks path d → keys_fault ks path d ≡ None
keys_sound [] path d all = refl
keys_sound (k ∷ ks) path d all = (λ i. or_else (all.0 i) (keys_fault ks path d)) ∙ keys_sound ks path d all.1

-- the value under a key has a fault, or none
pub told_under : (fault : Fault) (key path at : List ℕ) (d e : Data) (f : QueryFault) → get key d ≡ Some e → at ≡ join path key
    → Tells (fault at e) f → Tells (below fault key path d) f
told_under fault key path at d e f found is tells = subst (λ o. Tells o f) (ap (λ p. fault p e) is ∙ sym (ap (option_and_then (fault (join path key))) found)) tells

pub sound_under : (fault : Fault) (key path at : List ℕ) (d e : Data) → get key d ≡ Some e → at ≡ join path key
    → fault at e ≡ None → below fault key path d ≡ None
sound_under fault key path at d e found is none = ap (option_and_then (fault (join path key))) found ∙ sym (ap (λ p. fault p e) is) ∙ none

-- the object as a whole doesn't meet its condition
pub told_whole : (shape : Option QueryFault) (ks : List Key) (path : List ℕ) (d : Data) (whole : Bool) (f : QueryFault) → shape ≡ None → AllNone ks path d
    → whole ≡ false → Tells (bad_value path) f → Tells (or_else shape (or_else (keys_fault ks path d) (if whole then None else bad_value path))) f
told_whole shape ks path d whole f fits none fails tells =
    subst (λ o. Tells o f) (sym (λ i. or_else (fits i) (or_else (keys_sound ks path d none i) (if fails i then None else bad_value path)))) tells
