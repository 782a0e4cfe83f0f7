-- One change of a claim after another, and one claim after another.
use Rattle.std.proofs.Common.{◌≡◌, ◌<◌, ℕ, zero, suc, Bool, true, false, ◌||◌, cond, List, [], ◌∷◌, length, map, ◌&&◌, drop, filter, fold, refl, slice_get, arith}
use Rattle.std.specs.List.{list_any}
use Rattle.std.specs.Str.{bytes_eq}
use Rattle.schema_fact.specs.declared.changes.Change.{Change}
use Rattle.claim_model.specs.Facts.{passes, Entry}
use Rattle.claim_model.specs.Changes.{change_values}
use Rattle.index_look.specs.Claims.{values_with_own, is_about, about}

module _ (p name : List ℕ) where
  abbrev own : List Change → List Change
  own cs = filter (λ (c : Change). bytes_eq p c.on) cs

  -- what the changes behind a place leave behind the one there
  pub next_applied : (cs : List Change) (i : ℕ) (found : List (List ℕ)) → i < length cs
      → fold (change_values name) (values_with_own p name found (slice_get cs i)) (own (drop (suc i) cs))
      ≡ fold (change_values name) found (own (drop i cs))
  next_applied [] i found lt = absurd (omega arith)
  next_applied (c ∷ cs) zero found lt = by (bytes_eq p c.on)
    where
      by : (b : Bool) → fold (change_values name) (cond b (change_values name found c) found) (own cs)
          ≡ fold (change_values name) found (cond b (c ∷ own cs) (own cs))
      by true = refl
      by false = refl
  next_applied (c ∷ cs) (suc i) found lt = next_applied cs i found (omega arith)

-- whether a change from a place on passes
pub next_passes : (test : Change → Bool) (cs : List Change) (i : ℕ) → i < length cs
    → list_any test (drop i cs) ≡ (passes test (slice_get cs i) || list_any test (drop (suc i) cs))
next_passes test [] i lt = absurd (omega arith)
next_passes test (c ∷ cs) zero lt = refl
next_passes test (c ∷ cs) (suc i) lt = next_passes test cs i (omega arith)

-- the claims about a ref, with one entry more in front
pub about-cons : (test : List ℕ → Bool) (q : List ℕ) (e : Entry) (es : List Entry)
    → about test q (e ∷ es) ≡ cond (test e.0 && is_about q e.1.kind) ((q, e.0) ∷ about test q es) (about test q es)
about-cons test q e es = by (test e.0 && is_about q e.1.kind)
  where
    behind : List Entry
    behind = filter (λ (f : Entry). test f.0 && is_about q f.1.kind) es

    by : (b : Bool) → map {B = List ℕ × List ℕ} (λ (f : Entry). (q, f.0)) (cond b (e ∷ behind) behind)
        ≡ cond b ((q, e.0) ∷ map (λ (f : Entry). (q, f.0)) behind) (map (λ (f : Entry). (q, f.0)) behind)
    by true = refl
    by false = refl
