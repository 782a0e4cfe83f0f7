-- A tree that is made of entries, and the finite map that its own entries make.
use Rattle.std.proofs.Common.{◌≡◌, ℕ, suc, Bool, true, false, not, cond, List, [], ◌∷◌, filter, Option, None, Some, IfSome, Bor, option_copied, refl, sym, ap, subst, ◌∙◌, arith}
use Rattle.std.specs.declared.ops.Bound.TheVariants.{Unbounded}
use Rattle.std.specs.List.{list_all}
use Rattle.std.specs.List.Sorted.{IsStrictlySortedBy}
use Rattle.std.specs.Map.{lookup, keys_of, update, update_all}
use Rattle.std.specs.Str.{bytes_eq}
use Rattle.std.specs.Ordering.{eq_by_cmp}
use Rattle.std.specs.Cmp.{eq_by_cmp_equiv}
use Rattle.std.specs.BTreeMap.{is_at}
use Rattle.std.specs.BTreeMap.Range.{is_from_start, range_contains}
use Rattle.std.specs.FinMap.{get, find, entries, from_entries, same_map, get-from_entries}
use Rattle.std.proofs.lemmas.Bool.{and_parts, cond-false, not-true}
use Rattle.std.proofs.lemmas.Slice.Eq.{bytes_eq-Decides}
use Rattle.std.proofs.lemmas.Map.Text.{is_eq-slice_cmp}
use Rattle.blobref.specs.Blobref.{ref_cmp}
use Rattle.schema_fact.specs.declared.kinds.Fact.{Fact}
use Rattle.schema_fact.specs.Validity.{IsValid}
use Rattle.claim_model.specs.Facts.{Entry, Facts, AreDistinct, AreValid}
use Rattle.index_look.specs.Walk.{entries_after, ref_after}
use Rattle.index_rows.specs.Stored.{AreAllValid, start_after}
use Rattle.index_rows.proofs.Orders.{ref_total, ref_same}
use Rattle.index_rows.proofs.RefMaps.{get_at}
use Rattle.index_rows.proofs.Groups.{from_range, from_range_none}
use Rattle.index_rows.proofs.Stored.{first_after, none_after}

-- the first of two answers, else the second
abbrev either : Option Fact → Option Fact → Option Fact
either None other = other
either (Some fact) other = Some fact

either-none : (o : Option Fact) → either o None ≡ o
either-none None = refl
either-none (Some fact) = refl

absent : (es : List Entry) (q : List ℕ) → list_all (λ f. not (bytes_eq q f.0)) es ≡ true → find ref_cmp q es ≡ None
absent [] q h = refl
absent (e ∷ es) q h =
    let parts = and_parts (not (bytes_eq q e.0)) (list_all (λ f. not (bytes_eq q f.0)) es) h in
    cond-false (eq_by_cmp ref_cmp q e.0) (Some e.1) (find ref_cmp q es) (is_eq-slice_cmp q e.0 ∙ not-true (bytes_eq q e.0) parts.0)
    ∙ absent es q parts.1

-- entries of distinct refs that are inserted in turn
over : (f : List ℕ → Option Fact) (es : List Entry) (q : List ℕ) → AreDistinct es → update_all (eq_by_cmp ref_cmp) f es q ≡ either (find ref_cmp q es) (f q)
over f [] q distinct = refl
over f (e ∷ es) q distinct =
    over (update (eq_by_cmp ref_cmp) f e.0 (Some e.1)) es q distinct.1
    ∙ ap (λ b. either (find ref_cmp q es) (cond b (Some e.1) (f q))) ((eq_by_cmp_equiv ref_total).symm e.0 q)
    ∙ by (eq_by_cmp ref_cmp q e.0) refl
  where
    by : (b : Bool) → eq_by_cmp ref_cmp q e.0 ≡ b → either (find ref_cmp q es) (cond b (Some e.1) (f q)) ≡ either (cond b (Some e.1) (find ref_cmp q es)) (f q)
    by true is =
        let here : q ≡ e.0 = (bytes_eq-Decides q e.0).0 (sym (is_eq-slice_cmp q e.0) ∙ is) in
        ap (λ o. either o (Some e.1)) (ap (λ r. find ref_cmp r es) here ∙ absent es e.0 distinct.0)
    by false is = refl

-- what is made of a list of distinct refs is the map of the list
pub collected : (es xs fs : List Entry) → AreDistinct es → xs ≡ es → ((q : List ℕ) → lookup (is_at (ref_cmp q)) fs ≡ update_all (eq_by_cmp ref_cmp) (λ _. None) xs q)
    → from_entries {R = ref_cmp} fs ≡ from_entries es
collected es xs fs distinct all made = same_map ref_total ref_same _ _ (λ q.
    get_at ref_total ref_same fs q ∙ made q ∙ ap (λ ys. update_all (eq_by_cmp ref_cmp) (λ _. None) ys q) all
    ∙ over (λ _. None) es q distinct ∙ either-none (find ref_cmp q es) ∙ sym (get-from_entries ref_total es q))

valid_found : (es : List Entry) (q : List ℕ) → AreValid es → IfSome (find ref_cmp q es) IsValid
valid_found [] q h = tt
valid_found (e ∷ es) q h = by (eq_by_cmp ref_cmp q e.0) (valid_found es q (λ k d lt. h (suc k) d (omega arith)))
  where
    by : (b : Bool) → IfSome (find ref_cmp q es) IsValid → IfSome (cond b (Some e.1) (find ref_cmp q es)) IsValid
    by true more = h 0 e (omega arith)
    by false more = more

-- the facts of a valid list are valid in its map
pub valid_in_map : (es : List Entry) → AreValid es → AreAllValid (from_entries es)
valid_in_map es h q fact is = subst (λ (o : Option Fact). IfSome o IsValid) (sym (get-from_entries ref_total es q) ∙ is) (valid_found es q h)

-- and so is what a look-up shows of a map
pub valid_shown : (facts : Facts) (q : List ℕ) (shown : Option (Bor Fact)) → AreAllValid facts → option_copied shown ≡ get facts q → IfSome shown (λ f. IsValid f.now)
valid_shown facts q None all is = tt
valid_shown facts q (Some fact) all is = all q fact.now (sym is)

-- the facts behind a ref
from_start : (facts : Facts) (after : Option (List ℕ)) → filter (λ e. is_from_start ref_cmp (start_after after) e.0) (entries facts) ≡ entries_after facts after
from_start facts None = refl
from_start facts (Some q) = refl

module _ (es : List Entry) (after : Option (List ℕ)) (sorted : IsStrictlySortedBy ref_cmp (keys_of es)) where
  pub range_first : (f : Entry) (fs : List Entry) → filter (λ e. range_contains ref_cmp (start_after after) Unbounded e.0) es ≡ f ∷ fs → Some f.0 ≡ ref_after (from_entries es) after
  range_first f fs h = first_after (from_entries es) after f _ (sym (from_start (from_entries es) after) ∙ from_range ref_total ref_same es (start_after after) sorted f fs h)

  pub range_none : filter (λ e. range_contains ref_cmp (start_after after) Unbounded e.0) es ≡ [] → None ≡ ref_after (from_entries es) after
  range_none h = none_after (from_entries es) after (sym (from_start (from_entries es) after) ∙ from_range_none ref_total ref_same es (start_after after) sorted h)
