-- The facts of Inserts, with one more.
use Rattle.std.proofs.Common.{◌≡◌, ℕ, Bool, true, false, cond, List, [], ◌∷◌, ◌++◌, map, Option, Some, None, is_some, refl, sym, ap, ◌∙◌}
use mathlib.Core.List.{map-append}
use Rattle.std.specs.Cmp.Lexicographic.{nat_list_cmp_total}
use Rattle.std.specs.Ordering.{eq_by_cmp}
use Rattle.std.specs.FinMap.{find, from_entries, get, insert, from_entries_push, get-from_entries, same_map}
use Rattle.blobref.specs.Blobref.{ref_cmp}
use Rattle.schema_fact.specs.declared.kinds.Fact.{Fact}
use Rattle.claim_model.specs.Facts.{Entry}
use Rattle.index_look.proofs.Entries.{same_ref}
use Rattle.index_look.proofs.Order.{is_Equal}
use Rattle.index_rows.specs.Loose.{with_fact}
use Rattle.histories.specs.declared.events.Insertion.{Insertion}
use Rattle.histories.specs.Indexes.{indexed}

-- the first answer, and else the second
abbrev pick : Option Fact → Option Fact → Option Fact
pick None o = o
pick (Some x) o = Some x

pick_cond : (b : Bool) (x : Fact) (o p : Option Fact) → cond b (Some x) (pick o p) ≡ pick (cond b (Some x) o) p
pick_cond true x o p = refl
pick_cond false x o p = refl

find_append : (q : List ℕ) (es fs : List Entry) → find ref_cmp q (es ++ fs) ≡ pick (find ref_cmp q es) (find ref_cmp q fs)
find_append q [] fs = refl
find_append q (e ∷ es) fs = ap (cond (eq_by_cmp ref_cmp q e.0) (Some e.1)) (find_append q es fs)
    ∙ pick_cond (eq_by_cmp ref_cmp q e.0) e.1 (find ref_cmp q es) (find ref_cmp q fs)

-- of entries with the same ref the first one stands
module _ (es : List Entry) (r : List ℕ) (fact : Fact) where
  at_ref : get (from_entries {R = ref_cmp} es) r ≡ find ref_cmp r es
  at_ref = get-from_entries nat_list_cmp_total es r

  stays : (x : Fact) → find ref_cmp r es ≡ Some x → (q : List ℕ) → find ref_cmp q (es ++ (r, fact) ∷ []) ≡ find ref_cmp q es
  stays x had q = find_append q es ((r, fact) ∷ []) ∙ by (find ref_cmp q es) refl (eq_by_cmp ref_cmp q r) refl
    where
      by : (o : Option Fact) → find ref_cmp q es ≡ o → (b : Bool) → eq_by_cmp ref_cmp q r ≡ b → pick o (cond b (Some fact) None) ≡ o
      by (Some y) here b tie = refl
      by None here false tie = refl
      by None here true tie =
          let is : q ≡ r = same_ref q r (is_Equal (ref_cmp q r) tie) in
          let none : Some x ≡ None = sym had ∙ sym (ap (λ (k : List ℕ). find ref_cmp k es) is) ∙ here in
          absurd (cc none)

  pushed : from_entries {R = ref_cmp} (es ++ (r, fact) ∷ []) ≡ with_fact (from_entries es) r fact
  pushed = by (find ref_cmp r es) refl
    where
      by : (o : Option Fact) → find ref_cmp r es ≡ o → from_entries {R = ref_cmp} (es ++ (r, fact) ∷ []) ≡ with_fact (from_entries es) r fact
      by None none = from_entries_push nat_list_cmp_total same_ref es r fact none
          ∙ ap (λ (b : Bool). cond b (from_entries {R = ref_cmp} es) (insert (from_entries es) r fact)) (sym (ap is_some (at_ref ∙ none)))
      by (Some x) had = same_map nat_list_cmp_total same_ref _ _ (λ q. get-from_entries nat_list_cmp_total (es ++ (r, fact) ∷ []) q ∙ stays x had q ∙ sym (get-from_entries nat_list_cmp_total es q))
          ∙ ap (λ (b : Bool). cond b (from_entries {R = ref_cmp} es) (insert (from_entries es) r fact)) (sym (ap is_some (at_ref ∙ had)))

pub indexed_more : (g : List Insertion) (i : Insertion) → indexed (g ++ i ∷ []) ≡ with_fact (indexed g) i.r i.fact
indexed_more g i = ap (λ (es : List Entry). from_entries {R = ref_cmp} es) (map-append (λ (i : Insertion). (i.r, i.fact)) g (i ∷ []))
    ∙ pushed (map (λ (i : Insertion). (i.r, i.fact)) g) i.r i.fact
