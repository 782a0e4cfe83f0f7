-- A tree under texts, and the map under their bytes.
use Rattle.std.proofs.Common.{◌≡◌, ℕ, cond, List, [], ◌∷◌, map, Some, String, BTreeMap, Global, string_bytes, string_cmp, nat_cmp, refl, sym, ap, ◌∙◌}
use Rattle.std.proofs.lemmas.Map.Text.{is_eq-slice_cmp, btree_map_updates_text}
use Rattle.std.specs.Cmp.Lexicographic.{slice_cmp, nat_list_eq_equiv}
use Rattle.std.specs.BTreeMap.{is_at, UpdatesBy}
use Rattle.std.specs.Map.{lookup}
use Rattle.std.specs.FinMap.{get, find, insert, same_map, get-from_entries, get-insert}
use Rattle.blobref.specs.Blobref.{ref_cmp}
use Rattle.index_rows.proofs.Orders.{ref_total, ref_same}
use Rattle.attr_fold.specs.AttributeTurns.{seen}

abbrev Entry : Type 0
Entry = String Global × ℕ

find_text : (q : List ℕ) (es : List Entry)
    → find ref_cmp q (map (λ (e : Entry). (string_bytes e.0, e.1)) es) ≡ lookup (is_at (λ k. slice_cmp nat_cmp q (string_bytes k))) es
find_text q [] = refl
find_text q (e ∷ es) = ap (cond (is_at (ref_cmp q) (string_bytes e.0)) (Some e.1)) (find_text q es)

-- what the map has under some bytes is what the tree has there
pub seen_at : (es : List Entry) (q : List ℕ) → get (seen es) q ≡ lookup (is_at (λ k. slice_cmp nat_cmp q (string_bytes k))) es
seen_at es q = get-from_entries ref_total (map (λ (e : Entry). (string_bytes e.0, e.1)) es) q ∙ find_text q es

pub seen_put : (m n : BTreeMap (String Global) ℕ) (k : List ℕ) (t : ℕ)
    → UpdatesBy string_cmp (λ key. slice_cmp nat_cmp k (string_bytes key)) m n (Some t) → seen n.entries ≡ insert (seen m.entries) k t
seen_put m n k t h = same_map ref_total ref_same _ _ (λ q.
    seen_at n.entries q ∙ btree_map_updates_text k m n (Some t) h q
    ∙ (λ i. cond ((nat_list_eq_equiv.symm k q ∙ sym (is_eq-slice_cmp q k)) i) (Some t) (sym (seen_at m.entries q) i))
    ∙ sym (get-insert ref_total (seen m.entries) k t q))
