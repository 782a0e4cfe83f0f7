-- A map under refs, with a row put.
use Rattle.std.proofs.Common.{◌≡◌, ℕ, true, false, cond, List, Some, refl, sym, ap, ◌∙◌, inl, inr, is_some, Ordering}
use Rattle.std.proofs.lemmas.Bool.{cases_Bool, false≢true}
use Rattle.std.proofs.lemmas.Slice.Eq.{bytes_eq-Decides}
use Rattle.std.specs.Str.{bytes_eq}
use Rattle.std.specs.Ordering.{is_eq, eq_by_cmp}
use Rattle.std.specs.declared.cmp.Ordering.TheVariants.{Less, Equal, Greater}
use Rattle.std.specs.Cmp.{eq_by_cmp_equiv}
use Rattle.std.specs.FinMap.{FinMap, get, insert, contains_key, get-insert}
use Rattle.blobref.specs.Blobref.{ref_cmp}
use Rattle.index_rows.specs.Pairs.{Pair, pair_cmp}
use Rattle.index_rows.proofs.Orders.{ref_total, ref_same, pair_same}

same_eq : (q k : List ℕ) → bytes_eq q k ≡ true → eq_by_cmp ref_cmp q k ≡ true
same_eq q k h = ap (eq_by_cmp ref_cmp q) (sym ((bytes_eq-Decides q k).0 h)) ∙ (eq_by_cmp_equiv ref_total).refl q

other_eq : (q k : List ℕ) → bytes_eq q k ≡ false → eq_by_cmp ref_cmp q k ≡ false
other_eq q k h = by (ref_cmp q k) refl
  where
    by : (r : Ordering) → ref_cmp q k ≡ r → is_eq (ref_cmp q k) ≡ false
    by Less is = ap is_eq is
    by Equal is = absurd (false≢true (sym h ∙ (bytes_eq-Decides q k).1 (ref_same q k is)))
    by Greater is = ap is_eq is

pub other_pair : (q k : Pair) → bytes_eq q.0 k.0 ≡ false → eq_by_cmp pair_cmp q k ≡ false
other_pair q k h = by (pair_cmp q k) refl
  where
    by : (r : Ordering) → pair_cmp q k ≡ r → is_eq (pair_cmp q k) ≡ false
    by Less is = ap is_eq is
    by Equal is = absurd (false≢true (sym h ∙ (bytes_eq-Decides q.0 k.0).1 (ap (λ (p : Pair). p.0) (pair_same q k is))))
    by Greater is = ap is_eq is

module _ {R : Type 0} (rows : FinMap ref_cmp R) (w : List ℕ) (s : R) where
  pub put_at : (y : List ℕ) → bytes_eq y w ≡ true → get (insert rows w s) y ≡ Some s
  put_at y t = get-insert ref_total rows w s y ∙ ap (λ b. cond b (Some s) (get rows y)) (same_eq y w t)

  pub put_beside : (y : List ℕ) → bytes_eq y w ≡ false → get (insert rows w s) y ≡ get rows y
  put_beside y f = get-insert ref_total rows w s y ∙ ap (λ b. cond b (Some s) (get rows y)) (other_eq y w f)

  -- where w had a row, the same refs have
  pub put_over : (was : R) → get rows w ≡ Some was → (y : List ℕ)
      → contains_key (insert rows w s) y ≡ contains_key rows y
  put_over was h y = elim (cases_Bool (bytes_eq y w)) [
    | inl t ↦ ap is_some (put_at y t) ∙ sym (ap is_some (ap (get rows) ((bytes_eq-Decides y w).0 t) ∙ h))
    | inr f ↦ ap is_some (put_beside y f)
  ]
