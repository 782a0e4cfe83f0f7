-- A tree of numbers under refs, and the finite map that its entries make; and the number of a ref among rows.
use Rattle.std.proofs.Common.{◌≡◌, ℕ, suc, ◌+◌, cond, Bool, true, false, List, [], ◌∷◌, ◌++◌, length, Option, None, Some, refl, sym, ap, subst, ◌∙◌, arith, nat_eq, map, ◌<◌, slice_index, slice_index_or, append_assoc}
use Rattle.std.proofs.lemmas.List.{append-nil}
use Rattle.std.proofs.lemmas.List.Elements.{All-from_get_or}
use Rattle.std.specs.BTreeMap.{is_at}
use Rattle.std.specs.Map.{lookup}
use Rattle.std.specs.Option.{option_or}
use Rattle.std.specs.List.{position_from}
use Rattle.std.specs.Ordering.{eq_by_cmp}
use Rattle.std.specs.Cmp.{eq_by_cmp_equiv}
use Rattle.std.specs.Cmp.Lexicographic.{pointwise, nat_list_cmp_total, same_text, texts_ties}
use Rattle.std.specs.FinMap.{FinMap, get, insert, remove, from_entries, find, get-from_entries, get-insert, get-remove, same_map, IsAntisymmetric, slice_cmp-IsAntisymmetric, nat_cmp-IsAntisymmetric}
use Rattle.blobref.specs.Blobref.{ref_cmp}
use Rattle.pack_store.specs.declared.rows.Row.{Row}
use Rattle.pack_store.specs.Rows.{number_of, AreBytes, AreNew}

abbrev Entry : Type 0
Entry = List ℕ × ℕ

ref_cmp-IsAntisymmetric : IsAntisymmetric ref_cmp
ref_cmp-IsAntisymmetric = slice_cmp-IsAntisymmetric nat_cmp-IsAntisymmetric

find_ref : (es : List Entry) (q : List ℕ) → find ref_cmp q es ≡ lookup (is_at (ref_cmp q)) es
find_ref [] q = refl
find_ref (e ∷ es) q = ap (cond (is_at (ref_cmp q) e.0) (Some e.1)) (find_ref es q)

-- what the map that the entries make has at a ref
pub get_ref : (es : List Entry) (q : List ℕ) → get (from_entries {R = ref_cmp} es) q ≡ lookup (is_at (ref_cmp q)) es
get_ref es q = get-from_entries nat_list_cmp_total es q ∙ find_ref es q

-- entries that differ at one ref make maps that differ there
pub one_given : (es fs : List Entry) (r : List ℕ) (n : ℕ)
    → ((q : List ℕ) → lookup (is_at (ref_cmp q)) fs ≡ cond (is_at (ref_cmp r) q) (Some n) (lookup (is_at (ref_cmp q)) es))
    → from_entries {R = ref_cmp} fs ≡ insert (from_entries es) r n
one_given es fs r n h = same_map nat_list_cmp_total ref_cmp-IsAntisymmetric _ _ (λ q.
    get_ref fs q ∙ h q ∙ ap (λ b. cond b (Some n) (lookup (is_at (ref_cmp q)) es)) ((eq_by_cmp_equiv nat_list_cmp_total).symm r q)
    ∙ sym (get-insert nat_list_cmp_total (from_entries es) r n q ∙ ap (cond (is_at (ref_cmp q) r) (Some n)) (get_ref es q)))

pub one_taken : (es fs : List Entry) (r : List ℕ)
    → ((q : List ℕ) → lookup (is_at (ref_cmp q)) fs ≡ cond (is_at (ref_cmp r) q) None (lookup (is_at (ref_cmp q)) es))
    → from_entries {R = ref_cmp} fs ≡ remove (from_entries es) r
one_taken es fs r h = same_map nat_list_cmp_total ref_cmp-IsAntisymmetric _ _ (λ q.
    get_ref fs q ∙ h q ∙ ap (λ b. cond b None (lookup (is_at (ref_cmp q)) es)) ((eq_by_cmp_equiv nat_list_cmp_total).symm r q)
    ∙ sym (get-remove nat_list_cmp_total (from_entries es) r q ∙ ap (cond (is_at (ref_cmp q) r) None) (get_ref es q)))

-- ---- the number of a ref

number-push : (n : ℕ) (r : List ℕ) (rows : List Row) (row : Row)
    → position_from (λ (x : Row). pointwise nat_eq r x.r) n (rows ++ row ∷ []) ≡ option_or (position_from (λ (x : Row). pointwise nat_eq r x.r) n rows) (cond (pointwise nat_eq r row.r) (Some (n + length rows)) None)
number-push n r [] row = let e : n + 0 ≡ n = omega arith in rw e refl
number-push n r (x ∷ rows) row = go (pointwise nat_eq r x.r) (number-push (n + 1) r rows row)
  where
    go : (b : Bool) → position_from (λ (x : Row). pointwise nat_eq r x.r) (n + 1) (rows ++ row ∷ []) ≡ option_or (position_from (λ (x : Row). pointwise nat_eq r x.r) (n + 1) rows) (cond (pointwise nat_eq r row.r) (Some (n + 1 + length rows)) None)
        → cond b (Some n) (position_from (λ (x : Row). pointwise nat_eq r x.r) (n + 1) (rows ++ row ∷ []))
        ≡ option_or (cond b (Some n) (position_from (λ (x : Row). pointwise nat_eq r x.r) (n + 1) rows)) (cond (pointwise nat_eq r row.r) (Some (n + length (x ∷ rows))) None)
    go true more = refl
    go false more = let e : n + length (x ∷ rows) ≡ n + 1 + length rows = omega arith in rw e more

pub number_of-push : (r : List ℕ) (rows : List Row) (row : Row) → number_of r (rows ++ row ∷ []) ≡ option_or (number_of r rows) (cond (pointwise nat_eq r row.r) (Some (length rows)) None)
number_of-push r rows row = let e : 0 + length rows ≡ length rows = omega arith in subst (λ n. number_of r (rows ++ row ∷ []) ≡ option_or (number_of r rows) (cond (pointwise nat_eq r row.r) (Some n) None)) e (number-push 0 r rows row)

or_none : {A : Type 0} (o : Option A) → option_or o None ≡ o
or_none None = refl
or_none (Some x) = refl

-- a row whose ref hasn't arrived is the next
pub placed_push : (places : FinMap ref_cmp ℕ) (rows : List Row) (row : Row) → ((r : List ℕ) → get places r ≡ number_of r rows) → number_of row.r rows ≡ None
    → (r : List ℕ) → get (insert places row.r (length rows)) r ≡ number_of r (rows ++ row ∷ [])
placed_push places rows row placed absent r =
    get-insert nat_list_cmp_total places row.r (length rows) r ∙ ap (λ b. cond b (Some (length rows)) (get places r)) (sym (texts_ties r row.r)) ∙ go (pointwise nat_eq r row.r) refl ∙ sym (number_of-push r rows row)
  where
    go : (b : Bool) → pointwise nat_eq r row.r ≡ b → cond b (Some (length rows)) (get places r) ≡ option_or (number_of r rows) (cond b (Some (length rows)) None)
    go true e = sym (ap (λ o. option_or o (Some (length rows))) (ap (λ q. number_of q rows) (same_text r row.r (sym e)) ∙ absent))
    go false e = placed r ∙ sym (or_none (number_of r rows))

-- and was taken away again
pub placed_taken : (places : FinMap ref_cmp ℕ) (rows : List Row) (r : List ℕ) (n : ℕ) → ((q : List ℕ) → get places q ≡ number_of q rows) → number_of r rows ≡ None
    → (q : List ℕ) → get (remove (insert places r n) r) q ≡ number_of q rows
placed_taken places rows r n placed absent q =
    get-remove nat_list_cmp_total (insert places r n) r q ∙ ap (cond (eq_by_cmp ref_cmp q r) None) (get-insert nat_list_cmp_total places r n q)
    ∙ ap (λ b. cond b None (cond b (Some n) (get places q))) (sym (texts_ties q r)) ∙ go (pointwise nat_eq q r) refl
  where
    go : (b : Bool) → pointwise nat_eq q r ≡ b → cond b None (cond b (Some n) (get places q)) ≡ number_of q rows
    go true e = sym (ap (λ p. number_of p rows) (same_text q r (sym e)) ∙ absent)
    go false e = placed q

-- a row whose ref none has before it is new
pub new_more : (before rows : List Row) (row : Row) → AreNew before rows → number_of row.r (before ++ rows) ≡ None → AreNew before (rows ++ row ∷ [])
new_more before [] row new absent = (subst (λ (xs : List Row). number_of row.r xs ≡ None) (append-nil before) absent, tt)
new_more before (x ∷ rows) row new absent =
    (new.0, new_more (before ++ x ∷ []) rows row new.1 (subst (λ (xs : List Row). number_of row.r xs ≡ None) (sym (append_assoc before (x ∷ []) rows)) absent))

-- numbers that fit a byte
pub are_bytes : (xs : List ℕ) → ((i : ℕ) → slice_index xs i < 256) → AreBytes xs
are_bytes xs each = All-from_get_or (λ (b : ℕ). b < 256) xs 0 (λ i lt. each i)

-- ---- what stands under a number

-- the row of that number has the ref, and is the first that has it
pub record IsRowOf {A : Type 0} (f : Row → A) (r : List ℕ) (rows : List Row) (n : ℕ) : Type 0 where
  pub within : n < length rows
  pub named : (d : Row) → r ≡ (slice_index_or rows n d).r
  pub first : (d : Row) → lookup (pointwise nat_eq r) (map (λ (row : Row). (row.r, f row)) rows) ≡ Some (f (slice_index_or rows n d))

row_from : {A : Type 0} (f : Row → A) (r : List ℕ) (rows : List Row) (k n : ℕ) → position_from (λ (row : Row). pointwise nat_eq r row.r) k rows ≡ Some n
    → (i : ℕ) × (n ≡ k + i) × IsRowOf f r rows i
row_from f r [] k n is = absurd (cc is)
row_from f r (row ∷ rows) k n is = elim (pointwise nat_eq r row.r) as
    (λ b. pointwise nat_eq r row.r ≡ b → cond b (Some k) (position_from (λ (row : Row). pointwise nat_eq r row.r) (k + 1) rows) ≡ Some n → (i : ℕ) × (n ≡ k + i) × IsRowOf f r (row ∷ rows) i) [
      | true ↦ λ e here.
          let same : k ≡ n = cc here in (
            0,
            omega (arith, same),
            record {
              within = omega arith;
              named = λ d. same_text r row.r (sym e);
              first = λ d. ap (λ b. cond b (Some (f row)) (lookup (pointwise nat_eq r) (map (λ (row : Row). (row.r, f row)) rows))) e;
            },
          )
      | false ↦ λ e later.
          let w = row_from f r rows (k + 1) n later in (
            suc w.0,
            omega (arith, w.1),
            record {
              within = omega (arith, w.2.within);
              named = w.2.named;
              first = λ d. ap (λ b. cond b (Some (f row)) (lookup (pointwise nat_eq r) (map (λ (row : Row). (row.r, f row)) rows))) e ∙ w.2.first d;
            },
          )
    ] refl is

pub row_of : {A : Type 0} (f : Row → A) (r : List ℕ) (rows : List Row) (n : ℕ) → number_of r rows ≡ Some n → IsRowOf f r rows n
row_of f r rows n is =
    let w = row_from f r rows 0 n is in
    let same : w.0 ≡ n = omega (arith, w.1) in
    subst (IsRowOf f r rows) same w.2

none_from : {A : Type 0} (f : Row → A) (r : List ℕ) (rows : List Row) (k : ℕ) → position_from (λ (row : Row). pointwise nat_eq r row.r) k rows ≡ None
    → lookup (pointwise nat_eq r) (map (λ (row : Row). (row.r, f row)) rows) ≡ None
none_from f r [] k is = refl
none_from f r (row ∷ rows) k is = elim (pointwise nat_eq r row.r) as
    (λ b. cond b (Some k) (position_from (λ (row : Row). pointwise nat_eq r row.r) (k + 1) rows) ≡ None → cond b (Some (f row)) (lookup (pointwise nat_eq r) (map (λ (row : Row). (row.r, f row)) rows)) ≡ None) [
      | true ↦ λ here. absurd (cc here)
      | false ↦ λ later. none_from f r rows (k + 1) later
    ] is

pub no_row_of : {A : Type 0} (f : Row → A) (r : List ℕ) (rows : List Row) → number_of r rows ≡ None → lookup (pointwise nat_eq r) (map (λ (row : Row). (row.r, f row)) rows) ≡ None
no_row_of f r rows is = none_from f r rows 0 is
