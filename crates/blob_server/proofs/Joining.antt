-- What is done at each desk, joined.
use Rattle.std.proofs.Common.{◌≡◌, ℕ, ◌+◌, List, [], ◌∷◌, ◌++◌, length, get_or, set, refl, sym, subst, arith}
use Rattle.blob_server.specs.Counting.{Attended}

module _ {D : Type 0} (does : D → D → ℕ → ℕ → Type 0) where
  pub attended_one : (xs ys : List D) (e : D) (t s : ℕ) → length xs ≡ 1 → ys ≡ set xs 0 e → does (get_or xs 0 e) e t s → Attended does xs ys t s
  attended_one [] ys e t s one is did = absurd (omega arith)
  attended_one (x ∷ []) ys e t s one is did = subst (λ (zs : List D). Attended does (x ∷ []) zs t s) (sym is) (t, s, 0, 0, did, (refl, refl), omega arith, omega arith)
  attended_one (x ∷ y ∷ xs) ys e t s one is did = absurd (omega arith)

  pub attended_append : (xs xs' ys ys' : List D) (t s u v : ℕ) → Attended does xs xs' t s → Attended does ys ys' u v
      → Attended does (xs ++ ys) (xs' ++ ys') (t + u) (s + v)
  attended_append [] [] ys ys' t s u v a b =
      let p : t + u ≡ u = omega (arith, a.0) in
      let q : s + v ≡ v = omega (arith, a.1) in
      rw (p, q) b
  attended_append [] (e ∷ es) ys ys' t s u v a b = absurd a
  attended_append (d ∷ ds) [] ys ys' t s u v a b = absurd a
  attended_append (d ∷ ds) (e ∷ es) ys ys' t s u v a b =
      (a.0, a.1, a.2 + u, a.3 + v, a.4, attended_append ds es ys ys' a.2 a.3 u v a.5 b, (let p = a.6 in omega (arith, p)), (let q = a.7 in omega (arith, q)))

  pub attended_length : (xs ys : List D) (t s : ℕ) → Attended does xs ys t s → length ys ≡ length xs
  attended_length [] [] t s a = refl
  attended_length [] (e ∷ es) t s a = absurd a
  attended_length (d ∷ ds) [] t s a = absurd a
  attended_length (d ∷ ds) (e ∷ es) t s a = let n = attended_length ds es a.2 a.3 a.5 in omega (arith, n)
