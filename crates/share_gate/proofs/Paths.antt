-- A path, place by place.
use Rattle.std.proofs.Common.{◌≡◌, ℕ, ◌+◌, ◌-◌, ◌<◌, ◌≤◌, ◌&&◌, Bool, true, false, not, cond, arith}
use Rattle.std.proofs.Common.{List, [], ◌∷◌, ◌++◌, length, drop, get_or, Some, None, refl, sym, ap, ◌∙◌}
use Rattle.std.proofs.lemmas.List.{at_drop_more, at_drop_all}
use Rattle.std.specs.Str.{bytes_eq}
use Rattle.std.specs.FinMap.{get}
use Rattle.share_model.specs.declared.verdict.Rule.TheVariants.{WrongTarget, NotTransitive}
use Rattle.share_model.specs.declared.verdict.Verdict.{Verdict}
use Rattle.share_model.specs.declared.verdict.Verdict.TheVariants.{Served, Denied}
use Rattle.share_model.specs.Verdicts.{is_empty}
use Rattle.share_gate.specs.declared.gate.ShareGate.{ShareGate}
use Rattle.share_gate.specs.declared.gate.ShareRow.{ShareRow}
use Rattle.share_gate.specs.Gates.{gate_has_link, gate_missing_link, gate_missing_from, gate_at_end}
use Rattle.share_gate.specs.Gates.{gate_after_share, gate_from_share, gate_verdict}

-- ---- links

module _ (gate : ShareGate) (r : List ℕ) (via : List (List ℕ)) where
  -- the ref at a place of `via`
  abbrev at : ℕ → List ℕ
  at i = get_or via i []

  here : (i : ℕ) → i < length via
      → gate_missing_from gate r via i
      ≡ cond (gate_has_link gate (at (i - 1)) (at i))
      (gate_missing_link gate (i + 1) (at i) (drop (i + 1) via ++ r ∷ [])) (Some i)
  here i lt = at_drop_more (λ xs. gate_missing_link gate i (at (i - 1)) (xs ++ r ∷ [])) via i [] lt

  pub next_link : (i : ℕ) → i < length via → gate_has_link gate (at (i - 1)) (at i) ≡ true
      → gate_missing_from gate r via (i + 1) ≡ gate_missing_from gate r via i
  next_link i lt y =
      let back : i + 1 - 1 ≡ i = omega arith in
      ap (λ k. gate_missing_link gate (i + 1) (at k) (drop (i + 1) via ++ r ∷ [])) back
      ∙ sym (here i lt
      ∙ ap (λ h. cond h (gate_missing_link gate (i + 1) (at i) (drop (i + 1) via ++ r ∷ [])) (Some i)) y)

  pub no_link : (i : ℕ) → i < length via → gate_has_link gate (at (i - 1)) (at i) ≡ false
      → Some i ≡ gate_missing_from gate r via i
  no_link i lt n =
      sym (here i lt
      ∙ ap (λ h. cond h (gate_missing_link gate (i + 1) (at i) (drop (i + 1) via ++ r ∷ [])) (Some i)) n)

  there : (i : ℕ) → length via ≤ i
      → gate_missing_from gate r via i ≡ cond (gate_has_link gate (at (i - 1)) r) None (Some i)
  there i le = at_drop_all (λ xs. gate_missing_link gate i (at (i - 1)) (xs ++ r ∷ [])) via i le

  pub last_link : (i : ℕ) → length via ≤ i → gate_has_link gate (at (i - 1)) r ≡ true
      → None ≡ gate_missing_from gate r via i
  last_link i le y = sym (there i le ∙ ap (λ h. cond h None (Some i)) y)

  pub no_last : (i : ℕ) → length via ≤ i → gate_has_link gate (at (i - 1)) r ≡ false
      → Some i ≡ gate_missing_from gate r via i
  no_last i le n = sym (there i le ∙ ap (λ h. cond h None (Some i)) n)

-- ---- what comes after a share

module _ (gate : ShareGate) (row : ShareRow) (r : List ℕ) where
  -- the path of `via` and then r, without its first ref
  abbrev pub rest_of : List (List ℕ) → List (List ℕ)
  rest_of via = drop 1 (via ++ r ∷ [])

  abbrev end_of : List ℕ → List (List ℕ) → Verdict
  end_of t more = gate_at_end gate r (gate_missing_link gate 2 t more)

  -- what is answered, by whether the second ref is the target, and whether it is the last
  abbrev after : Bool → Bool → List ℕ → List (List ℕ) → Verdict
  after is_target is_last t more =
      cond (not is_target) (Denied WrongTarget)
      (cond (not is_last && not row.transitive) (Denied NotTransitive) (end_of t more))

  pub after_none : (via : List (List ℕ)) → length via ≡ 0 → Served ≡ gate_after_share gate row r (rest_of via)
  after_none [] e = refl
  after_none (s ∷ via) e = absurd (omega (arith, e))

  pub after_wrong : (via : List (List ℕ)) → 1 ≤ length via → bytes_eq (get_or via 1 r) row.target ≡ false
      → Denied WrongTarget ≡ gate_after_share gate row r (rest_of via)
  after_wrong [] le n = absurd (omega (arith, le))
  after_wrong (s ∷ []) le n = sym (ap (λ b. after b true r []) n)
  after_wrong (s ∷ (t ∷ more)) le n = sym (ap (λ b. after b (is_empty (more ++ r ∷ [])) t (more ++ r ∷ [])) n)

  pub after_alone : (via : List (List ℕ)) → length via ≡ 1 → bytes_eq (get_or via 1 r) row.target ≡ true
      → gate_at_end gate r None ≡ gate_after_share gate row r (rest_of via)
  after_alone [] e y = absurd (omega (arith, e))
  after_alone (s ∷ []) e y = sym (ap (λ b. after b true r []) y)
  after_alone (s ∷ (t ∷ more)) e y = absurd (omega (arith, e))

  more_there : (more : List (List ℕ)) → is_empty (more ++ r ∷ []) ≡ false
  more_there [] = refl
  more_there (x ∷ xs) = refl

  turned : (b : Bool) (end : Verdict) → cond b end (Denied NotTransitive) ≡ cond (not b) (Denied NotTransitive) end
  turned true end = refl
  turned false end = refl

  goes_on : (t : List ℕ) (more : List (List ℕ)) → bytes_eq t row.target ≡ true
      → cond row.transitive (end_of t (more ++ r ∷ [])) (Denied NotTransitive)
      ≡ gate_after_share gate row r (t ∷ (more ++ r ∷ []))
  goes_on t more y =
      turned row.transitive (end_of t (more ++ r ∷ []))
      ∙ sym (ap (λ b. after b (is_empty (more ++ r ∷ [])) t (more ++ r ∷ [])) y
      ∙ ap (λ e. after true e t (more ++ r ∷ [])) (more_there more))

  pub after_single : (via : List (List ℕ)) → 2 ≤ length via → bytes_eq (get_or via 1 r) row.target ≡ true
      → row.transitive ≡ false → Denied NotTransitive ≡ gate_after_share gate row r (rest_of via)
  after_single [] le y n = absurd (omega (arith, le))
  after_single (s ∷ []) le y n = absurd (omega (arith, le))
  after_single (s ∷ (t ∷ more)) le y n =
      sym (ap (λ b. cond b (end_of t (more ++ r ∷ [])) (Denied NotTransitive)) n)
      ∙ goes_on t more y

  pub after_all : (via : List (List ℕ)) → 2 ≤ length via → bytes_eq (get_or via 1 r) row.target ≡ true
      → row.transitive ≡ true
      → gate_at_end gate r (gate_missing_from gate r via 2) ≡ gate_after_share gate row r (rest_of via)
  after_all [] le y so = absurd (omega (arith, le))
  after_all (s ∷ []) le y so = absurd (omega (arith, le))
  after_all (s ∷ (t ∷ more)) le y so =
      sym (ap (λ b. cond b (end_of t (more ++ r ∷ [])) (Denied NotTransitive)) so)
      ∙ goes_on t more y

-- ---- the start

pub path_first : (gate : ShareGate) (r : List ℕ) (via : List (List ℕ))
    → gate_from_share gate r (get_or via 0 r) (drop 1 (via ++ r ∷ [])) (get gate.shares (get_or via 0 r))
    ≡ gate_verdict gate r via
path_first gate r [] = refl
path_first gate r (s ∷ more) = refl

pub unlike : (b : Bool) → not b ≡ true → b ≡ false
unlike true e = absurd (cc e)
unlike false e = refl

pub alike : (b : Bool) → not b ≡ false → b ≡ true
alike true e = refl
alike false e = absurd (cc e)
