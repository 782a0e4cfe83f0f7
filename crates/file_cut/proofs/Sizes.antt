-- How many bytes parts have, and how many parts there are.
use Rattle.std.proofs.Common.{◌≡◌, ◌≤◌, ◌<◌, ◌+◌, ◌-◌, ◌*◌, ◌⊎◌, inl, inr, ℕ, zero, suc, List, [], ◌∷◌, ◌++◌, drop, length, map, flat_map, refl, sym, ap, subst, ◌∙◌, append-nil, arith, length-append, length-drop}
use Rattle.std.specs.List.{All}
use Rattle.std.proofs.Math.Nat.{suc-mul}
use Rattle.std.proofs.lemmas.List.{length-map, map-append}
use Rattle.std.proofs.lemmas.List.Elements.{All-nil, All-cons}
use Rattle.std.proofs.lemmas.List.Sums.{sum_by-cons}
use Rattle.std.proofs.lemmas.List.Concat.{flat_map-append}
use Rattle.edge_base.specs.declared.shelf.Shelf.{Ghosts}
use Rattle.schema_fact.specs.Limits.{total_size, greatest_length, IsShortPart}
use Rattle.schema_fact.specs.declared.parts.Part.{Part}
use Rattle.file_cut.specs.Cutting.{cut_within, cut, blob_part, run_part, AreWhole}
use Rattle.file_cut.specs.declared.draft.Draft.{Draft}
use Rattle.file_cut.specs.Drafts.{IsShortList, MayEnd, tree_part, AreChunks, IsPut}

abbrev pub flat : {A : Type 0} → List (List A) → List A
flat {A} runs = flat_map (λ (run : List A). run) runs

flat_snoc : {A : Type 0} (runs : List (List A)) (last : List A) → flat (runs ++ last ∷ []) ≡ flat runs ++ last
flat_snoc {A} runs last = flat_map-append (λ (run : List A). run) runs (last ∷ []) ∙ ap (λ (l : List A). flat runs ++ l) (append-nil last)

-- ---- how many bytes

pub blob_sizes : (chunks : List (List ℕ)) → total_size (map blob_part chunks) ≡ length (flat chunks)
blob_sizes [] = refl
blob_sizes (chunk ∷ chunks) =
    sum_by-cons (λ (p : Part). p.size) (blob_part chunk) (map blob_part chunks)
    ∙ ap (λ (n : ℕ). length chunk + n) (blob_sizes chunks)
    ∙ sym (length-append chunk (flat chunks))

pub run_sizes : (runs : List (List (List ℕ))) → total_size (map run_part runs) ≡ length (flat (flat runs))
run_sizes [] = refl
run_sizes (run ∷ runs) =
    sum_by-cons (λ (p : Part). p.size) (run_part run) (map run_part runs)
    ∙ (λ i. blob_sizes run i + run_sizes runs i)
    ∙ sym (length-append (flat run) (flat (flat runs)))
    ∙ ap (λ (l : List ℕ). length l) (sym (flat_map-append (λ (chunk : List ℕ). chunk) run (flat runs)))

-- ---- parts within the limits

module _ {A : Type 0} (part : A → Part) (begins : (x : A) → (part x).offset ≡ 0) where
  each_short : (xs : List A) → total_size (map part xs) ≤ greatest_length → All IsShortPart (map part xs)
  each_short [] le = All-nil IsShortPart
  each_short (x ∷ xs) le =
      let sum = sum_by-cons (λ (p : Part). p.size) (part x) (map part xs) in
      All-cons IsShortPart (part x) (map part xs) (omega (arith, sum, le), omega (arith, begins x))
      (each_short xs (omega (arith, sum, le)))

  pub short_list : (xs : List A) → total_size (map part xs) ≤ greatest_length → length xs ≤ 4096 → IsShortList (map part xs)
  short_list xs le few = record {
    limits = record { each = each_short xs le; together = le };
    few = omega (arith, few, length-map xs part);
  }

-- ---- how many runs

module _ {A : Type 0} (size : ℕ) (some : 0 < size) where
  pub runs_within : (n k : ℕ) (xs : List A) → length xs ≤ k * size → length (cut_within n size xs) ≤ k
  runs_within zero k xs le = omega arith
  runs_within (suc n) k [] le = omega arith
  runs_within (suc n) zero (x ∷ xs) le = absurd (omega (arith, le))
  runs_within (suc n) (suc k) (x ∷ xs) le =
      let less : length (drop size (x ∷ xs)) ≡ length (x ∷ xs) - size = length-drop size (x ∷ xs) in
      let more = suc-mul k size in
      let rest = runs_within n k (drop size (x ∷ xs)) (omega (arith, less, more, le)) in
      omega (arith, rest)

  -- whole runs, and less than so many of them
  whole_within : (k : ℕ) (runs : List (List A)) → AreWhole size runs → length (flat runs) < k * size → length runs < k
  whole_within zero runs whole less = absurd (omega (arith, less))
  whole_within (suc k) [] whole less = omega arith
  whole_within (suc k) (run ∷ runs) whole less =
      let more = suc-mul k size in
      let rest = whole_within k runs whole.1 (omega (arith, more, less, whole.0, length-append run (flat runs))) in
      omega (arith, rest)

-- ---- the parts of a draft

module _ {B : Type 0} (g : Ghosts B) (full : ℕ) (few : full ≤ 4096) where
  -- its open run
  pub run_short : (start now : B) (draft : Draft) (chunks : List (List ℕ)) → length (flat chunks) ≤ greatest_length → IsPut g full start now draft chunks → IsShortList draft.run
  run_short start now draft chunks le (runs, last, is, same, either, puts) =
      let bytes : length (flat chunks) ≡ length (flat (flat runs)) + length (flat last) =
      ap (λ (l : List (List ℕ)). length (flat l)) (sym same) ∙ ap (λ (l : List ℕ). length l) (flat_map-append (λ (chunk : List ℕ). chunk) (flat runs) last)
      ∙ length-append (flat (flat runs)) (flat last) in
      subst IsShortList (sym is.run) (short_list blob_part (λ chunk. refl) last (omega (arith, blob_sizes last, bytes, le)) (omega (arith, is.fits, few)))

  -- and all its runs
  pub may_end : 0 < full → (start now : B) (draft : Draft) (chunks : List (List ℕ)) → length (flat chunks) ≤ greatest_length → (k : ℕ) → k ≡ 4096 → length chunks ≤ k * full
      → IsPut g full start now draft chunks → MayEnd draft
  may_end some start now draft chunks le k k_is many put = record { run = run_short start now draft chunks le put; runs = go put }
    where
      less_runs : (runs : List (List (List ℕ))) (last : List (List ℕ)) → AreWhole full runs → AreChunks runs last chunks → (runs ≡ []) ⊎ (0 < length last) → length runs < k
      less_runs runs last whole same (inl none) = omega (arith, ap length none, k_is)
      less_runs runs last whole same (inr more) =
          let sum : length chunks ≡ length (flat runs) + length last = ap length (sym same) ∙ length-append (flat runs) last in
          whole_within full some k runs whole (omega (arith, sum, more, many))

      go : IsPut g full start now draft chunks → IsShortList (draft.runs ++ tree_part draft.run ∷ [])
      go (runs, last, is, same, either, puts) =
          let all : map run_part (runs ++ last ∷ []) ≡ draft.runs ++ tree_part draft.run ∷ [] =
          map-append run_part runs (last ∷ []) ∙ (λ i. sym is.runs_are i ++ tree_part (sym is.run i) ∷ []) in
          let bytes : length (flat (flat (runs ++ last ∷ []))) ≡ length (flat chunks) = ap (λ (l : List (List ℕ)). length (flat l)) (flat_snoc runs last ∙ same) in
          let less = less_runs runs last is.whole same either in
          subst IsShortList all (short_list run_part (λ run. refl) (runs ++ last ∷ []) (omega (arith, run_sizes (runs ++ last ∷ []), bytes, le))
          (omega (arith, less, k_is, length-append runs (last ∷ []))))

-- what is cut of so many bytes
pub cut_few : (size k : ℕ) → 0 < size → (bytes : List ℕ) → length bytes ≤ k * size → length (cut size bytes) ≤ k
cut_few size k some bytes le = runs_within size some (length bytes) k bytes le
