-- The first entry of a tree, taken out.
use Rattle.std.proofs.Common.{◌≡◌, ℕ, ◌<◌, cond, List, [], ◌∷◌, Option, None, Some, IfSome, IfNone, IsSome, length, refl, sym, ap, ◌∙◌, arith}
use Rattle.std.proofs.lemmas.Bool.{false≢true}
use Rattle.std.specs.BTreeMap.{is_at}
use Rattle.std.specs.Map.{lookup}
use Rattle.std.specs.FinMap.{get, remove, from_entries}
use Rattle.index_rows.specs.Holders.{HolderKey, holder_cmp, holder_total}
use Rattle.index_rows.proofs.RefMaps.{get_at, one_taken}
use Rattle.index_rows.proofs.Orders.{holder_same}
use Rattle.attr_fold.specs.Turns.{ValueTurns}

abbrev pub Entry : Type 0
Entry = HolderKey × (ℕ × ℕ)

module _ (es fs : List Entry) (m : ValueTurns) (is : from_entries es ≡ m) where
  pub pop_held : (o : Option Entry) → IfSome o (λ e. lookup (is_at (holder_cmp e.0)) es ≡ Some e.1)
      → IfSome o (λ e. get m e.0 ≡ Some e.1)
  pop_held None h = tt
  pop_held (Some e) h = ap (λ n. get n e.0) (sym is) ∙ get_at holder_total holder_same es e.0 ∙ h

  pub pop_taken : (o : Option Entry) (P : Entry → Type 0)
      → ((e : Entry) → P e → (q : HolderKey)
      → lookup (is_at (holder_cmp q)) fs ≡ cond (is_at (holder_cmp e.0) q) None (lookup (is_at (holder_cmp q)) es))
      → IfSome o P → IfSome o (λ e. from_entries fs ≡ remove m e.0)
  pop_taken None P f h = tt
  pop_taken (Some e) P f h = one_taken holder_total holder_same es fs e.0 (f e h) ∙ ap (λ n. remove n e.0) is

  pub pop_none : (o : Option Entry) → (0 < length es → IsSome o) → IfNone o ((k : HolderKey) → get m k ≡ None)
  pop_none (Some e) h = tt
  pop_none None h = λ k. ap (λ n. get n k) (sym is) ∙ get_at holder_total holder_same es k
      ∙ by k es (λ less. false≢true (h less))
    where
      by : (k : HolderKey) (xs : List Entry) → (0 < length xs → ⊥) → lookup (is_at (holder_cmp k)) xs ≡ None
      by k [] h = refl
      by k (x ∷ xs) h = absurd (h (omega arith))
