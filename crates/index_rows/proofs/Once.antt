-- A list in which each ref stands once, and one ref more.
use Rattle.std.proofs.Common.{◌≡◌, ℕ, Bool, false, List, [], ◌∷◌, ◌++◌, sym, ap, ◌∙◌, append_assoc}
use Rattle.std.proofs.lemmas.List.{append-nil}
use Rattle.claim_model.specs.Least.{passes_or_in}
use Rattle.index_rows.specs.Once.{AreNew}

pub new-push : (p : List ℕ → Bool) (before order : List (List ℕ)) (w : List ℕ) → AreNew p before order
    → passes_or_in p (before ++ order) w ≡ false → AreNew p before (order ++ w ∷ [])
new-push p before [] w h t = (ap (λ o. passes_or_in p o w) (sym (append-nil before)) ∙ t, tt)
new-push p before (x ∷ order) w h t = (
  h.0,
  new-push p (before ++ x ∷ []) order w h.1
      (ap (λ o. passes_or_in p o w) (append_assoc before (x ∷ []) order) ∙ t),
)
