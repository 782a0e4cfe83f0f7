-- Deletion by a walk over all facts.
use Rattle.std.proofs.Common.{◌≡◌, ℕ, suc, ◌&&◌, ◌||◌, Bool, true, false, not, List, [], ◌∷◌, sym, ap, ◌∙◌}
use Rattle.std.specs.List.{list_any}
use Rattle.std.specs.FinMap.{get, entries}
use Rattle.claim_verify.specs.Verifier.{Accepts}
use Rattle.schema_date.specs.declared.date.When.{When}
use Rattle.claim_model.specs.Facts.{Facts, Entry, passes}
use Rattle.claim_model.specs.Genuine.{is_genuine}
use Rattle.claim_model.specs.Deleted.{deletes, can_be_deleted, deleted_within}

module _ (facts : Facts) (accepts : Accepts) (when : When) (x : List ℕ) (n : ℕ) where
  -- a genuine delete claim on x that counts, and isn't deleted
  abbrev pub deletes_x : Entry → Bool
  deletes_x e = deletes x when e.1.kind && is_genuine facts accepts e.0 && not (deleted_within facts accepts when n e.0)

  abbrev Can : Bool
  Can = passes (λ fact. can_be_deleted fact.kind) (get facts x)

  -- one is enough
  pub gone : (m : ℕ) (left : List Entry) (e : Entry) (rest : List Entry) → m ≡ suc n → left ≡ e ∷ rest → true ≡ Can → list_any deletes_x left ≡ list_any deletes_x (entries facts)
      → true ≡ deletes x when e.1.kind → true ≡ is_genuine facts accepts e.0 → false ≡ deleted_within facts accepts when n e.0 → true ≡ deleted_within facts accepts when m x
  gone m left e rest is split can so_far del genuine alive =
      let here : (deletes_x e || list_any deletes_x rest) ≡ true = λ i. (sym del i && sym genuine i && not (sym alive i)) || list_any deletes_x rest in
      sym (ap (λ k. deleted_within facts accepts when k x) is ∙ (λ i. sym can i && (sym so_far ∙ ap (list_any deletes_x) split ∙ here) i))

  -- and with none it stands
  pub stands : (m : ℕ) (left : List Entry) → m ≡ suc n → left ≡ [] → true ≡ Can → list_any deletes_x left ≡ list_any deletes_x (entries facts) → false ≡ deleted_within facts accepts when m x
  stands m left is none can so_far =
      sym (ap (λ k. deleted_within facts accepts when k x) is ∙ (λ i. sym can i && (sym so_far ∙ ap (list_any deletes_x) none) i))
