-- The steps of `deleted_at`, as its calls tell them.
use Rattle.std.proofs.Common.{◌≡◌, ℕ, ◌<◌, true, false, List, [], ◌∷◌, Option, None, Some, sym, ap, subst, ◌∙◌, ℤ}
use Rattle.std.specs.Str.{bytes_eq}
use Rattle.std.specs.FinMap.{len, get}
use Rattle.schema_date.specs.declared.date.When.{When}
use Rattle.claim_model.specs.Facts.{Facts}
use Rattle.claim_model.specs.Deleted.{counts_at}
use Rattle.index_rows.specs.Pairs.{group_after}
use Rattle.index_rows.specs.Deletes.{Deletes, Ringless, row_deleted, target_in}
use Rattle.index_rows.proofs.DeletionWalk.{IsAt, ahead, goes_down, goes_on, stands, is_gone, goes_up}
use Rattle.index_rows.proofs.DeletionEnds.{row_there, on_less, down_less, up_less}

module _ (facts : Facts) (rows : Deletes) (when : When) (r : List ℕ) (ringless : Ringless facts rows) (at : List ℕ) (last after : Option (List ℕ)) (same : after ≡ last) (is : IsAt facts rows when r at last) where
  abbrev Left : List ℕ → Option (List ℕ) → ℕ
  Left y o = ahead facts rows r (len facts) y o

  module _ (d : List ℕ) (date : ℤ) (next : group_after rows at after ≡ ((at, d), date) ∷ group_after rows at (Some d)) where
    step : group_after rows at last ≡ ((at, d), date) ∷ group_after rows at (Some d)
    step = ap (group_after rows at) (sym same) ∙ next

    row : get rows (at, d) ≡ Some date
    row = row_there rows at last (at, d) date (group_after rows at (Some d)) step

    pub down : true ≡ counts_at when date → IsAt facts rows when r d None
    down t = (goes_down facts rows when r ringless at last d date step row (sym t) is).0

    pub down_falls : true ≡ counts_at when date → Left d None < Left at last
    down_falls t = let new = goes_down facts rows when r ringless at last d date step row (sym t) is in down_less facts rows ringless when r at last d date step row new.0 new.1

    pub on : false ≡ counts_at when date → IsAt facts rows when r at (Some d)
    on t = goes_on facts rows when r ringless at last d date step row (sym t) is

    pub on_falls : Left at (Some d) < Left at last
    on_falls = on_less facts rows ringless when r at last d date step row

  module _ (none : group_after rows at after ≡ []) where
    ended : group_after rows at last ≡ []
    ended = ap (group_after rows at) (sym same) ∙ none

    pub not_gone : true ≡ bytes_eq at r → false ≡ row_deleted facts rows when r
    not_gone t = sym (stands facts rows when r ringless at last ended (sym t) is)

    module _ (y : List ℕ) (above : y ≡ target_in facts at) (here : false ≡ bytes_eq at r) where
      pub gone_there : true ≡ bytes_eq y r → true ≡ row_deleted facts rows when r
      gone_there t = sym (is_gone facts rows when r ringless at last ended (sym here) (ap (λ z. bytes_eq z r) (sym above) ∙ sym t) is)

      module _ (x : List ℕ) (more : x ≡ target_in facts y) (there : false ≡ bytes_eq y r) where
        apart : bytes_eq (target_in facts at) r ≡ false
        apart = ap (λ z. bytes_eq z r) (sym above) ∙ sym there

        is_x : target_in facts (target_in facts at) ≡ x
        is_x = sym (more ∙ ap (target_in facts) above)

        pub up : IsAt facts rows when r x (Some y)
        up = subst (λ z. IsAt facts rows when r x (Some z)) (sym above) (subst (λ z. IsAt facts rows when r z (Some (target_in facts at))) is_x (goes_up facts rows when r ringless at last ended (sym here) apart is))

        pub up_falls : Left x (Some y) < Left at last
        up_falls = subst (λ z. Left x (Some z) < Left at last) (sym above) (subst (λ z. Left z (Some (target_in facts at)) < Left at last) is_x (up_less facts rows ringless when r at last (sym here) apart is))
