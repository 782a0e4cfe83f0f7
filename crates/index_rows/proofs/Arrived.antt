-- The facts of the refs that have arrived.
use Rattle.std.proofs.Common.{◌≡◌, ℕ, List, None, cond, sym, ap, ◌∙◌}
use Rattle.std.specs.FinMap.{get, contains_key, get-retain_keys, same_map}
use Rattle.claim_model.specs.Facts.{Facts}
use Rattle.index_rows.specs.States.{States}
use Rattle.index_rows.specs.Waiting.{arrived}
use Rattle.index_rows.proofs.Orders.{ref_total, ref_same}

pub get-arrived : (facts : Facts) (state : States) (y : List ℕ)
    → get (arrived facts state) y ≡ cond (contains_key state y) (get facts y) None
get-arrived facts state y =
    get-retain_keys facts (λ x. contains_key state x) y (λ x t. ap (contains_key state) (sym (ref_same y x t)))

-- the same refs, the same facts
pub arrived_same : (facts : Facts) (a b : States) → ((y : List ℕ) → contains_key a y ≡ contains_key b y)
    → arrived facts a ≡ arrived facts b
arrived_same facts a b h = same_map ref_total ref_same _ _
    (λ y. get-arrived facts a y ∙ ap (λ c. cond c (get facts y) None) (h y) ∙ sym (get-arrived facts b y))
