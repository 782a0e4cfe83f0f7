-- Laws of answers.
use Rattle.std.specs.Prelude.{◌≡◌, ◌≤◌, ℕ, ℤ, List, Option, length, true, false, All}
use Rattle.std.specs.declared.cmp.Ordering.{Ordering}
use Rattle.std.specs.declared.cmp.Ordering.TheVariants.{Less}
use Rattle.std.specs.List.{list_any}
use Rattle.std.specs.Str.{bytes_eq}
use Rattle.std.specs.List.Sorted.{IsStrictlySortedBy}
use Rattle.blobref.specs.Blobref.{ref_cmp}
use Rattle.claim_verify.specs.Verifier.{Accepts}
use Rattle.claim_model.specs.Facts.{Facts}
use Rattle.claim_model.specs.Genuine.{is_genuine_permanode}
use Rattle.claim_model.specs.Deleted.{is_deleted}
use Rattle.claim_model.specs.Claims.{last_change}
use Rattle.search_query.specs.declared.query.Sort.{Sort}
use Rattle.search_query.specs.declared.query.Sort.TheVariants.{Ref, Mod, ModDown}
use Rattle.search_query.specs.declared.query.Query.{Query}
use Rattle.search_query.specs.View.{view}
use Rattle.search_meets.specs.Meaning.{meets}
use Rattle.search_eval.specs.Answer.{answer, rising_cmp, falling_cmp}

-- what a query asks for: a genuine permanode, not deleted at the query's date, that meets its constraint then
pub record IsAsked (facts : Facts) (accepts : Accepts) (query : Query) (r : List ℕ) : Type 0 where
  pub genuine : is_genuine_permanode facts accepts r ≡ true
  pub live : is_deleted facts accepts query.at r ≡ false
  pub met : meets facts accepts (view query.constraint) query.at r ≡ true

-- the order of refs that a query asks for
abbrev pub order_of : Sort → (List ℕ → Option ℤ) → List ℕ → List ℕ → Ordering
order_of Ref changed a b = ref_cmp a b
order_of Mod changed a b = rising_cmp (changed a, a) (changed b, b)
order_of ModDown changed a b = falling_cmp (changed a, a) (changed b, b)

-- each ref comes before the next in that order
abbrev pub IsInOrder : Sort → (List ℕ → Option ℤ) → List (List ℕ) → Type 0
IsInOrder sort changed refs = IsStrictlySortedBy (order_of sort changed) refs

-- the answer is full, and each of its refs comes before r
pub record IsBeyond (facts : Facts) (accepts : Accepts) (query : Query) (r : List ℕ) : Type 0 where
  pub full : length (answer facts accepts query) ≡ query.limit
  pub later : All (λ a. order_of query.sort (last_change facts accepts query.at) a r ≡ Less) (answer facts accepts query)

-- an answer has nothing else, and at most `limit` refs, and is in the query's order; and what is asked and isn't in it comes behind `limit`
-- others
pub record AnswersAreAsked : Type 0 where
  pub asked : (facts : Facts) (accepts : Accepts) (query : Query) → All (IsAsked facts accepts query) (answer facts accepts query)
  pub limit : (facts : Facts) (accepts : Accepts) (query : Query) → length (answer facts accepts query) ≤ query.limit
  pub order : (facts : Facts) (accepts : Accepts) (query : Query) → IsInOrder query.sort (last_change facts accepts query.at) (answer facts accepts query)
  pub left_out : (facts : Facts) (accepts : Accepts) (query : Query) (r : List ℕ) → IsAsked facts accepts query r
      → list_any (bytes_eq r) (answer facts accepts query) ≡ false → IsBeyond facts accepts query r
