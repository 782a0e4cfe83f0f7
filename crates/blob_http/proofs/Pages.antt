-- Pages that are asked.
use Rattle.std.proofs.Common.{◌≡◌, ℕ, ◌≤◌, min, Bool, true, false, if◌then◌else◌, nat_lt, List, Option, Some, None}
use Rattle.std.proofs.Common.{Result, Ok, Err, refl, subst, arith, codes}
use Rattle.form_urlencoded.specs.Form.{raw_pairs}
use Rattle.answer_text.specs.declared.refusal.Refusal.{Refusal}
use Rattle.blob_routes.specs.declared.pages.Page.{Page}
use Rattle.http_exchange.specs.Parameters.{first_value}
use Rattle.blob_routes.specs.Numbers.{number_in}
use Rattle.blob_routes.specs.Pages.{page_of, page_after, page_at, after_of, limit_of, limit_or_fault, most_page}

by_test : (b : Bool) (n limit : ℕ) (why : Refusal) → (if b then Ok (min n most_page) else Err why) ≡ Ok limit
    → limit ≤ most_page
by_test true n limit why is = let same : min n most_page ≡ limit = cc is in omega arith
by_test false n limit why is = absurd (cc is)

limit_few : (found : Option (List ℕ)) (limit : ℕ) → limit_of found ≡ Ok limit → limit ≤ most_page
limit_few None limit is = let same : most_page ≡ limit = cc is in omega arith
limit_few (Some text) limit is = by_number (number_in text) is
  where
    by_number : (n : Option ℕ) → limit_or_fault n ≡ Ok limit → limit ≤ most_page
    by_number None is = absurd (cc is)
    by_number (Some n) is = by_test (nat_lt 0 n) n limit _ is

at_few : (after : Option (List ℕ)) (found : Option (List ℕ)) (page : Page) → page_at after (limit_of found) ≡ Ok page
    → page.limit ≤ most_page
at_few after found page is = by_limit (limit_of found) refl is
  where
    by_limit : (l : Result ℕ Refusal) → limit_of found ≡ l → page_at after l ≡ Ok page → page.limit ≤ most_page
    by_limit (Ok limit) so is =
        let same : record { after = after; limit = limit } ≡ page = cc is in
        subst (λ (p : Page). p.limit ≤ most_page) same (limit_few found limit so)
    by_limit (Err why) so is = absurd (cc is)

-- a page has at most 1,000 refs
pub page_few : (query : List ℕ) (page : Page) → page_of query ≡ Ok page → page.limit ≤ most_page
unfolding page_of
page_few query page is = by_after (after_of (first_value (codes "after") (raw_pairs query))) is
  where
    by_after : (a : Result (Option (List ℕ)) Refusal)
        → page_after a (limit_of (first_value (codes "limit") (raw_pairs query))) ≡ Ok page
        → page.limit ≤ most_page
    by_after (Ok after) is = at_few after (first_value (codes "limit") (raw_pairs query)) page is
    by_after (Err why) is = absurd (cc is)
