-- Which page of the refs is asked.
use Rattle.std.specs.Prelude.{ℕ, List, [], ◌∷◌, min, codes, Option, Some, None, Result, Ok, Err, if◌then◌else◌, nat_lt}
use Rattle.form_urlencoded.specs.Form.{raw_pairs}
use Rattle.blobref.specs.Blobref.{blobref_in}
use Rattle.answer_text.specs.declared.refusal.Refusal.{Refusal}
use Rattle.answer_text.specs.declared.refusal.Refusal.TheVariants.{BadRef, BadNumber}
use Rattle.blob_routes.specs.declared.pages.Page.{Page}
use Rattle.http_exchange.specs.Parameters.{first_value}
use Rattle.blob_routes.specs.Numbers.{number_in}

-- the most refs of a page
abbrev pub most_page : ℕ
most_page = 1000

abbrev pub ref_or_fault : Option (List ℕ) → Result (Option (List ℕ)) Refusal
ref_or_fault None = Err BadRef
ref_or_fault (Some r) = Ok (Some r)

-- after which ref; an empty text asks for none
abbrev pub after_of : Option (List ℕ) → Result (Option (List ℕ)) Refusal
after_of None = Ok None
after_of (Some []) = Ok None
after_of (Some (c ∷ text)) = ref_or_fault (blobref_in (c ∷ text))

abbrev pub limit_or_fault : Option ℕ → Result ℕ Refusal
limit_or_fault None = Err BadNumber
limit_or_fault (Some n) = if nat_lt 0 n then Ok (min n most_page) else Err BadNumber

-- how many refs at most
abbrev pub limit_of : Option (List ℕ) → Result ℕ Refusal
limit_of None = Ok most_page
limit_of (Some text) = limit_or_fault (number_in text)

abbrev pub page_at : Option (List ℕ) → Result ℕ Refusal → Result Page Refusal
page_at after (Ok limit) = Ok (record { after = after; limit = limit })
page_at after (Err refusal) = Err refusal

abbrev pub page_after : Result (Option (List ℕ)) Refusal → Result ℕ Refusal → Result Page Refusal
page_after (Ok after) limit = page_at after limit
page_after (Err refusal) limit = Err refusal

-- by the parameters of a text
abbrev pub page_by : List (List ℕ × List ℕ) → Result Page Refusal
page_by pairs =
    page_after (after_of (first_value (codes "after") pairs)) (limit_of (first_value (codes "limit") pairs))

-- the page that a query asks, or the refusal
unfoldable pub page_of : List ℕ → Result Page Refusal
page_of query = page_by (raw_pairs query)
