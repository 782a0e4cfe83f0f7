-- Pages that were read.
use Rattle.std.proofs.Common.{◌≡◌, ℕ, ◌≤◌, true, List, [], ◌∷◌, length, None}
use Rattle.std.proofs.Common.{refl, sym}
use Rattle.std.specs.List.{list_all}
use Rattle.std.proofs.lemmas.Bool.{and_from, le-leb}
use Rattle.blobref.specs.Blobref.{is_after}
use Rattle.peer_http.specs.Answers.{is_page}

all_first : (es : List (List ℕ × ℕ)) → list_all (λ (e : List ℕ × ℕ). is_after None e.0) es ≡ true
all_first [] = refl
all_first (x ∷ es) = all_first es

-- few entries are a page from the start
pub no_after : (limit : ℕ) (page : List (List ℕ × ℕ)) → length page ≤ limit → true ≡ is_page None limit page
no_after limit page fits = sym (and_from _ _ (le-leb (length page) limit fits) (all_first page))
