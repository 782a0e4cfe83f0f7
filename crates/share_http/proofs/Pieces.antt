-- Refs between commas, one after the other.
use Rattle.std.proofs.Common.{◌≡◌, List, ℕ, [], ◌∷◌, ◌++◌, length, refl, ap, sym, ◌∙◌, append_assoc, Option, Some, None}
use Rattle.std.specs.Prelude.{option_and_then, option_map}
use Rattle.blobref.specs.Blobref.{blobref_in}
use Rattle.std.specs.List.{slice_split}
use Rattle.share_http.specs.Asking.{is_comma, refs_of, via_of}

-- the refs of the texts that are left, after these
abbrev pub after : List (List ℕ) → Option (List (List ℕ)) → Option (List (List ℕ))
after refs found = option_map (λ (more : List (List ℕ)). refs ++ more) found

one_more : (refs : List (List ℕ)) (r : List ℕ) (found : Option (List (List ℕ)))
    → after refs (option_map (λ (rs : List (List ℕ)). r ∷ rs) found) ≡ after (refs ++ r ∷ []) found
one_more refs r None = refl
one_more refs r (Some rs) = ap Some (sym (append_assoc refs (r ∷ []) rs))

pub after_ref : (refs : List (List ℕ)) (r x : List ℕ) (xs : List (List ℕ)) → Some r ≡ blobref_in x
    → after refs (refs_of (x ∷ xs)) ≡ after (refs ++ r ∷ []) (refs_of xs)
after_ref refs r x xs is =
    ap (λ (o : Option (List ℕ)).
    after refs (option_and_then (λ r. option_map (λ (rs : List (List ℕ)). r ∷ rs) (refs_of xs)) o)) (sym is)
    ∙ one_more refs r (refs_of xs)

pub after_other : (refs : List (List ℕ)) (x : List ℕ) (xs : List (List ℕ)) → None ≡ blobref_in x
    → after refs (refs_of (x ∷ xs)) ≡ None
after_other refs x xs is =
    ap (λ (o : Option (List ℕ)).
    after refs (option_and_then (λ r. option_map (λ (rs : List (List ℕ)). r ∷ rs) (refs_of xs)) o)) (sym is)

-- with no refs so far
pub after_none : (found : Option (List (List ℕ))) → after [] found ≡ found
after_none None = refl
after_none (Some rs) = refl

-- of a text that isn't empty
pub some_text : (text : List ℕ) → (length text ≡ 0 → ⊥) → refs_of (slice_split is_comma text) ≡ via_of text
some_text [] some = absurd (some refl)
some_text (c ∷ cs) some = refl
