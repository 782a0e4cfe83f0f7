-- The last ref of a page, and one more of some refs.
use Rattle.std.proofs.Common.{◌≡◌, ◌∙◌, ℕ, zero, suc, ◌+◌, ◌-◌, ◌<◌, List, [], ◌∷◌, length, drop, drop-cons, add-one}
use Rattle.std.proofs.Common.{get_or, Some, slice_get, sym, arith}
use Rattle.peer_base.specs.Order.{last_ref}

last_from : (page : List (List ℕ × ℕ)) (e : List ℕ × ℕ) (n : ℕ) → length page ≡ suc n → Some e ≡ slice_get page n
    → Some e.0 ≡ last_ref page
last_from [] e n long h = absurd (omega (arith, long))
last_from (x ∷ []) e zero long h = cc h
last_from (x ∷ []) e (suc n) long h = absurd (omega (arith, long))
last_from (x ∷ y ∷ ys) e zero long h = absurd (omega (arith, long))
last_from (x ∷ y ∷ ys) e (suc n) long h = last_from (y ∷ ys) e n (omega (arith, long)) h

pub last_at : (page : List (List ℕ × ℕ)) (e : List ℕ × ℕ) → Some e ≡ slice_get page (length page - 1) → Some e.0
    ≡ last_ref page
last_at [] e h = absurd (cc h)
last_at (x ∷ xs) e h = last_from (x ∷ xs) e (length (x ∷ xs) - 1) (omega arith) h

pub drop_first : (refs : List (List ℕ)) (i : ℕ) (r : List ℕ) → i < length refs → r ≡ get_or refs i r → drop i refs
    ≡ r ∷ drop (i + 1) refs
drop_first refs i r within is = drop-cons refs i r within ∙ (λ j. sym is j ∷ drop (sym (add-one i) j) refs)
