-- What a buffer holds after a part of it was filled.
use Rattle.std.proofs.Common.{◌≡◌, ◌≤◌, ◌+◌, ◌-◌, ℕ, List, ◌++◌, take, drop, length, sym, ap, subst, ◌∙◌, arith}
use Rattle.std.proofs.lemmas.List.{take_at, drop_at, take-append-le, take-append-drop, length-take, length-take-le, drop-take, take-take}
use borrow.Rule.Slice.PartMut.{put_mid, mid_of, post_of, same_len_mid}

-- more than a front
take_past : (k n : ℕ) (xs ys : List ℕ) → length xs ≡ k → take (k + n) (xs ++ ys) ≡ xs ++ take n ys
take_past k n xs ys is =
    sym (take-append-drop k (take (k + n) (xs ++ ys)))
    ∙ (λ i. first i ++ second i)
  where
    first : take k (take (k + n) (xs ++ ys)) ≡ xs
    first = take-take k (k + n) (xs ++ ys) (omega arith) ∙ take_at xs ys k is

    second : drop k (take (k + n) (xs ++ ys)) ≡ take n ys
    second = drop-take k n (xs ++ ys) ∙ ap (λ (l : List ℕ). take n l) (drop_at xs ys k is)

pub filled : (at n : ℕ) (buf new : List ℕ) → at ≤ length buf → length new ≡ length (mid_of at (length buf - at) buf) → n ≤ length new
    → take (at + n) (put_mid at (length buf - at) buf new) ≡ take at buf ++ take n new
filled at n buf new le same bound =
    take_past at n (take at buf) (new ++ post_of at (length buf - at) buf) (length-take-le at buf le)
    ∙ ap (λ (l : List ℕ). take at buf ++ l) (take-append-le n new (post_of at (length buf - at) buf) bound)

pub filled_within : (at n : ℕ) (buf new : List ℕ) → at ≤ length buf → length new ≡ length (mid_of at (length buf - at) buf) → n ≤ length new → at + n ≤ length (put_mid at (length buf - at) buf new)
filled_within at n buf new le same bound =
    let len : length (put_mid at (length buf - at) buf new) ≡ length buf = same_len_mid at (length buf - at) buf new same in
    let room : length new ≤ length buf - at = subst (λ (k : ℕ). k ≤ length buf - at) (sym same) (omega (arith, length-take (length buf - at) (drop at buf))) in
    subst (λ (k : ℕ). at + n ≤ k) (sym len) (omega (arith, room, le, bound))
