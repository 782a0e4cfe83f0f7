-- Blobs that are put behind others.
use Rattle.std.proofs.Common.{◌≡◌, ℕ, ◌+◌, ◌<◌, ◌≤◌, Bool, true, false, not, ◌||◌, nat_lt, nat_le, cond, List, [], ◌∷◌, ◌++◌, length, take, drop, get_or, refl, ap, sym, ◌∙◌, Option, Some, None, Result, Ok}
use Rattle.std.specs.Prelude.{is_none}
use Rattle.std.specs.List.{list_any, position_from}
use Rattle.std.specs.Option.{option_map}
use Rattle.std.proofs.Math.Seq.{take-append_seam}
use Rattle.std.proofs.lemmas.List.{drop_more}
use Rattle.std.proofs.lemmas.Bool.{and_from, ltb-false, le-leb}
use mathlib.Core.List.{IsPrefix}
use Rattle.blobref.specs.Blobref.{is_own_ref}
use Rattle.pack_format.specs.Header.{max_size}
use Rattle.edge_base.specs.declared.answers.Put.{Put}
use Rattle.edge_base.specs.declared.answers.Put.TheVariants.{Already}
use Rattle.edge_base.specs.declared.answers.PutFault.{PutFault}
use Rattle.histories.specs.Stores.{Blob, is_ref, number_of, may_arrive, are_arrivals}
use Rattle.histories.specs.StoreCalls.{put_settled}
use Rattle.histories.proofs.Prefixes.{prefix_self, prefix_trans}
use Rattle.histories.proofs.Legality.{legal_more}
use Rattle.home_core.specs.Steps.{put_blob, put_blobs}

longer_by : (store : List Blob) (b : Blob) (t : Bool) → IsPrefix store (cond t (store ++ b ∷ []) store)
longer_by store b true = (b ∷ [], refl)
longer_by store b false = prefix_self store

pub put_blob_longer : (b : Blob) (store : List Blob) → IsPrefix store (put_blob b store)
put_blob_longer b store = longer_by store b (is_none (put_settled b.0 b.1 store))

pub put_blobs_longer : (bs store : List Blob) → IsPrefix store (put_blobs bs store)
put_blobs_longer [] store = prefix_self store
put_blobs_longer (b ∷ bs) store = prefix_trans store (put_blob b store) (put_blobs bs (put_blob b store)) (put_blob_longer b store) (put_blobs_longer bs (put_blob b store))

-- one of the blobs that are left is put
pub puts_next : (bs : List Blob) (i : ℕ) (old now new : List Blob) (b : Blob) → i < length bs → b ≡ get_or bs i b
    → put_blobs bs old ≡ put_blobs (drop i bs) now → new ≡ put_blob b now → put_blobs bs old ≡ put_blobs (drop (i + 1) bs) new
puts_next bs i old now new b lt here before is =
    before ∙ (ap (λ (xs : List Blob). put_blobs xs now) (drop_more bs i b lt)
    ∙ (ap (λ (x : Blob). put_blobs (drop (i + 1) bs) (put_blob x now)) (sym here) ∙ ap (put_blobs (drop (i + 1) bs)) (sym is)))

-- what was put behind is cut off again
pub cut_off : {A : Type 0} (xs ys : List A) (n : ℕ) → IsPrefix xs ys → n ≡ length xs → take n ys ≡ xs
cut_off xs ys n p is = ap (λ (k : ℕ). take k ys) is ∙ (sym (ap (take (length xs)) p.1) ∙ take-append_seam xs p.0)

-- ---- what is put may arrive

settled_none : (a b : Bool) (x y : Result Put PutFault) (o : Option ℕ)
    → cond a (Some x) (cond (not b) (Some y) (option_map (λ (n : ℕ). Ok (Already n)) o)) ≡ None → (a ≡ false) × (b ≡ true) × (o ≡ None)
settled_none true b x y o e = absurd cc
settled_none false false x y o e = absurd cc
settled_none false true x y (Some n) e = absurd cc
settled_none false true x y None e = (refl, refl, refl)

none_step : (i : ℕ) (b : Bool) (o : Option ℕ) (c : Bool) → (o ≡ None → c ≡ false) → cond b (Some i) o ≡ None → (b || c) ≡ false
none_step i true o c f e = absurd cc
none_step i false o c f e = f e

none_any : {A : Type 0} (p : A → Bool) (i : ℕ) (xs : List A) → position_from p i xs ≡ None → list_any p xs ≡ false
none_any p i [] e = refl
none_any p i (x ∷ xs) e = none_step i (p x) (position_from p (i + 1) xs) (list_any p xs) (none_any p (i + 1) xs) e

small_enough : (a b : ℕ) → nat_lt a b ≡ false → nat_le b a ≡ true
small_enough a b e = let l = ltb-false a b e in le-leb b a (let m : b ≤ a = l in m)

pub settled_arrives : (b : Blob) (store : List Blob) → put_settled b.0 b.1 store ≡ None → may_arrive store b ≡ true
settled_arrives b store none =
    let s = settled_none (nat_lt max_size (length b.1)) (is_own_ref b.0 b.1) _ _ (number_of b.0 store) none in
    and_from _ _ (and_from _ _ (small_enough max_size (length b.1) s.0) s.1) (ap not (none_any (λ (x : Blob). is_ref b.0 x.0) 0 store s.2))

arrives_by : (b : Blob) (store : List Blob) → are_arrivals store ≡ true → (o : Option (Result Put PutFault)) → put_settled b.0 b.1 store ≡ o
    → are_arrivals (cond (is_none o) (store ++ b ∷ []) store) ≡ true
arrives_by b store ok None is = legal_more may_arrive [] store b ok (settled_arrives b store is)
arrives_by b store ok (Some answer) is = ok

pub put_blob_arrives : (b : Blob) (store : List Blob) → are_arrivals store ≡ true → are_arrivals (put_blob b store) ≡ true
put_blob_arrives b store ok = arrives_by b store ok (put_settled b.0 b.1 store) refl

pub put_blobs_arrive : (bs store : List Blob) → are_arrivals store ≡ true → are_arrivals (put_blobs bs store) ≡ true
put_blobs_arrive [] store ok = ok
put_blobs_arrive (b ∷ bs) store ok = put_blobs_arrive bs (put_blob b store) (put_blob_arrives b store ok)
